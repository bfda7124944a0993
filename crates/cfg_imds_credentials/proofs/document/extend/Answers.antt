use Rattle.cfg_imds_credentials.proofs.ReadSteps.{jittered_ends}
use Rattle.cfg_imds_credentials.proofs.document.extend.Goals as goal

pub returns : goal.returns
returns g c = jittered_ends _ _ _ _ _ _ _ c.in_ok-jitter.ensures.follows c.in_ok-outcome.ensures
