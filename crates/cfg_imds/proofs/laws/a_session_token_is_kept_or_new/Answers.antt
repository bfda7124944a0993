use Rattle.cfg_imds.specs.Clients.{place_of}
use Rattle.cfg_imds.proofs.Shapes.{settle_shape}
use Rattle.cfg_imds.proofs.laws.a_session_token_is_kept_or_new.Goals as goal

pub returns : goal.returns
returns c = λ client kept part out reads. settle_shape client.service (place_of client.endpoint) kept part out reads
