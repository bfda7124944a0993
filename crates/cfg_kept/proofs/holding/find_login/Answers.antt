use Rattle.std.proofs.Common.{refl}
use Rattle.cfg_kept.proofs.SectionSteps.{found_value}
use Rattle.cfg_kept.proofs.holding.find_login.Goals as goal

pub returns : goal.returns
returns c = rw (found_value c.args.state.now.loads _ c.in_ok-load.ensures.is, c.last_attempt-last.ensures) refl
