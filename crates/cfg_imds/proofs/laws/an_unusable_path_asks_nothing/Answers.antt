use Rattle.cfg_imds.proofs.Quiet.{unusable_quiet}
use Rattle.cfg_imds.proofs.laws.an_unusable_path_asks_nothing.Goals as goal

pub returns : goal.returns
returns c = λ client kept path part unusable begun. unusable_quiet client kept path part unusable begun
