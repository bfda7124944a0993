use Rattle.cfg_imds.proofs.Pathing.{path_is, is_a_path}
use Rattle.cfg_imds.proofs.laws.a_path_is_a_uri.Goals as goal

pub returns : goal.returns
returns c = λ text. (path_is text, is_a_path text)
