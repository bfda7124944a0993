use Rattle.cfg_login_token.proofs.Files.{front_is_why}
use Rattle.cfg_login_token.proofs.laws.a_file_is_refused_for_its_front.Goals as goal

pub returns : goal.returns
returns c = front_is_why
