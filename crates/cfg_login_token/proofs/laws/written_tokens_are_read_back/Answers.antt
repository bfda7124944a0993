use Rattle.cfg_login_token.proofs.ReadBack.{written_token}
use Rattle.cfg_login_token.proofs.laws.written_tokens_are_read_back.Goals as goal

pub returns : goal.returns
returns c = written_token
