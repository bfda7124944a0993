use Rattle.cfg_login_token.proofs.Files.{answers_file}
use Rattle.cfg_login_token.proofs.login_file.parse_cached_login_token.Goals as goal

pub returns-clause-answers : goal.returns-clause-answers
returns-clause-answers c = answers_file c.args.bytes.now c.read.result c.read.ensures
