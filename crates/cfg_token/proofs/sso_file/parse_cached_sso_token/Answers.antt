use Rattle.cfg_token.proofs.Files.{answers_file}
use Rattle.cfg_token.proofs.sso_file.parse_cached_sso_token.Goals as goal

pub returns-clause-answers : goal.returns-clause-answers
returns-clause-answers c = answers_file c.args.bytes.now c.read.result c.read.ensures
