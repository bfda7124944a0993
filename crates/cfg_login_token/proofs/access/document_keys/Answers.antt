use Rattle.cfg_login_token.proofs.Documents.{document_said}
use Rattle.cfg_login_token.proofs.access.document_keys.Goals as goal

pub returns : goal.returns
returns c = document_said c.args.members.now c.credentials_of.result c.keys_in.result c.credentials_of.ensures c.keys_in.ensures
