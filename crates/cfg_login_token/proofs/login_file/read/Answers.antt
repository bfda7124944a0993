use Rattle.std.proofs.lemmas.Result.{err_from_is_err_and}
use Rattle.cfg_login_token.proofs.Files.{file_fails, file_reads}
use Rattle.cfg_login_token.proofs.login_file.read.Goals as goal

pub returns-in_err-members : goal.returns-in_err-members
returns-in_err-members c = let p = err_from_is_err_and c.from_residual.result c.from_residual.ensures.1 in rw (p.1, p.2) (file_fails c.args.bytes.now _ c.in_err-members.ensures.reads)

pub returns : goal.returns
returns c = file_reads c.args.bytes.now c.in_ok-members.members c.token.result c.in_ok-members.ensures.reads c.token.ensures
