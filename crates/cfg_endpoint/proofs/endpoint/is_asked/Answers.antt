-- A role that is not empty is asked for where its path is one.
use Rattle.cfg_endpoint.proofs.Makings.{if_ok, asked_by_path}
use Rattle.cfg_endpoint.proofs.endpoint.is_asked.Goals as goal

pub returns : goal.returns
returns c = if_ok c.is_path.result _ _ c.is_path.ensures (λ b is. asked_by_path c.args.role.now c.args.path.now b c.utf8.role c.if-is_empty.ensures c.requires is)
