-- Without a token there is nothing to compare; else both lists are compared.
use Rattle.std.proofs.Common.{rules}
use Rattle.cfg_sharing.proofs.Verdicts.{no_key, compared}
use Rattle.cfg_sharing.proofs.judging.has_one_history.Goals as goal

pub returns-then-is_none : goal.returns-then-is_none
returns-then-is_none g c = no_key c.args.shared.now (search rules)

pub returns : goal.returns
returns g c = compared c.args.shared.now c.same.result c.in_ok-handed.handed c.in_ok-recorded.recorded c.in_ok-handed.ensures c.in_ok-recorded.ensures c.same.ensures (search rules)
