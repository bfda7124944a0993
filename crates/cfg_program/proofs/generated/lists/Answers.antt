-- The replies of all numbers.
use Rattle.std.proofs.Common.{rules}
use Rattle.cfg_program.proofs.Granting.{lists_fit}
use Rattle.cfg_program.proofs.generated.lists.Goals as goal

pub returns-clause-value : goal.returns-clause-value
returns-clause-value c = search rules

pub returns-clause-fit : goal.returns-clause-fit
returns-clause-fit c = search (rules, lists_fit c.args.n)
