-- What the two tests said.
use Rattle.std.proofs.Common.{rules}
use Rattle.cfg_sharing.proofs.Verdicts.{differs, agree, strays_there}
use Rattle.cfg_sharing.proofs.judging.judge.Goals as goal

pub returns-then-not-has_one-clause-agrees : goal.returns-then-not-has_one-clause-agrees
returns-then-not-has_one-clause-agrees g c = differs c.args.shared c.in_ok-has_one.has_one (search rules) c.in_ok-has_one.ensures

pub returns-then-strays-ne0-clause-agrees : goal.returns-then-strays-ne0-clause-agrees
returns-then-strays-ne0-clause-agrees g c = strays_there c.args.shared c.strays-strays.result c.strays-strays.ensures (search rules)

pub returns-clause-agrees : goal.returns-clause-agrees
returns-clause-agrees g c = agree c.args.shared c.in_ok-has_one.has_one c.strays-strays.result (search rules) c.in_ok-has_one.ensures c.strays-strays.ensures (search rules)
