-- The map holds the variables so far.
use Rattle.std.proofs.Common.{◌≡◌, map}
use Rattle.cfg_base.specs.TextMap.{named}
use Rattle.cfg_base.specs.Entries.{each_set}
use Rattle.cfg_types.proofs.environment.Env.new.Given as goal

abbrev pub invariant-loop-name : goal.invariant-loop-name
invariant-loop-name l = l.variables ≡ each_set (map named l.yielded)
