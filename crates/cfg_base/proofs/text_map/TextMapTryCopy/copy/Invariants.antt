-- The copy has the names so far, and the others are left.
use Rattle.std.proofs.Common.{◌≡◌, ◌++◌, map}
use Rattle.cfg_base.specs.TextMap.{named}
use Rattle.cfg_base.specs.Entries.{each_set}
use Rattle.cfg_base.proofs.MapCopies.{lent}
use Rattle.cfg_base.proofs.text_map.TextMapTryCopy.copy.Given as goal

abbrev pub invariant-loop-name : goal.invariant-loop-name
invariant-loop-name g l = (l.copied ≡ each_set (map named (map lent l.yielded))) × (map lent l.yielded ++ l.name-iterator ≡ l.initial.name-iterator)
