-- Nothing is found in the first of them; the others are as they were.
use Rattle.std.proofs.Common.{◌≡◌, ◌++◌, map, take, drop}
use Rattle.cfg_kept.specs.KeptStates.{kept_key}
use Rattle.cfg_meta.specs.MemberParts.{keeping_of, with_nothing_found}
use Rattle.cfg_meta.proofs.provide.clear_found.Given as goal

abbrev pub invariant-loop-one : goal.invariant-loop-one
invariant-loop-one l = record {
  found : map keeping_of l.kept ≡ map with_nothing_found (take l.one-index (map keeping_of l.fn.kept)) ++ drop l.one-index (map keeping_of l.fn.kept);
  keys : map kept_key l.kept ≡ map kept_key l.fn.kept;
}
