-- The items before the index are the same.
use Rattle.std.proofs.Common.{◌≡◌, take, length}
use Rattle.cfg_world.proofs.same.same_items.Given as goal

abbrev pub invariant-loop-index : goal.invariant-loop-index
invariant-loop-index g l = record {
  before : take l.index l.one ≡ take l.index l.other;
  long : length l.one ≡ length l.other;
}
