-- The worlds so far, and lists that are left.
use Rattle.std.proofs.Common.{◌≡◌, map}
use Rattle.std.specs.Prelude.{All}
use Rattle.std.specs.Vec.Iter.{into_iter_items}
use Rattle.cfg_world.specs.Script.{AllFit}
use Rattle.cfg_program.specs.Sharing.{new_world}
use Rattle.cfg_program.proofs.share.worlds_over.Given as goal

abbrev pub invariant-loop-lists : goal.invariant-loop-lists
invariant-loop-lists l = record {
  worlds : l.worlds.items ≡ map new_world l.yielded;
  fit : All AllFit (into_iter_items l.lists-iterator);
}
