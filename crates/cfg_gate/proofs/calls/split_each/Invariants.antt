-- The callers so far have the worlds that were taken, and the pass has an allowance for the others.
use Rattle.std.proofs.Common.{◌≡◌, ◌++◌, ◌<◌, ◌≤◌, All, map, length}
use Rattle.std.specs.Vec.Iter.{into_iter_items, into_iter_len}
use Rattle.cfg_gate.proofs.calls.split_each.Given as goal

abbrev pub invariant-loop-world : goal.invariant-loop-world
invariant-loop-world g l = record {
  worlds : map (λ c. c.world) l.callers.items ++ into_iter_items l.world-iterator ≡ l.fn.worlds.items;
  len : into_iter_len l.world-iterator ≡ length (into_iter_items l.world-iterator);
  first : l.pass.place.table_id ≡ l.fn.gate.table.shared.table_id;
  seen : l.pass.seen ≡ l.fn.pass.seen;
  left : length (into_iter_items l.world-iterator) ≤ l.pass.allowance;
  of : All (λ c. c.pass.place.table_id ≡ l.fn.gate.table.shared.table_id) l.callers.items;
  ready : All (λ c. 0 < c.pass.allowance) l.callers.items;
}
