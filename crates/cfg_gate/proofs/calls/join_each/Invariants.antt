-- The callers so far were taken in, and the pass has seen what they had.
use Rattle.std.proofs.Common.{◌≡◌, ◌++◌, All, map, length}
use Rattle.std.specs.Vec.Iter.{into_iter_items, into_iter_len}
use Rattle.cfg_gate.specs.Turns.{greatest}
use Rattle.cfg_gate.proofs.calls.join_each.Given as goal

abbrev pub invariant-loop-back : goal.invariant-loop-back
invariant-loop-back g l = record {
  calls : l.calls.items ++ map (λ b. b.called) (into_iter_items l.back-iterator) ≡ map (λ b. b.called) l.fn.returned.items;
  len : into_iter_len l.back-iterator ≡ length (into_iter_items l.back-iterator);
  of : l.pass.place.table_id ≡ l.fn.gate.table.shared.table_id;
  all_of : All (λ b. b.pass.place.table_id ≡ l.fn.gate.table.shared.table_id) (into_iter_items l.back-iterator);
  seen : All (λ b. b.called.seen ≡ b.pass.seen) (into_iter_items l.back-iterator);
  most : l.pass.seen ≡ greatest l.fn.pass.seen (map (λ c. c.seen) l.calls.items);
}
