-- Until the turn comes the caller knows what it knew.
use Rattle.std.proofs.Common.{◌≡◌}
use Rattle.cfg_gate.proofs.turns.wait_turn.Given as goal

abbrev pub invariant-loop : goal.invariant-loop
invariant-loop g l =
    (l.place.me ≡ l.fn.place.me) × (l.place.table_id ≡ l.fn.place.table_id)
    × (goal.iterator-loop g).can_next l.iterator' × (goal.iterator-loop g).is_finite l.iterator'
