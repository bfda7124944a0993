use Rattle.std.proofs.Common.{◌≡◌, length, ◌+◌, ◌-◌, ◌*◌}
use Rattle.cfg_json.specs.ReadingValues.{value_at, items_at, or_front}
use Rattle.cfg_json.proofs.nesting.+nesting.Given as goal

abbrev pub decreases-skip_value : goal.decreases-skip_value
decreases-skip_value l = 6 * l.depth

abbrev pub decreases-skip_padded : goal.decreases-skip_padded
decreases-skip_padded l = 6 * l.depth + 1

abbrev pub decreases-skip_item : goal.decreases-skip_item
decreases-skip_item l = 6 * l.depth + 2

abbrev pub decreases-skip_turn : goal.decreases-skip_turn
decreases-skip_turn l = 6 * l.depth + 3

abbrev pub decreases-skip_items : goal.decreases-skip_items
decreases-skip_items l = 6 * l.depth + 4

abbrev pub decreases-skip_inside : goal.decreases-skip_inside
decreases-skip_inside l = 6 * l.depth + 5

abbrev pub invariant-skip_items-loop : goal.invariant-skip_items-loop
invariant-skip_items-loop l = or_front l.has (items_at l.keyed (value_at l.depth) (length l.text - l.counter) l.rest) ≡ items_at l.keyed (value_at l.depth) (length l.text) l.text
