-- The items so far say, and then those that are left, from the last one on, what all say.
use Rattle.std.proofs.Common.{◌≡◌, ◌++◌, Ok, map, length, reverse, vec_len}
use Rattle.serde_json.specs.View.{items_view}
use Rattle.cfg_base.specs.Gives.{◌>>=◌}
use Rattle.cfg_script.specs.Forms.{each}
use Rattle.cfg_script.proofs.form.read_items.Given as goal

abbrev pub invariant-loop-value : goal.invariant-loop-value
invariant-loop-value g l =
    (each g.F.Form.form (length l.read.items) (items_view (reverse l.items.items)) >>= λ rest. Ok (map g.F.Form.seen l.read.items ++ rest)) ≡ each g.F.Form.form 0 (items_view l.fn.items.items)

abbrev pub decreases-loop-value : goal.decreases-loop-value
decreases-loop-value g l = vec_len l.items
