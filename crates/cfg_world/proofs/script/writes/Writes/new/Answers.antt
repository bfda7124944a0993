-- No writes, and an index of nothing.
use Rattle.std.proofs.Common.{sym, subst, List, ℕ}
use Rattle.std.specs.FinMap.{empty}
use Rattle.cfg_base.specs.TextMap.{Named}
use Rattle.cfg_world.specs.Paths.{Finds}
use Rattle.cfg_world.proofs.PathIndex.{finds_none}
use Rattle.cfg_world.proofs.script.writes.Writes.new.Goals as goal

pub invariant_of-result : goal.invariant_of-result
invariant_of-result c =
    subst (λ (m : Named ℕ). Finds m c.new.result.items) (sym c.new-2.ensures)
    (subst (λ (es : List (List ℕ × List ℕ)). Finds empty es) (sym c.new.ensures.items) finds_none)
