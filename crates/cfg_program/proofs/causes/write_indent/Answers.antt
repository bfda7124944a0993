-- One level more.
use Rattle.std.proofs.Common.{◌≡◌, ℕ, zero, suc, ◌+◌, List, ◌++◌, refl, ap, ◌∙◌, append_assoc, arith}
use Rattle.std.specs.Prelude.{codes}
use Rattle.cfg_program.specs.CauseLines.{indent}
use Rattle.cfg_program.proofs.causes.write_indent.Goals as goal

one_deeper : (n : ℕ) → indent n ++ codes "  " ≡ indent (suc n)
one_deeper zero = refl
one_deeper (suc n) = ap (λ (l : List ℕ). codes "  " ++ l) (one_deeper n)

deeper : (a b c : List ℕ) (n : ℕ) → b ≡ a ++ indent n → c ≡ b ++ codes "  " → c ≡ a ++ indent (n + 1)
deeper a b c n so_far more =
    more ∙ ap (λ (l : List ℕ). l ++ codes "  ") so_far ∙ append_assoc a (indent n) (codes "  ")
    ∙ ap (λ (l : List ℕ). a ++ l) (one_deeper n ∙ ap indent (let e : suc n ≡ n + 1 = omega arith in e))

pub loop-preserved : goal.loop-preserved
loop-preserved c = deeper _ _ _ c.loop.counter c.loop.invariant c.in_ok-extend_from_slice.ensures.items
