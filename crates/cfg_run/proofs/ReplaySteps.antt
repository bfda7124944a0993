-- Questions that are shown.
use Rattle.std.proofs.Common.{◌≡◌, ℕ, List, ◌++◌, zero, suc, [], ◌∷◌, length, take, drop, get_or, Option, Some, None, IfSome, ap, ◌∙◌, subst}
use Rattle.std.proofs.Math.Seq.{take-append_seam}
use Rattle.cfg_world.specs.declared.ask.Question.{Question}
use Rattle.cfg_world.specs.Fits.{Pair}
use Rattle.cfg_world.specs.Replayed.{IsNext}
use Rattle.cfg_run.specs.SoFar.{AskedSoFar}

pub some_is : {A : Type 0} (x y : A) → Some x ≡ Some y → x ≡ y
some_is x y h = cc

pub no_question : (q : Question) → ◌≡◌ {A = Option Question} None (Some q) → ⊥
no_question q h = cc

-- what holds of a question that is shown holds of the one that it is
pub if_shown : (P : Question → Type 0) (shown : Option Question) (q : Question) → shown ≡ Some q → IfSome shown P → P q
if_shown P shown q e h = subst (λ s. IfSome s P) e h

-- the next receipt has the question
pub next_is : (receipts : List Pair) (at : ℕ) (d e : Pair) (q : Question) → e ≡ get_or receipts at d → IsNext (drop at receipts) q → e.0 ≡ q
next_is [] zero d e q is next = absurd next
next_is [] (suc at) d e q is next = absurd next
next_is (x ∷ receipts) zero d e q is next = ap (λ (y : Pair). y.0) is ∙ next
next_is (x ∷ receipts) (suc at) d e q is next = next_is receipts at d e q is next

-- with the new receipt given up, all is as it was
pub taken_back : (before handed left : AskedSoFar) (receipt asked : List Pair) (count : ℕ) → asked ≡ before.asked → count ≡ length asked →
    handed ≡ record before { asked = before.asked ++ receipt } → left ≡ record handed { asked = take count handed.asked } → left ≡ before
taken_back before handed left receipt asked count same counted grew cut =
    cut
    ∙ ap (λ (s : AskedSoFar). record s { asked = take count s.asked }) grew
    ∙ ap (λ (xs : List Pair). record before { asked = xs }) (ap (λ n. take n (before.asked ++ receipt)) (counted ∙ ap length same) ∙ take-append_seam before.asked receipt)
