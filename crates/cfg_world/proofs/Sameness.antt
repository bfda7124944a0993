-- When a test of two values is true exactly where they are equal.
use Rattle.std.proofs.Common.{◌≡◌, ◌↔◌, ℕ, Bool, List, sym, ◌∙◌}
use Rattle.std.specs.Prelude.{nat_eq, IsTrue}
use Rattle.std.specs.Cmp.Lexicographic.{pointwise}
use Rattle.std.proofs.lemmas.Slice.Eq.{bytes_eq-Decides}

-- what `==` says of two lists of numbers
pub same_list : (xs ys : List ℕ) (r : Bool) → r ≡ pointwise nat_eq xs ys → IsTrue r ↔ (xs ≡ ys)
same_list xs ys r e = (λ t. (bytes_eq-Decides xs ys).0 (sym e ∙ t), λ s. e ∙ (bytes_eq-Decides xs ys).1 s)
