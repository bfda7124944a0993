-- A call that went on is not one of those that fail.
use Rattle.std.proofs.Common.{◌≡◌, ◌↔◌, ℕ, ◌+◌, Bool, false, List, sym, ap, ◌∙◌}
use Rattle.std.specs.Prelude.{nat_eq, IsTrue, min}
use Rattle.std.specs.List.{list_any}
use Rattle.cfg_world.specs.Faults.{full_count}

pub went_on : {A : Type 0} (x y : A) → (x ≡ y → ⊥) → (lent failing : List ℕ) (calls next : ℕ) (b : Bool) → lent ≡ failing → next ≡ min (calls + 1) full_count
    → b ≡ list_any (λ n. nat_eq n next) lent → b ≡ false
    → (x ≡ y) ↔ IsTrue (list_any (λ n. nat_eq n (min (calls + 1) full_count)) failing)
went_on x y other lent failing calls next b items is any passed =
    let clear : list_any (λ n. nat_eq n (min (calls + 1) full_count)) failing ≡ false = ap (list_any (λ n. nat_eq n (min (calls + 1) full_count))) (sym items) ∙ ap (λ k. list_any (λ n. nat_eq n k) lent) (sym is) ∙ sym any ∙ passed in
    (λ e. absurd (other e), λ t. cc)
