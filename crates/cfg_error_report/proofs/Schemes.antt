-- Texts with a `://`.
use Rattle.std.proofs.Common.{◌≡◌, ℕ, List, [], ◌∷◌, ◌++◌, length, Bool, false, true, refl, sym, ap, ◌∙◌, drop, inl, inr, codes}
use Rattle.std.specs.Prelude.{◌||◌, ◌⊎◌, ◌↔◌, nat_eq}
use Rattle.std.specs.Str.Iter.{HasSubslice}
use Rattle.std.specs.List.{starts_with}
use Rattle.std.proofs.lemmas.Bool.Decides.{Decides-eqb}
use Rattle.std.proofs.lemmas.Slice.Eq.{starts_is}
use Rattle.cfg_error_report.specs.Addresses.{has_scheme}

-- a text with a `://`
begins : (text : List ℕ) → starts_with nat_eq text (codes "://") ≡ true → text ≡ codes "://" ++ drop (length (codes "://")) text
begins text h = (starts_is Decides-eqb text (codes "://") (starts_with nat_eq text (codes "://")) refl).0 h

scheme_or : (a b : Bool) → (a || b) ≡ true → (a ≡ true) ⊎ (b ≡ true)
scheme_or true b h = inl refl
scheme_or false b h = inr h

scheme_after : (b : Bool) → (b || true) ≡ true
scheme_after true = refl
scheme_after false = refl

stands : (text : List ℕ) → has_scheme text ≡ true → HasSubslice text (codes "://")
stands [] h = cc
stands (b ∷ text) h = by_case (scheme_or (starts_with nat_eq (b ∷ text) (codes "://")) (has_scheme text) h) (stands text) where
  by_case : (starts_with nat_eq (b ∷ text) (codes "://") ≡ true) ⊎ (has_scheme text ≡ true) → (has_scheme text ≡ true → HasSubslice text (codes "://")) → HasSubslice (b ∷ text) (codes "://")
  by_case (inl first) later = ([], drop (length (codes "://")) (b ∷ text), begins (b ∷ text) first)
  by_case (inr more) later = let found = later more in (b ∷ found.0, found.1, ap (λ (l : List ℕ). b ∷ l) found.2)

has : (before behind : List ℕ) → has_scheme (before ++ (codes "://" ++ behind)) ≡ true
has [] behind = refl
has (b ∷ before) behind = ap (λ (t : Bool). starts_with nat_eq (b ∷ (before ++ (codes "://" ++ behind))) (codes "://") || t) (has before behind) ∙ scheme_after _

by_scheme : (r t : Bool) → (r ≡ true → t ≡ true) → (t ≡ true → r ≡ true) → r ≡ t
by_scheme true t f g = sym (f refl)
by_scheme false true f g = g refl
by_scheme false false f g = refl

-- by what `contains` says of it
pub scheme_if : (r : Bool) (text : List ℕ) → (r ≡ true) ↔ HasSubslice text (codes "://") → r ≡ has_scheme text
scheme_if r text h = by_scheme r (has_scheme text) (λ e. let found = h.0 e in ap has_scheme found.2 ∙ has found.0 found.1) (λ e. h.1 (stands text e))
