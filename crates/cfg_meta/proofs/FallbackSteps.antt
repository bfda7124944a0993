-- The first value that is there, member by member.
use Rattle.std.proofs.Common.{◌≡◌, ℕ, ◌+◌, ◌<◌, List, Option, Some, None, get_or, drop, length, refl, ◌∙◌, ap, arith, add-one}
use Rattle.std.specs.Option.{option_or}
use Rattle.std.proofs.Math.Seq.{drop-cons}
use Rattle.cfg_kept.specs.Kinds.{States}
use Rattle.cfg_meta.specs.Fallbacks.{first_there}

module _ {M V : Type 0} (fallback : M → States → Option V) where
  first_of : (members : List M) (kept : List States) (i : ℕ) (d : M) (s : States) → i < length members → length kept ≡ length members →
      first_there fallback (drop i members) (drop i kept) ≡ option_or (fallback (get_or members i d) (get_or kept i s)) (first_there fallback (drop (i + 1) members) (drop (i + 1) kept))
  first_of members kept i d s lt len = let below : i < length kept = omega arith in rw (add-one, drop-cons members i d lt, drop-cons kept i s below) refl

  pub first_found : (members : List M) (kept : List States) (i : ℕ) (d : M) (s : States) (v : V) → i < length members → length kept ≡ length members →
      fallback (get_or members i d) (get_or kept i s) ≡ Some v → first_there fallback (drop i members) (drop i kept) ≡ Some v
  first_found members kept i d s v lt len there =
      first_of members kept i d s lt len ∙ ap (λ o. option_or o (first_there fallback (drop (i + 1) members) (drop (i + 1) kept))) there

  pub first_behind : (members : List M) (kept : List States) (i : ℕ) (d : M) (s : States) → i < length members → length kept ≡ length members →
      fallback (get_or members i d) (get_or kept i s) ≡ None → first_there fallback (drop i members) (drop i kept) ≡ first_there fallback (drop (i + 1) members) (drop (i + 1) kept)
  first_behind members kept i d s lt len none =
      first_of members kept i d s lt len ∙ ap (λ o. option_or o (first_there fallback (drop (i + 1) members) (drop (i + 1) kept))) none
