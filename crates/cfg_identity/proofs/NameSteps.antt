-- A new name among numbered ones, and a list that has an item for each.
use Rattle.std.proofs.Common.{◌≡◌, ℕ, zero, suc, ◌+◌, ◌<◌, true, false, cond, List, [], ◌∷◌, ◌++◌, length, get_or, Some, None, option_map, refl, sym, ap, subst, ◌∙◌, inl, inr, ⊎_elim, arith}
use Rattle.std.specs.Prelude.{◌⊎◌, ◌≢◌, slice_get, slice_set, is_some, OnOk, OnErr, Result, Ok, Err}
use Rattle.std.specs.Option.{option_and_then}
use Rattle.std.specs.Ordering.{nat_cmp, eq_by_cmp}
use Rattle.std.specs.Cmp.Lexicographic.{slice_cmp, nat_list_cmp_total}
use Rattle.std.specs.FinMap.{get, len, insert, empty, get-empty, len-empty, get-insert, len-insert}
use Rattle.std.specs.Str.{bytes_eq}
use Rattle.std.proofs.lemmas.Map.Text.{is_eq-slice_cmp}
use Rattle.std.proofs.lemmas.Option.{slice_get_read}
use Rattle.std.proofs.lemmas.Slice.Eq.{bytes_eq-Decides}
use Rattle.cfg_base.specs.TextMap.{Named}
use Rattle.cfg_identity.specs.Names.{AreNumbered, AreBelow, IsOnlyAt, at_name}

-- two names are one, or differ
pub same_or_other : (q k : List ℕ) → ((q ≡ k) × (eq_by_cmp (slice_cmp nat_cmp) q k ≡ true)) ⊎ ((q ≢ k) × (eq_by_cmp (slice_cmp nat_cmp) q k ≡ false))
same_or_other q k =
    elim (bytes_eq q k) as (λ b. bytes_eq q k ≡ b → ((q ≡ k) × (eq_by_cmp (slice_cmp nat_cmp) q k ≡ true)) ⊎ ((q ≢ k) × (eq_by_cmp (slice_cmp nat_cmp) q k ≡ false))) [
      | true ↦ λ e. inl ((bytes_eq-Decides q k).0 e, is_eq-slice_cmp q k ∙ e)
      | false ↦ λ e. inr ((λ same. let t : bytes_eq q k ≡ true = (bytes_eq-Decides q k).1 same in absurd (cc)), is_eq-slice_cmp q k ∙ e)
    ] refl

-- what a map has with one name more
pub got : {V : Type 0} (m : Named V) (name : List ℕ) (v : V) → get (insert m name v) name ≡ Some v
got m name v = ⊎_elim
    (λ p. get-insert nat_list_cmp_total m name v name ∙ ap (λ b. cond b (Some v) (get m name)) p.1)
    (λ p. absurd (p.0 refl))
    (same_or_other name name)

pub got_other : {V : Type 0} (m : Named V) (name : List ℕ) (v : V) (q : List ℕ) → q ≢ name → get (insert m name v) q ≡ get m q
got_other m name v q differ = ⊎_elim
    (λ p. absurd (differ p.0))
    (λ p. get-insert nat_list_cmp_total m name v q ∙ ap (λ b. cond b (Some v) (get m q)) p.1)
    (same_or_other q name)

got_either : {V : Type 0} (m : Named V) (name : List ℕ) (v : V) (q : List ℕ) (i : V) → get (insert m name v) q ≡ Some i → ((q ≡ name) × (i ≡ v)) ⊎ ((q ≢ name) × (get m q ≡ Some i))
got_either m name v q i h = ⊎_elim
    (λ p. let e : Some v ≡ Some i = sym (got m name v) ∙ ap (get (insert m name v)) (sym p.0) ∙ h in inl (p.0, cc))
    (λ p. inr (p.0, sym (got_other m name v q p.0) ∙ h))
    (same_or_other q name)

pub len_grows : {V : Type 0} (m : Named V) (name : List ℕ) (v : V) → get m name ≡ None → len (insert m name v) ≡ len m + 1
len_grows m name v none = len-insert nat_list_cmp_total m name v ∙ ap (λ o. cond (is_some o) (len m) (len m + 1)) none

pub numbered_more : (m : Named ℕ) (name : List ℕ) → AreNumbered m → get m name ≡ None → AreNumbered (insert m name (len m))
numbered_more m name numbered none = record {
  below = λ q i h.
      let n : len (insert m name (len m)) ≡ len m + 1 = len_grows m name (len m) none in
      ⊎_elim (λ p. let e : i ≡ len m = p.1 in omega arith) (λ p. let l : i < len m = numbered.below q i p.1 in omega arith) (got_either m name (len m) q i h);
  apart = λ q i h other k.
      ⊎_elim
      (λ p. ⊎_elim
      (λ r. r.0 ∙ sym p.0)
      (λ r. let l : i < len m = numbered.below other i r.1 in let e : i ≡ len m = p.1 in absurd (omega arith))
      (got_either m name (len m) other i k))
      (λ p. ⊎_elim
      (λ r. let l : i < len m = numbered.below q i p.1 in let e : i ≡ len m = r.1 in absurd (omega arith))
      (λ r. numbered.apart q i p.1 other r.1)
      (got_either m name (len m) other i k))
      (got_either m name (len m) q i h);
}

pub numbered_none : (m : Named ℕ) → m ≡ empty → AreNumbered m
numbered_none m none =
    let nowhere : (q : List ℕ) → get m q ≡ None = λ q. ap (λ n. get n q) none ∙ get-empty (slice_cmp nat_cmp) q in
    record {
      below = λ q i h. let e : None ≡ Some i = sym (nowhere q) ∙ h in absurd (cc);
      apart = λ q i h. let e : None ≡ Some i = sym (nowhere q) ∙ h in absurd (cc);
    }

pub none_counted : {X : Type 0} (xs : List X) (m : Named ℕ) → xs ≡ [] → m ≡ empty → length xs ≡ len m
none_counted xs m items none = ap length items ∙ sym (ap (λ n. len n) none ∙ len-empty (slice_cmp nat_cmp) ℕ)

-- a name was added, or memory ran out
module _ {A B : Type 0} (m n : Named ℕ) (name : List ℕ) (next : ℕ) where
  pub numbered_then : (r : Result A B) → OnOk r (n ≡ insert m name next) → OnErr r (n ≡ m) → next ≡ len m → AreNumbered m → get m name ≡ None → AreNumbered n
  numbered_then (Ok x) ok err is numbered none = subst AreNumbered (sym (ok ∙ ap (insert m name) is)) (numbered_more m name numbered none)
  numbered_then (Err e) ok err is numbered none = subst AreNumbered (sym err) numbered

  pub len_then : (r : Result A B) → OnOk r (n ≡ insert m name next) → get m name ≡ None → OnOk r (len n ≡ len m + 1)
  len_then (Ok x) ok none = ap (λ k. len k) ok ∙ len_grows m name next none
  len_then (Err e) ok none = tt

-- ---- lists

set_there : {X : Type 0} (xs : List X) (i : ℕ) (x : X) → i < length xs → slice_get (slice_set xs i x) i ≡ Some x
set_there [] i x l = absurd (omega arith)
set_there (y ∷ ys) zero x l = refl
set_there (y ∷ ys) (suc i) x l = set_there ys i x (omega arith)

set_elsewhere : {X : Type 0} (xs : List X) (i j : ℕ) (x : X) → j ≢ i → slice_get (slice_set xs i x) j ≡ slice_get xs j
set_elsewhere [] i j x differ = refl
set_elsewhere (y ∷ ys) zero zero x differ = absurd (differ refl)
set_elsewhere (y ∷ ys) zero (suc j) x differ = refl
set_elsewhere (y ∷ ys) (suc i) zero x differ = refl
set_elsewhere (y ∷ ys) (suc i) (suc j) x differ = set_elsewhere ys i j x (λ e. differ (ap suc e))

pushed_there : {X : Type 0} (xs : List X) (x : X) → slice_get (xs ++ x ∷ []) (length xs) ≡ Some x
pushed_there [] x = refl
pushed_there (y ∷ ys) x = pushed_there ys x

pushed_elsewhere : {X : Type 0} (xs : List X) (x : X) (j : ℕ) → j < length xs → slice_get (xs ++ x ∷ []) j ≡ slice_get xs j
pushed_elsewhere [] x j l = absurd (omega arith)
pushed_elsewhere (y ∷ ys) x zero l = refl
pushed_elsewhere (y ∷ ys) x (suc j) l = pushed_elsewhere ys x j (omega arith)

-- ---- what stands under a name

module _ {X Y : Type 0} (f : X → Y) (m : Named ℕ) where
  -- nothing, where the name has no number
  pub under_none : (xs : List X) (name : List ℕ) → get m name ≡ None → option_map f (at_name m xs name) ≡ None
  under_none xs name none = ap (λ o. option_map f (option_and_then (λ j. slice_get xs j) o)) none

  -- the item at its number
  pub under : (xs : List X) (name : List ℕ) (i : ℕ) (x : X) → get m name ≡ Some i → i < length xs → x ≡ get_or xs i x → option_map f (at_name m xs name) ≡ Some (f x)
  under xs name i x at inside is =
      ap (λ o. option_map f (option_and_then (λ j. slice_get xs j) o)) at ∙ ap (option_map f) (slice_get_read xs (length xs) i x refl inside is)

  -- the item that is put there
  pub under_set : (xs : List X) (name : List ℕ) (i : ℕ) (x : X) → get m name ≡ Some i → i < length xs → option_map f (at_name m (slice_set xs i x) name) ≡ Some (f x)
  under_set xs name i x at inside =
      ap (λ o. option_map f (option_and_then (λ j. slice_get (slice_set xs i x) j) o)) at ∙ ap (option_map f) (set_there xs i x inside)

  pub others_stay : (xs : List X) (name : List ℕ) (i : ℕ) (x : X) → IsOnlyAt m name i → (other : List ℕ) → other ≢ name → option_map f (at_name m (slice_set xs i x) other) ≡ option_map f (at_name m xs other)
  others_stay xs name i x only other differ =
      elim (get m other) as (λ o. get m other ≡ o → option_map f (option_and_then (λ j. slice_get (slice_set xs i x) j) o) ≡ option_map f (option_and_then (λ j. slice_get xs j) o)) [
        | None ↦ λ e. refl
        | Some j ↦ λ e. ap (option_map f) (set_elsewhere xs i j x (λ same. differ (only other (e ∙ ap (λ k. Some k) same))))
      ] refl

  -- the item of a new name
  pub under_new : (xs : List X) (name : List ℕ) (x : X) → length xs ≡ len m → option_map f (at_name (insert m name (len m)) (xs ++ x ∷ []) name) ≡ Some (f x)
  under_new xs name x counted =
      ap (λ o. option_map f (option_and_then (λ j. slice_get (xs ++ x ∷ []) j) o)) (got m name (len m))
      ∙ ap (λ n. option_map f (slice_get (xs ++ x ∷ []) n)) (sym counted)
      ∙ ap (option_map f) (pushed_there xs x)

  pub others_of_new : (xs : List X) (name : List ℕ) (x : X) → length xs ≡ len m → AreBelow m → (other : List ℕ) → other ≢ name
      → option_map f (at_name (insert m name (len m)) (xs ++ x ∷ []) other) ≡ option_map f (at_name m xs other)
  others_of_new xs name x counted below other differ =
      ap (λ o. option_map f (option_and_then (λ j. slice_get (xs ++ x ∷ []) j) o)) (got_other m name (len m) other differ)
      ∙ (elim (get m other) as (λ o. get m other ≡ o → option_map f (option_and_then (λ j. slice_get (xs ++ x ∷ []) j) o) ≡ option_map f (option_and_then (λ j. slice_get xs j) o)) [
        | None ↦ λ e. refl
        | Some j ↦ λ e. let l : j < len m = below other j e in ap (option_map f) (pushed_elsewhere xs x j (omega arith))
      ] refl)
