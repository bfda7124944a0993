-- The same moments have one order from the first to the last.
use Rattle.std.proofs.Common.{◌≡◌, ℕ, suc, ◌+◌, ◌-◌, ◌<◌, List, [], ◌∷◌, false, cond, refl, sym, ap, ◌∙◌, subst, length, get_or, arith}
use Rattle.std.specs.Prelude.{ℤ, sum_by}
use Rattle.std.specs.List.{AllByRecursion}
use Rattle.std.specs.List.Sorted.{IsSorted, IsPermutation}
use Rattle.std.specs.Ordering.{ordering_reverse, ordering_then, is_lt, is_eq, int_cmp, nat_cmp}
use Rattle.std.specs.FinMap.{int_cmp-IsAntisymmetric, nat_cmp-IsAntisymmetric}
use Rattle.std.specs.declared.cmp.Ordering.{Ordering}
use Rattle.std.specs.declared.cmp.Ordering.TheVariants.{Less, Equal, Greater}
use Rattle.std.specs.Cmp.{IsTotalOrder, int_cmp_total, nat_cmp_total, on_total, then_total}
use Rattle.std.proofs.lemmas.List.Sorted.{sum_by-IsPermutation}
use Rattle.std.proofs.lemmas.List.Sums.{sum_by-cons}
use Rattle.cfg_base.specs.Moment.{Moment}
use Rattle.cfg_sharing.specs.Readings.{moment_cmp, AreSorted}

module _ {X : Type 0} (cmp : X → X → Ordering) (o : IsTotalOrder cmp) (same : (x y : X) → cmp x y ≡ Equal → x ≡ y) where
  -- no item is before the first one, and so on
  abbrev NoneBefore : X → List X → Type 0
  NoneBefore x xs = AllByRecursion (λ z. is_lt (cmp z x) ≡ false) xs

  abbrev Rises : List X → Type 0
  Rises [] = Unit {0}
  Rises (x ∷ xs) = NoneBefore x xs × Rises xs

  own : (r : Ordering) → r ≡ ordering_reverse r → r ≡ Equal
  own Less e = cc
  own Equal e = refl
  own Greater e = cc

  pub self_is : (x : X) → cmp x x ≡ Equal
  self_is x = own (cmp x x) (o.antisymm x x)

  -- what is before another is before all that is not before that one
  less_far : (x y z : X) (r : Ordering) → cmp z y ≡ r → cmp x y ≡ Less → is_lt r ≡ false → cmp x z ≡ Less
  less_far x y z Less e l n = cc
  less_far x y z Equal e l n = o.antisymm x z ∙ ap ordering_reverse (o.congr z y x e) ∙ sym (o.antisymm x y) ∙ l
  less_far x y z Greater e l n = o.trans x y z l (o.antisymm y z ∙ ap ordering_reverse e)

  -- nothing is before x that is not before y, which is not before x
  none_far : (x y z : X) (r : Ordering) → cmp z x ≡ r → is_lt (cmp y x) ≡ false → is_lt (cmp z y) ≡ false → is_lt r ≡ false
  none_far x y z Less e n m =
      let below : cmp z y ≡ Less = less_far z x y (cmp y x) refl e n in
      cc
  none_far x y z Equal e n m = refl
  none_far x y z Greater e n m = refl

  abbrev one : X → X → ℕ
  one m x = cond (is_eq (cmp m x)) 1 0

  abbrev count : X → List X → ℕ
  count m xs = sum_by (one m) xs

  one_more : (m x : X) (xs : List X) → count m (x ∷ xs) ≡ one m x + count m xs
  one_more m x xs = sum_by-cons (one m) x xs

  one_self : (x : X) → one x x ≡ 1
  one_self x = ap (λ r. cond (is_eq r) 1 0) (self_is x)

  one_less : (x y : X) → cmp x y ≡ Less → one x y ≡ 0
  one_less x y e = ap (λ r. cond (is_eq r) 1 0) e

  none_counted : (x y : X) (ys : List X) → cmp x y ≡ Less → NoneBefore y ys → count x ys ≡ 0
  none_counted x y [] l n = refl
  none_counted x y (z ∷ ys) l n =
      let here = one_less x z (less_far x y z (cmp z y) refl l n.0) in
      let rest = none_counted x y ys l n.1 in
      one_more x z ys ∙ omega (arith, here, rest)

  abbrev SameCounts : List X → List X → Type 0
  SameCounts xs ys = (m : X) → count m xs ≡ count m ys

  not_first : (x y : X) (xs ys : List X) → cmp x y ≡ Less → NoneBefore y ys → SameCounts (x ∷ xs) (y ∷ ys) → ⊥
  not_first x y xs ys l n counts =
      let c : one x x + count x xs ≡ one x y + count x ys = sym (one_more x x xs) ∙ counts x ∙ one_more x y ys in
      omega (arith, c, one_self x, one_less x y l, none_counted x y ys l n)

  same_heads : (x y : X) (xs ys : List X) (r : Ordering) → cmp x y ≡ r → NoneBefore x xs → NoneBefore y ys → SameCounts (x ∷ xs) (y ∷ ys) → (SameCounts xs ys → xs ≡ ys) → (x ∷ xs) ≡ (y ∷ ys)
  same_heads x y xs ys Less e n m counts rest = absurd (not_first x y xs ys e m counts)
  same_heads x y xs ys Greater e n m counts rest =
      absurd (not_first y x ys xs (o.antisymm y x ∙ ap ordering_reverse e) n (λ k. sym (counts k)))
  same_heads x y xs ys Equal e n m counts rest =
      let heads = same x y e in
      let tails = rest (λ k. let c : one k x + count k xs ≡ one k y + count k ys = sym (one_more k x xs) ∙ counts k ∙ one_more k y ys in let h : one k x ≡ one k y = ap (one k) heads in omega (arith, c, h)) in
      ap (λ h. h ∷ xs) heads ∙ ap (λ t. y ∷ t) tails

  same_counts : (xs ys : List X) → Rises xs → Rises ys → SameCounts xs ys → xs ≡ ys
  same_counts [] [] p q counts = refl
  same_counts [] (y ∷ ys) p q counts =
      absurd (let c : 0 ≡ one y y + count y ys = counts y ∙ one_more y y ys in omega (arith, c, one_self y))
  same_counts (x ∷ xs) [] p q counts =
      absurd (let c : one x x + count x xs ≡ 0 = sym (one_more x x xs) ∙ counts x in omega (arith, c, one_self x))
  same_counts (x ∷ xs) (y ∷ ys) p q counts = same_heads x y xs ys (cmp x y) refl p.0 q.0 counts (same_counts xs ys p.1 q.1)

  -- ---- from each item to the next

  abbrev Adjacent : List X → Type 0
  Adjacent [] = Unit {0}
  Adjacent (x ∷ []) = Unit {0}
  Adjacent (x ∷ y ∷ xs) = (is_lt (cmp y x) ≡ false) × Adjacent (y ∷ xs)

  all_before : (x y : X) (ys : List X) → is_lt (cmp y x) ≡ false → NoneBefore y ys → NoneBefore x ys
  all_before x y [] n m = tt
  all_before x y (z ∷ ys) n m = (none_far x y z (cmp z x) refl n m.0, all_before x y ys n m.1)

  rises : (xs : List X) → Adjacent xs → Rises xs
  rises [] a = tt
  rises (x ∷ []) a = (tt, tt)
  rises (x ∷ y ∷ xs) a = let later = rises (y ∷ xs) a.1 in ((a.0, all_before x y xs a.0 later.0), later)

  by_index : (xs : List X) → ((k : ℕ) (d : X) → k + 1 < length xs → is_lt (cmp (get_or xs (k + 1) d) (get_or xs k d)) ≡ false) → Adjacent xs
  by_index [] h = tt
  by_index (x ∷ []) h = tt
  by_index (x ∷ y ∷ xs) h = (
    h 0 x (omega arith),
    by_index (y ∷ xs) (λ k d lt. let e : suc k + 1 ≡ suc (k + 1) = omega arith in subst (λ (n : ℕ). is_lt (cmp (get_or (x ∷ y ∷ xs) n d) (get_or (x ∷ y ∷ xs) (suc k) d)) ≡ false) e (h (suc k) d (omega arith))),
  )

  pub one_order : (xs ys zs : List X) → IsSorted cmp ys → IsSorted cmp zs → IsPermutation xs ys → IsPermutation xs zs → ys ≡ zs
  one_order xs ys zs p q a b =
      same_counts ys zs
      (rises ys (by_index ys (λ k d lt. p k d (omega arith) lt)))
      (rises zs (by_index zs (λ k d lt. q k d (omega arith) lt)))
      (λ m. sum_by-IsPermutation (one m) xs ys a ∙ sym (sum_by-IsPermutation (one m) xs zs b))

moments_total : IsTotalOrder moment_cmp
moments_total = then_total (on_total (λ (m : Moment). m.seconds) int_cmp_total) (on_total (λ (m : Moment). m.nanos) nat_cmp_total)

both_equal : (r s : Ordering) → ordering_then r s ≡ Equal → (r ≡ Equal) × (s ≡ Equal)
both_equal Less s e = cc
both_equal Equal s e = (refl, e)
both_equal Greater s e = cc

same_moment : (x y : Moment) → moment_cmp x y ≡ Equal → x ≡ y
same_moment x y e =
    let both = both_equal (int_cmp x.seconds y.seconds) (nat_cmp x.nanos y.nanos) e in
    let with_seconds : ℤ → Moment = λ s. record { seconds = s; nanos = x.nanos } in
    let with_nanos : ℕ → Moment = λ n. record { seconds = y.seconds; nanos = n } in
    ap with_seconds (int_cmp-IsAntisymmetric x.seconds y.seconds both.0) ∙ ap with_nanos (nat_cmp-IsAntisymmetric x.nanos y.nanos both.1)

pub one_sorted_list : (moments one other : List Moment) → AreSorted one moments → AreSorted other moments → one ≡ other
one_sorted_list moments one other a b = one_order moment_cmp moments_total same_moment moments one other a.order b.order a.same b.same
