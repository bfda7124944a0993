-- Strays among receipts that come one behind the other, and entries that stand in a journal.
use Rattle.std.proofs.Common.{◌≡◌, ℕ, ◌+◌, ◌<◌, ◌≤◌, List, [], ◌∷◌, ◌++◌, inl, inr, refl, sym, ap, ◌∙◌, arith, length, get_or, take, drop, subst, append-nil}
use Rattle.std.specs.Prelude.{min, Contains, All}
use Rattle.std.specs.List.{flat_map, AllByRecursion}
use Rattle.std.proofs.lemmas.Grind.{flat_map-append}
use Rattle.std.proofs.lemmas.List.{take_more, take_all, take-append-drop}
use Rattle.std.proofs.lemmas.List.Elements.{Contains-append_left, Contains-append_right, Contains-append_cases, All-contains, All-from_recursion}
use Rattle.cfg_world.specs.Fits.{Pair}
use Rattle.cfg_world.specs.Faults.{full_count}
use Rattle.cfg_sharing.specs.Strays.{Strays, AddsStrays}

-- ---- pieces of a list, one behind the other

module _ {X A : Type 0} (f : X → List A) where
  pub one_more : (xs : List X) (i : ℕ) (x : X) → i < length xs → x ≡ get_or xs i x → flat_map f (take (i + 1) xs) ≡ flat_map f (take i xs) ++ f x
  one_more xs i x lt is =
      ap (flat_map f) (take_more xs i x lt)
      ∙ flat_map-append f (take i xs) (get_or xs i x ∷ [])
      ∙ ap (λ (l : List A). flat_map f (take i xs) ++ l) (append-nil (f (get_or xs i x)) ∙ ap f (sym is))

  -- what stands in a piece stands in all
  pub in_piece : (xs : List X) (i : ℕ) (x : X) (e : A) → i < length xs → x ≡ get_or xs i x → Contains (f x) e → Contains (flat_map f xs) e
  in_piece xs i x e lt is here =
      let whole : flat_map f (take (i + 1) xs) ++ flat_map f (drop (i + 1) xs) ≡ flat_map f xs =
      sym (flat_map-append f (take (i + 1) xs) (drop (i + 1) xs)) ∙ ap (flat_map f) (take-append-drop (i + 1) xs) in
      let so_far : Contains (flat_map f (take (i + 1) xs)) e =
      subst (λ (l : List A). Contains l e) (sym (one_more xs i x lt is)) (Contains-append_right (flat_map f (take i xs)) (f x) e here) in
      subst (λ (l : List A). Contains l e) whole (Contains-append_left (flat_map f (take (i + 1) xs)) (flat_map f (drop (i + 1) xs)) e so_far)

  -- what stands in no piece so far, and not in the next one
  pub in_none : (xs : List X) (i : ℕ) (x : X) (e : A) → i < length xs → x ≡ get_or xs i x → (Contains (flat_map f (take i xs)) e → ⊥) → (Contains (f x) e → ⊥)
      → Contains (flat_map f (take (i + 1) xs)) e → ⊥
  in_none xs i x e lt is before next here =
      elim (Contains-append_cases (flat_map f (take i xs)) (f x) e (subst (λ (l : List A). Contains l e) (one_more xs i x lt is) here)) [
        | inl h ↦ before h
        | inr h ↦ next h
      ]

-- ---- strays

module _ (entries : List Pair) where
  both : (xs ys : List Pair) (n m : ℕ) → Strays entries xs n → Strays entries ys m → Strays entries (xs ++ ys) (n + m)
  both [] ys n m a b = subst (λ (k : ℕ). Strays entries ys k) (let none : n ≡ 0 = a in omega arith) b
  both (e ∷ xs) ys n m a b = elim a [
    | inl in_it ↦ inl (in_it.0, both xs ys n m in_it.1 b)
    | inr out ↦ inr (out.0, (out.1.0 + m, (let more : n ≡ out.1.0 + 1 = out.1.1 in omega arith), both xs ys out.1.0 m out.1.2 b))
  ]

  -- one behind the other
  pub adds_both : (xs ys : List Pair) (before between after : ℕ) → AddsStrays entries xs before between → AddsStrays entries ys between after → AddsStrays entries (xs ++ ys) before after
  adds_both xs ys before between after a b = record {
    number = a.number + b.number;
    strays = both xs ys a.number b.number a.strays b.strays;
    counted = omega (arith, a.counted, b.counted);
  }

  -- none so far
  pub adds_none : (before : ℕ) → before ≤ full_count → AddsStrays entries [] before before
  adds_none before h = record { number = 0; strays = refl; counted = omega arith }

  -- a receipt of an entry that stands there, and one of another
  pub adds_standing : (e : Pair) (before : ℕ) → before ≤ full_count → Contains entries e → AddsStrays entries (e ∷ []) before before
  adds_standing e before h in_it = record { number = 0; strays = inl (in_it, refl); counted = omega arith }

  pub adds_stray : (e : Pair) (before after : ℕ) → after ≡ min (before + 1) full_count → (Contains entries e → ⊥) → AddsStrays entries (e ∷ []) before after
  adds_stray e before after sum out = record { number = 1; strays = inr (out, (0, refl, refl)); counted = sum }

  module _ {X : Type 0} (f : X → List Pair) where
    pub adds_more : (xs : List X) (i : ℕ) (x : X) (before between after : ℕ) → i < length xs → x ≡ get_or xs i x
        → AddsStrays entries (flat_map f (take i xs)) before between → AddsStrays entries (f x) between after → AddsStrays entries (flat_map f (take (i + 1) xs)) before after
    adds_more xs i x before between after lt is a b =
        subst (λ (l : List Pair). AddsStrays entries l before after) (sym (one_more f xs i x lt is)) (adds_both (flat_map f (take i xs)) (f x) before between after a b)

    pub adds_all : (xs : List X) (i before after : ℕ) → length xs ≤ i → AddsStrays entries (flat_map f (take i xs)) before after → AddsStrays entries (flat_map f xs) before after
    adds_all xs i before after end a = subst (λ (l : List X). AddsStrays entries (flat_map f l) before after) (take_all i xs end) a

  -- the same, a receipt at a time
  pub adds_next : (xs : List Pair) (i : ℕ) (x : Pair) (before between after : ℕ) → i < length xs → x ≡ get_or xs i x
      → AddsStrays entries (take i xs) before between → AddsStrays entries (x ∷ []) between after → AddsStrays entries (take (i + 1) xs) before after
  adds_next xs i x before between after lt is a b =
      let more : take i xs ++ x ∷ [] ≡ take (i + 1) xs = ap (λ (y : Pair). take i xs ++ y ∷ []) is ∙ sym (take_more xs i x lt) in
      subst (λ (l : List Pair). AddsStrays entries l before after) more (adds_both (take i xs) (x ∷ []) before between after a b)

  pub adds_whole : (xs : List Pair) (i before after : ℕ) → length xs ≤ i → AddsStrays entries (take i xs) before after → AddsStrays entries xs before after
  adds_whole xs i before after end a = subst (λ (l : List Pair). AddsStrays entries l before after) (take_all i xs end) a

  -- where none is counted, each receipt is of an entry
  all_stand : (receipts : List Pair) (n : ℕ) → n ≡ 0 → Strays entries receipts n → AllByRecursion (Contains entries) receipts
  all_stand [] n none s = tt
  all_stand (e ∷ receipts) n none s = elim s [
    | inl in_it ↦ (in_it.0, all_stand receipts n none in_it.1)
    | inr out ↦ absurd (let more : n ≡ out.1.0 + 1 = out.1.1 in omega arith)
  ]

  number_none : (receipts : List Pair) (count : ℕ) → AddsStrays entries receipts 0 count → count ≡ 0 → AllByRecursion (Contains entries) receipts
  number_none receipts count a none = all_stand receipts a.number (omega (arith, a.counted, none)) a.strays

  pub none_stray : (receipts : List Pair) (count : ℕ) → AddsStrays entries receipts 0 count → count ≡ 0 → All (Contains entries) receipts
  none_stray receipts count a none = All-from_recursion (Contains entries) receipts (number_none receipts count a none)

  -- where some are counted, there is one
  pub record Stray (receipts : List Pair) : Type 0 where
    pub receipt : Pair
    pub carried : Contains receipts receipt
    pub stray : Contains entries receipt → ⊥

  some_stand : (receipts : List Pair) (n : ℕ) → (n ≡ 0 → ⊥) → Strays entries receipts n → Stray receipts
  some_stand [] n some s = absurd (some s)
  some_stand (e ∷ receipts) n some s = elim s [
    | inl in_it ↦ let later = some_stand receipts n some in_it.1 in record { receipt = later.receipt; carried = Contains-append_right (e ∷ []) receipts later.receipt later.carried; stray = later.stray }
    | inr out ↦ record { receipt = e; carried = (0, omega arith, refl); stray = out.0 }
  ]

  pub some_stray : (receipts : List Pair) (count : ℕ) → AddsStrays entries receipts 0 count → (count ≡ 0 → ⊥) → Stray receipts
  some_stray receipts count a some = some_stand receipts a.number (λ none. some (omega (arith, a.counted, none))) a.strays

  pub none_is_stray : (receipts : List Pair) (count : ℕ) (e : Pair) → AddsStrays entries receipts 0 count → count ≡ 0 → Contains receipts e → Contains entries e
  none_is_stray receipts count e a none carried = All-contains (Contains entries) receipts e (none_stray receipts count a none) carried
