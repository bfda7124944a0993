-- Lists of callers and of what they brought back.
use Rattle.std.proofs.Common.{◌≡◌, ℕ, suc, ◌+◌, ◌<◌, List, [], ◌∷◌, ◌++◌, map, length, get_or, All, Result, Ok, Err, refl, sym, subst, ap, ◌∙◌, append-nil, arith}
use Rattle.std.specs.Prelude.{IfOk}
use Rattle.std.specs.List.{AllZip}
use Rattle.cfg_gate.specs.Turns.{greater, greatest}
use Rattle.std.proofs.lemmas.List.Elements.{All-nil, All-cons, All-append, All-head, All-tail}

pub ok_by : {A E : Type 0} {P Q S : A → Type 0} (r : Result A E) → IfOk r P → IfOk r Q → ((x : A) → P x → Q x → S x) → IfOk r S
ok_by (Ok x) p q f = f x p q
ok_by (Err e) p q f = tt

-- a relation that holds at each place
pub zip_each : {J X : Type 0} (R : J → X → Type 0) (js : List J) (rs : List X) → length rs ≡ length js →
    ((i : ℕ) (d : X) → i < length js → (j : J) × ((e : J) → get_or js i e ≡ j) × R j (get_or rs i d)) → AllZip R js rs
zip_each R [] [] e h = tt
zip_each R [] (r ∷ rs) e h = absurd (let x : suc (length rs) ≡ 0 = e in omega arith)
zip_each R (j ∷ js) [] e h = absurd (let x : 0 ≡ suc (length js) = e in omega arith)
zip_each R (j ∷ js) (r ∷ rs) e h = (
  (let p = h 0 r (omega arith) in subst (λ x. R x r) (sym (p.1 j)) p.2),
  zip_each R js rs (omega arith) (λ i d lt. h (suc i) d (omega arith)),
)

-- the same of what is read off both lists
pub zip_map : {J X A B : Type 0} (R : A → B → Type 0) (f : J → A) (g : X → B) (js : List J) (rs : List X) → AllZip (λ j r. R (f j) (g r)) js rs → AllZip R (map f js) (map g rs)
zip_map R f g [] [] h = tt
zip_map R f g [] (r ∷ rs) h = absurd h
zip_map R f g (j ∷ js) [] h = absurd h
zip_map R f g (j ∷ js) (r ∷ rs) h = (h.0, zip_map R f g js rs h.1)

pub zip_read : {J X A B : Type 0} (ws : List A) (vs : List B) (js : List J) (rs : List X) (R : A → B → Type 0) (f : J → A) (g : X → B) → map f js ≡ ws → vs ≡ map g rs → AllZip (λ j r. R (f j) (g r)) js rs → AllZip R ws vs
zip_read {A = A} {B = B} ws vs js rs R f g left right h = subst (λ (z : List A × List B). AllZip R z.0 z.1) (λ i. (left i, sym right i)) (zip_map R f g js rs h)

snoc_before : {X : Type 0} (cs : List X) (c : X) (left : List X) → (cs ++ c ∷ []) ++ left ≡ cs ++ c ∷ left
snoc_before [] c left = refl
snoc_before (x ∷ cs) c left = ap (λ z. x ∷ z) (snoc_before cs c left)

map_snoc : {C W : Type 0} (f : C → W) (cs : List C) (c : C) (left : List W) → map f (cs ++ c ∷ []) ++ left ≡ map f cs ++ f c ∷ left
map_snoc f [] c left = refl
map_snoc f (x ∷ cs) c left = ap (λ z. f x ∷ z) (map_snoc f cs c left)

-- one more goes from what is left to what was made of the others
pub one_made : {C W : Type 0} (f : C → W) (cs ds : List C) (c : C) (w : W) (rest left all : List W) → ds ≡ cs ++ c ∷ [] → f c ≡ w → rest ≡ w ∷ left → map f cs ++ rest ≡ all → map f ds ++ left ≡ all
one_made f cs ds c w rest left all made is taken before =
    ap (λ z. map f z ++ left) made ∙ map_snoc f cs c left ∙ ap (λ z. map f cs ++ z ∷ left) is ∙ ap (λ z. map f cs ++ z) (sym taken) ∙ before

pub one_read : {C W : Type 0} (f : C → W) (ws vs : List W) (c : C) (rest left : List C) (all : List W) → vs ≡ ws ++ f c ∷ [] → rest ≡ c ∷ left → ws ++ map f rest ≡ all → vs ++ map f left ≡ all
one_read f ws vs c rest left all read taken before =
    ap (λ z. z ++ map f left) read ∙ snoc_before ws (f c) (map f left) ∙ ap (λ z. ws ++ map f z) (sym taken) ∙ before

pub none_read : {C W : Type 0} (f : C → W) (ws : List W) (rest all : List C) → ws ≡ [] → rest ≡ all → ws ++ map f rest ≡ map f all
none_read f ws rest all none is = ap (λ z. z ++ map f rest) none ∙ ap (map f) is

pub all_read : {C W : Type 0} (f : C → W) (ws : List W) (rest : List C) (all : List W) → length rest ≡ 0 → ws ++ map f rest ≡ all → ws ≡ all
all_read f ws [] all none before = sym (append-nil ws) ∙ before
all_read f ws (c ∷ rest) all none before = absurd (let x : suc (length rest) ≡ 0 = none in omega arith)

pub all_same : {X : Type 0} (xs ys : List X) (P : X → Type 0) → xs ≡ ys → All P xs → All P ys
all_same xs ys P e h = subst (λ z. All P z) e h

pub all_snoc : {X : Type 0} (xs ys : List X) (x : X) (P : X → Type 0) → ys ≡ xs ++ x ∷ [] → All P xs → P x → All P ys
all_snoc xs ys x P e h p = subst (λ z. All P z) (sym e) (All-append P xs (x ∷ []) h (All-cons P x [] p (All-nil P)))

pub all_rest : {X : Type 0} (xs ys : List X) (x : X) (P : X → Type 0) → xs ≡ x ∷ ys → All P xs → All P ys
all_rest xs ys x P e h = All-tail P x ys (subst (λ z. All P z) e h)

pub all_first : {X : Type 0} (xs ys : List X) (x : X) (P : X → Type 0) → xs ≡ x ∷ ys → All P xs → P x
all_first xs ys x P e h = All-head P x ys (subst (λ z. All P z) e h)

greatest_behind : {X : Type 0} (f : X → ℕ) (n : ℕ) (xs : List X) (x : X) → greatest n (map f (xs ++ x ∷ [])) ≡ greater (greatest n (map f xs)) (f x)
greatest_behind f n [] x = refl
greatest_behind f n (y ∷ xs) x = greatest_behind f (greater n (f y)) xs x

-- one more, and the greater of what was the greatest and its own
pub greatest_snoc : {X : Type 0} (f : X → ℕ) (n old new : ℕ) (xs ys : List X) (x : X) → ys ≡ xs ++ x ∷ [] → old ≡ greatest n (map f xs) → new ≡ greater old (f x) → new ≡ greatest n (map f ys)
greatest_snoc f n old new xs ys x e before is =
    is ∙ ap (λ m. greater m (f x)) before ∙ sym (greatest_behind f n xs x) ∙ ap (λ z. greatest n (map f z)) (sym e)
