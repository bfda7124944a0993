-- A run of bytes that stand for themselves, seen sixteen at a time through the mask of those that do not.
use Rattle.std.proofs.Common.{◌≡◌, ℕ, ◌+◌, ◌*◌, ◌%◌, ◌^◌, ◌<◌, ◌≤◌, ltb, leb, eqb, inl, inr, Bool, true, false, not, ◌||◌, ◌&&◌, cond, List, [], ◌∷◌, map, length, drop, replicate, refl, sym, ap, ap₂, ◌∙◌, arith}
use Rattle.std.proofs.lemmas.Simd.{zip2_splat, mask_l-mod, chunk-drop, length-chunk, leading_from_mask_l, trailing_mask_l}
use Rattle.std.proofs.lemmas.List.{length-drop, length-map}
use Rattle.std.proofs.lemmas.List.Folds.{prefix_len-append}
use Rattle.std.proofs.lemmas.List.Sums.{prefix_len-le-length}
use Rattle.std.proofs.lemmas.Bool.{eq-eqb, ne_eqb, cases_lt, le-leb, lt-leb, lt-ltb, le-ltb}
use Rattle.std.specs.List.{prefix_len}
use lib.Bits.{bit_or}
use lib.Lanes.{zip2, chunk, mask_l, top}
use lib.Count.{count_trailing_zeros}
use Rattle.cfg_json.specs.Characters.{is_plain}
use Rattle.cfg_json.specs.Scans.{is_stop}

-- ---- the mask

abbrev hit : ℕ → ℕ → ℕ
hit a b = cond (eqb a b) 255 0

abbrev below : ℕ → ℕ → ℕ
below a b = cond (ltb a b) 255 0

lane : (a b c : Bool) → top 7 (bit_or (bit_or (cond a 255 0) (cond b 255 0)) (cond c 255 0)) ≡ (a || b || c)
lane true true true = refl
lane true true false = refl
lane true false true = refl
lane true false false = refl
lane false true true = refl
lane false true false = refl
lane false false true = refl
lane false false false = refl

lanes : (v : List ℕ) → map (top 7) (zip2 bit_or (zip2 bit_or (map (λ x. hit x 34) v) (map (λ x. hit x 92) v)) (map (λ x. below x 32) v)) ≡ map is_stop v
lanes [] = refl
lanes (x ∷ xs) = ap₂ (λ b bs. b ∷ bs) (lane (eqb x 34) (eqb x 92) (ltb x 32)) (lanes xs)

pub stops_are : (v : List ℕ) → length v ≡ 16
    → mask_l (map (top 7) (zip2 bit_or (zip2 bit_or (zip2 hit v (replicate 16 34)) (zip2 hit v (replicate 16 92))) (zip2 below v (replicate 16 32)))) % 2 ^ 64 ≡ mask_l (map is_stop v)
stops_are v long =
    (λ i. mask_l (map (top 7) (zip2 bit_or (zip2 bit_or (zip2_splat hit v 16 34 long i) (zip2_splat hit v 16 92 long i)) (zip2_splat below v 16 32 long i))) % 2 ^ 64)
    ∙ ap (λ l. mask_l l % 2 ^ 64) (lanes v) ∙ mask_l-mod (map is_stop v) 64 (omega (arith, length-map v is_stop))

-- ---- the run

order : (x : ℕ) → leb 32 x ≡ not (ltb x 32)
order x = elim (cases_lt x 32) [
  | inl low ↦ rw (lt-leb 32 x low, lt-ltb x 32 low) refl
  | inr high ↦ rw (le-leb 32 x high, le-ltb x 32 high) refl
]

three : (a b d : Bool) → (not d && (not a && not b)) ≡ not (a || b || d)
three true true true = refl
three true true false = refl
three true false true = refl
three true false false = refl
three false true true = refl
three false true false = refl
three false false true = refl
three false false false = refl

opposite : (x : ℕ) → is_plain x ≡ not (is_stop x)
opposite x = ap (λ c. c && (not (eqb x 34) && not (eqb x 92))) (order x) ∙ three (eqb x 34) (eqb x 92) (ltb x 32)

none_fails : (b : Bool) (n l m : ℕ) → n ≤ l → cond (not b) (1 + n) 0 ≡ 1 + l → (n ≡ l → m ≡ 0) → cond b 1 0 + 2 * m ≡ 0
none_fails true n l m le e ih = let no : ⊥ = omega arith in absurd no
none_fails false n l m le e ih = let z = ih (omega arith) in omega arith

same_run : (xs : List ℕ) → prefix_len is_plain xs ≡ prefix_len (λ x. not (is_stop x)) xs
same_run [] = refl
same_run (x ∷ xs) = ap₂ (λ b n. cond b (1 + n) 0) (opposite x) (same_run xs)

all_pass : (xs : List ℕ) → prefix_len (λ x. not (is_stop x)) xs ≡ length xs → mask_l (map is_stop xs) ≡ 0
all_pass [] e = refl
all_pass (x ∷ xs) e = none_fails (is_stop x) _ (length xs) _ (prefix_len-le-length (λ y. not (is_stop y)) xs) (omega arith) (all_pass xs)

split : (d : List ℕ) (i n : ℕ)
    → prefix_len is_plain (drop i d) ≡ cond (eqb (prefix_len is_plain (chunk i n d)) (length (chunk i n d))) (length (chunk i n d) + prefix_len is_plain (drop (i + n) d)) (prefix_len is_plain (chunk i n d))
split d i n = ap (prefix_len is_plain) (chunk-drop i n d) ∙ prefix_len-append is_plain (chunk i n d) (drop (i + n) d)

pub run_bound : (d : List ℕ) (i : ℕ) → i ≤ length d → i + prefix_len is_plain (drop i d) ≤ length d
run_bound d i h = omega (arith, prefix_len-le-length is_plain (drop i d), length-drop i d)

pub run_through : (d : List ℕ) (i n : ℕ) → i + n ≤ length d → mask_l (map is_stop (chunk i n d)) ≡ 0 → prefix_len is_plain (drop i d) ≡ n + prefix_len is_plain (drop (i + n) d)
run_through d i n room none =
    let c = chunk i n d in
    split d i n ∙ ap (λ b. cond b (length c + prefix_len is_plain (drop (i + n) d)) (prefix_len is_plain c)) (eq-eqb _ _ (same_run c ∙ leading_from_mask_l is_stop c none))
    ∙ ap (λ k. k + prefix_len is_plain (drop (i + n) d)) (length-chunk i n d room)

pub run_stops : (d : List ℕ) (i n : ℕ) → i + n ≤ length d → n ≤ 64 → 0 < mask_l (map is_stop (chunk i n d)) → prefix_len is_plain (drop i d) ≡ count_trailing_zeros 64 (mask_l (map is_stop (chunk i n d)))
run_stops d i n room short some =
    let c = chunk i n d in
    split d i n
    ∙ ap (λ b. cond b (length c + prefix_len is_plain (drop (i + n) d)) (prefix_len is_plain c)) (ne_eqb _ _ (λ (e : prefix_len is_plain c ≡ length c). omega (arith, all_pass c (sym (same_run c) ∙ e))))
    ∙ same_run c ∙ sym (trailing_mask_l is_stop 64 c (omega (arith, length-chunk i n d room)) some)
