-- A string that is written is read back.
use Rattle.std.proofs.Common.{◌≡◌, ℕ, ◌+◌, ◌/◌, ◌%◌, ◌<◌, inl, inr, List, [], ◌∷◌, ◌++◌, Bool, true, false, cond, Option, Some, None, refl, sym, ap, ◌∙◌, arith}
use Rattle.std.specs.Prelude.{◌==◌, nat_lt}
use Rattle.std.specs.List.{flat_map}
use Rattle.std.specs.Char.{digit_char, digit_value}
use Rattle.std.specs.Str.{encode_utf8_all, all_scalars}
use Rattle.std.proofs.lemmas.Bool.{eqb-true, and_parts, and_from, le-leb, lt-leb, lt-ltb, ltb-true, ltb-false, not_from_false, and_left, cond_both}
use Rattle.std.proofs.lemmas.Str.{digit_value-digit_char, encodes-append, encode_ascii}
use lib.Utf8.{scalar}
use Rattle.std.proofs.Math.Utf8.{low_scalar}
use Rattle.cfg_json.proofs.StringLaws.{short_small}
use Rattle.cfg_json.specs.Ascii.{quotation_mark, digit_zero, backslash, small_b, small_f, small_n, small_r, small_t, small_u}
use Rattle.cfg_json.specs.Characters.{short_escape, hex_digit, code_unit, is_high, is_low}
use Rattle.cfg_json.specs.Strings.{IsContent, IsString}
use Rattle.cfg_json.specs.Writing.{escape_letter, escape_by, escape, quoted}
use Rattle.cfg_json.proofs.Options.{given, nothing, none_is, given_is, chosen}

-- the letter of an escape stands for the character
letter_back : (c l : ℕ) → escape_letter c ≡ given l → short_escape l ≡ Some c
unfolding escape_letter short_escape
letter_back c l e = elim (chosen (c == quotation_mark) (given quotation_mark) (cond (c == backslash) (given backslash) (cond (c == 8) (given small_b) (cond (c == 12) (given small_f) (cond (c == 10) (given small_n) (cond (c == 13) (given small_r) (cond (c == 9) (given small_t) nothing)))))) (given l) e) [
  | inl w ↦ back c quotation_mark quotation_mark l (eqb-true c quotation_mark w.0) (given_is quotation_mark l w.1) refl
  | inr w1 ↦ (elim (chosen (c == backslash) (given backslash) (cond (c == 8) (given small_b) (cond (c == 12) (given small_f) (cond (c == 10) (given small_n) (cond (c == 13) (given small_r) (cond (c == 9) (given small_t) nothing))))) (given l) w1.1) [
    | inl w ↦ back c backslash backslash l (eqb-true c backslash w.0) (given_is backslash l w.1) refl
    | inr w2 ↦ (elim (chosen (c == 8) (given small_b) (cond (c == 12) (given small_f) (cond (c == 10) (given small_n) (cond (c == 13) (given small_r) (cond (c == 9) (given small_t) nothing)))) (given l) w2.1) [
      | inl w ↦ back c 8 small_b l (eqb-true c 8 w.0) (given_is small_b l w.1) refl
      | inr w3 ↦ (elim (chosen (c == 12) (given small_f) (cond (c == 10) (given small_n) (cond (c == 13) (given small_r) (cond (c == 9) (given small_t) nothing))) (given l) w3.1) [
        | inl w ↦ back c 12 small_f l (eqb-true c 12 w.0) (given_is small_f l w.1) refl
        | inr w4 ↦ (elim (chosen (c == 10) (given small_n) (cond (c == 13) (given small_r) (cond (c == 9) (given small_t) nothing)) (given l) w4.1) [
          | inl w ↦ back c 10 small_n l (eqb-true c 10 w.0) (given_is small_n l w.1) refl
          | inr w5 ↦ (elim (chosen (c == 13) (given small_r) (cond (c == 9) (given small_t) nothing) (given l) w5.1) [
            | inl w ↦ back c 13 small_r l (eqb-true c 13 w.0) (given_is small_r l w.1) refl
            | inr w6 ↦ (elim (chosen (c == 9) (given small_t) nothing (given l) w6.1) [
              | inl w ↦ back c 9 small_t l (eqb-true c 9 w.0) (given_is small_t l w.1) refl
              | inr w7 ↦ absurd (none_is l w7.1)
            ])
          ])
        ])
      ])
    ])
  ])
] where
  back : (c at letter l : ℕ) → c ≡ at → letter ≡ l → short_escape letter ≡ Some at → short_escape l ≡ Some c
  back c at letter l a b h = sym (ap short_escape b) ∙ h ∙ ap (λ (n : ℕ). Some n) (sym a)

-- a character without such a letter is no quotation mark and no backslash
no_letter : (c : ℕ) → escape_letter c ≡ nothing → ((c == quotation_mark) ≡ false) × ((c == backslash) ≡ false)
unfolding escape_letter
no_letter c e = first c (c == quotation_mark) (c == backslash) (cond (c == 8) (given small_b) (cond (c == 12) (given small_f) (cond (c == 10) (given small_n) (cond (c == 13) (given small_r) (cond (c == 9) (given small_t) nothing))))) e where
  first : (c : ℕ) (a b : Bool) (more : Option ℕ) → cond a (given quotation_mark) (cond b (given backslash) more) ≡ nothing → (a ≡ false) × (b ≡ false)
  first c true b more e = absurd (none_is quotation_mark (sym e))
  first c false true more e = absurd (none_is backslash (sym e))
  first c false false more e = (refl, refl)

hex_of : (d : ℕ) → d < 16 → hex_digit (digit_char d) ≡ Some d
hex_of d lt =
    let v : digit_value (digit_char d) ≡ d = digit_value-digit_char d (omega arith) in
    let small : nat_lt d 16 ≡ true = lt-ltb d 16 lt in
    ap (λ (n : ℕ). cond (nat_lt n 16) (Some n) None) v ∙ rw small refl

code_of : (c : ℕ) → c < 32 → code_unit digit_zero digit_zero (digit_char (c / 16)) (digit_char (c % 16)) ≡ Some c
unfolding code_unit
code_of c lt = rw (hex_of (c / 16) (omega arith), hex_of (c % 16) (omega arith)) (ap (λ (n : ℕ). Some n) (omega arith))

not_high : (c : ℕ) → c < 32 → is_high c ≡ false
not_high c lt = and_left _ _ (lt-leb 0xd800 c (omega arith))

not_low : (c : ℕ) → c < 32 → is_low c ≡ false
not_low c lt = and_left _ _ (lt-leb 0xdc00 c (omega arith))

other_content : (c : ℕ) (b : Bool) (t s : List ℕ) → nat_lt c 32 ≡ b → ((c == quotation_mark) ≡ false) × ((c == backslash) ≡ false) → IsContent t s
    → IsContent (cond b (backslash ∷ small_u ∷ digit_zero ∷ digit_zero ∷ digit_char (c / 16) ∷ digit_char (c % 16) ∷ []) (c ∷ []) ++ t) (c ∷ s)
other_content c true t s e n more = let lt = ltb-true c 32 e in IsContent.unit digit_zero digit_zero (digit_char (c / 16)) (digit_char (c % 16)) c t s (code_of c lt) (not_high c lt) (not_low c lt) more
other_content c false t s e n more = IsContent.plain c t s (and_from _ _ (le-leb 32 c (ltb-false c 32 e)) (and_from _ _ (not_from_false _ n.0) (not_from_false _ n.1))) more

by_content : (c : ℕ) (o : Option ℕ) (t s : List ℕ) → escape_letter c ≡ o → IsContent t s → IsContent (escape_by o c ++ t) (c ∷ s)
by_content c None t s e more = other_content c (nat_lt c 32) t s refl (no_letter c e) more
by_content c (Some l) t s e more = IsContent.short l c t s (letter_back c l e) more

one_content : (c : ℕ) (t s : List ℕ) → IsContent t s → IsContent (escape c ++ t) (c ∷ s)
unfolding escape
one_content c t s more = by_content c (escape_letter c) t s refl more

written_content : (s : List ℕ) → IsContent (flat_map escape s) s
written_content [] = IsContent.ended
written_content (c ∷ s) = one_content c (flat_map escape s) s (written_content s)

-- ---- the characters are scalars

scalars_append : (s t : List ℕ) → all_scalars s ≡ true → all_scalars t ≡ true → all_scalars (s ++ t) ≡ true
scalars_append [] t a b = b
scalars_append (c ∷ s) t a b = let p = and_parts (scalar c) (all_scalars s) a in and_from _ _ p.0 (scalars_append s t p.1 b)

low_are : (x : ℕ) (t : List ℕ) → x < 128 → all_scalars t ≡ true → all_scalars (x ∷ t) ≡ true
low_are x t lt h = and_from _ _ (low_scalar x (omega arith)) h

digit_small : (d : ℕ) → d < 16 → digit_char d < 128
digit_small d lt = cond_both (nat_lt d 10) (digit_zero + d) (87 + d) (λ n. n < 128) (λ e. omega arith) (λ e. omega arith)

six_low : (a b c d e f : ℕ) → a < 128 → b < 128 → c < 128 → d < 128 → e < 128 → f < 128 → all_scalars (a ∷ b ∷ c ∷ d ∷ e ∷ f ∷ []) ≡ true
six_low a b c d e f ha hb hc hd he hf =
    low_are a (b ∷ c ∷ d ∷ e ∷ f ∷ []) ha (low_are b (c ∷ d ∷ e ∷ f ∷ []) hb (low_are c (d ∷ e ∷ f ∷ []) hc (low_are d (e ∷ f ∷ []) hd (low_are e (f ∷ []) he (low_are f [] hf refl)))))

other_scalars : (c : ℕ) (b : Bool) → nat_lt c 32 ≡ b → scalar c ≡ true → all_scalars (cond b (backslash ∷ small_u ∷ digit_zero ∷ digit_zero ∷ digit_char (c / 16) ∷ digit_char (c % 16) ∷ []) (c ∷ [])) ≡ true
other_scalars c true e ok =
    let lt : c < 32 = ltb-true c 32 e in
    six_low backslash small_u digit_zero digit_zero (digit_char (c / 16)) (digit_char (c % 16)) (omega arith) (omega arith) (omega arith) (omega arith) (digit_small (c / 16) (omega arith)) (digit_small (c % 16) (omega arith))
other_scalars c false e ok = and_from _ _ ok refl

by_scalars : (c : ℕ) (o : Option ℕ) → escape_letter c ≡ o → scalar c ≡ true → all_scalars (escape_by o c) ≡ true
by_scalars c None e ok = other_scalars c (nat_lt c 32) refl ok
by_scalars c (Some l) e ok = low_are backslash (l ∷ []) (omega arith) (low_are l [] (short_small l c (letter_back c l e)) refl)

escape_scalars : (c : ℕ) → scalar c ≡ true → all_scalars (escape c) ≡ true
unfolding escape
escape_scalars c ok = by_scalars c (escape_letter c) refl ok

written_scalars : (s : List ℕ) → all_scalars s ≡ true → all_scalars (flat_map escape s) ≡ true
written_scalars [] h = refl
written_scalars (c ∷ s) h = let p = and_parts (scalar c) (all_scalars s) h in scalars_append (escape c) (flat_map escape s) (escape_scalars c p.0) (written_scalars s p.1)

pub ascii_first : (x : ℕ) (t : List ℕ) → x < 128 → encode_utf8_all (x ∷ t) ≡ x ∷ encode_utf8_all t
ascii_first x t lt = ap (λ (b : List ℕ). b ++ encode_utf8_all t) (encode_ascii x lt)

-- a string that is written is a string of its characters
pub written_string : (s : List ℕ) → all_scalars s ≡ true → IsString (encode_utf8_all (quoted s)) s
unfolding quoted
written_string s h = record {
  written = flat_map escape s;
  scalars = written_scalars s h;
  content = written_content s;
  is = ascii_first quotation_mark (flat_map escape s ++ quotation_mark ∷ []) (omega arith) ∙ ap (λ (t : List ℕ). quotation_mark ∷ t) (encodes-append (flat_map escape s) (quotation_mark ∷ []) ∙ ap (λ (t : List ℕ). encode_utf8_all (flat_map escape s) ++ t) (ascii_first quotation_mark [] (omega arith)));
}
