-- A string is read as the grammar says, and what is read is a string.
use Rattle.std.proofs.Common.{◌≡◌, ℕ, suc, ◌+◌, ◌*◌, ◌<◌, ◌≤◌, inl, inr, List, [], ◌∷◌, ◌++◌, length, take, drop, get_or, Bool, true, false, Option, Some, None, refl, sym, ap, subst, ◌∙◌, append_assoc, add-one, arith, lit<}
use Rattle.std.specs.Prelude.{◌==◌, ◌&&◌, not, option_map}
use Rattle.std.specs.Char.{encode_utf8}
use Rattle.std.specs.List.{list_all}
use Rattle.std.specs.Str.{IsUtf8, encode_utf8_all, all_scalars}
use Rattle.std.proofs.lemmas.Bool.{eqb-true, and_parts, and_from, ne_eqb, not_from_false, not-true, cases_lt}
use Rattle.std.proofs.lemmas.List.{append-nil}
use Rattle.std.proofs.lemmas.Str.{encode_ascii, inside_one, scalars-chars, IsUtf8-from_is_utf8}
use Rattle.std.specs.Str.{is_utf8}
use Rattle.cfg_base.specs.Text.{characters}
use Rattle.cfg_base.proofs.TextLemmas.{characters-chars, characters-encodes, encodes-chars}
use Rattle.cfg_json.specs.Ascii.{quotation_mark, solidus, backslash, small_b, small_f, small_n, small_r, small_t, small_u}
use Rattle.cfg_json.specs.Characters.{is_plain, short_escape, hex_digit, code_unit}
use Rattle.cfg_json.specs.Reads.{◌>>=◌}
use Rattle.cfg_json.specs.Strings.{IsContent, IsString}
use Rattle.cfg_json.specs.Reading.{end_of, content_of, utf8_of, text_of, string_at}
use Rattle.cfg_json.proofs.Options.{given, nothing, none_is, given_is, bind_some, chosen, tested}
use Rattle.cfg_json.proofs.ContentLaws.{content_again, content_takes}
use Rattle.cfg_json.proofs.Utf8.{utf8_of-valid}

-- ---- the quotation mark that ends a string

-- neither ends a string nor begins an escape
abbrev passes : ℕ → Bool
passes b = not (b == quotation_mark) && not (b == backslash)

abbrev further : ℕ → Option ℕ → Option ℕ
further k found = option_map (λ n. n + k) found

further_one : (k : ℕ) (found : Option ℕ) → option_map (λ n. n + 1) (further k found) ≡ further (suc k) found
further_one k (Some n) = ap Some (omega arith)
further_one k None = refl

further_none : (found : Option ℕ) → found ≡ further 0 found
further_none (Some n) = ap Some (omega arith)
further_none None = refl

pass_one : (b : ℕ) (t : List ℕ) → passes b ≡ true → end_of false (b ∷ t) ≡ option_map (λ n. n + 1) (end_of false t)
unfolding end_of
pass_one b t e =
    let p = and_parts _ _ e in
    let q : (b == quotation_mark) ≡ false = not-true _ p.0 in
    let r : (b == backslash) ≡ false = not-true _ p.1 in
    rw (q, r) refl

pass_all : (bs t : List ℕ) → list_all passes bs ≡ true → end_of false (bs ++ t) ≡ further (length bs) (end_of false t)
pass_all [] t e = further_none (end_of false t)
pass_all (b ∷ bs) t e =
    let p = and_parts (passes b) (list_all passes bs) e in
    pass_one b (bs ++ t) p.0 ∙ ap (λ (o : Option ℕ). option_map (λ n. n + 1) o) (pass_all bs t p.1) ∙ further_one (length bs) (end_of false t)

-- the bytes end at the quotation mark behind them
abbrev EndsString : List ℕ → Type 0
EndsString bs = (rest : List ℕ) → end_of false (bs ++ quotation_mark ∷ rest) ≡ Some (length bs)

none_before : EndsString []
unfolding end_of
none_before rest = refl

append_length : (xs ys : List ℕ) → length ys + length xs ≡ length (xs ++ ys)
append_length [] ys = omega arith
append_length (x ∷ xs) ys = omega (arith, append_length xs ys)

pass_before : (bs more : List ℕ) → list_all passes bs ≡ true → EndsString more → EndsString (bs ++ more)
pass_before bs more e ends rest =
    ap (end_of false) (append_assoc bs more (quotation_mark ∷ rest)) ∙ pass_all bs (more ++ quotation_mark ∷ rest) e ∙ ap (further (length bs)) (ends rest)
    ∙ ap (λ (n : ℕ). Some n) (append_length bs more)

escape_before : (x : ℕ) (more : List ℕ) → EndsString more → EndsString (backslash ∷ x ∷ more)
unfolding end_of
escape_before x more ends rest =
    ap (λ (o : Option ℕ). option_map (λ n. n + 1) (option_map (λ n. n + 1) o)) (ends rest) ∙ ap (λ (n : ℕ). Some n) (omega arith)

-- the bytes of a character

high_pass : (xs : List ℕ) → ((k : ℕ) → k < length xs → 128 ≤ get_or xs k 0) → list_all passes xs ≡ true
high_pass [] h = refl
high_pass (x ∷ xs) h =
    let high : 128 ≤ x = h 0 (omega arith) in
    and_from _ _ (and_from _ _ (not_from_false _ (ne_eqb x quotation_mark (λ e. omega arith))) (not_from_false _ (ne_eqb x backslash (λ e. omega arith)))) (high_pass xs (λ k below. h (suc k) (omega arith)))

character_passes : (c : ℕ) → passes c ≡ true → list_all passes (encode_utf8 c) ≡ true
character_passes c e = elim (cases_lt c 128) [
  | inl low ↦ ap (list_all passes) (encode_ascii c low) ∙ and_from _ _ e refl
  | inr high ↦ high_pass (encode_utf8 c) (λ k below. elim (cases_lt (get_or (encode_utf8 c) k 0) 128) [
    | inl low ↦ absurd (omega (arith, inside_one c [] (encode_utf8 c) k (sym (append-nil _)) below low))
    | inr h ↦ h
  ])
]

character_before : (c : ℕ) (more : List ℕ) → passes c ≡ true → EndsString more → EndsString (encode_utf8 c ++ more)
character_before c more e ends = pass_before (encode_utf8 c) more (character_passes c e) ends

plain_passes : (c : ℕ) → is_plain c ≡ true → passes c ≡ true
plain_passes c e = (and_parts _ _ e).1

hex_none : (a y d : ℕ) → hex_digit y ≡ nothing → hex_digit a ≡ given d → not (a == y) ≡ true
hex_none a y d n e = not_from_false _ (ne_eqb a y (λ same. none_is d (sym n ∙ sym (ap hex_digit same) ∙ e)))

hex_passes : (a d : ℕ) → hex_digit a ≡ given d → passes a ≡ true
hex_passes a d e = and_from _ _ (hex_none a quotation_mark d refl e) (hex_none a backslash d refl e)

-- each digit of a code unit
record FourPass (a b c d : ℕ) : Type 0 where
  a_passes : passes a ≡ true
  b_passes : passes b ≡ true
  c_passes : passes c ≡ true
  d_passes : passes d ≡ true

unit_passes : (a b c d u : ℕ) → code_unit a b c d ≡ given u → FourPass a b c d
unfolding code_unit
unit_passes a b c d u e =
    let p = bind_some (hex_digit a) (λ a. hex_digit b >>= λ b. hex_digit c >>= λ c. hex_digit d >>= λ d. Some (a * 4096 + b * 256 + c * 16 + d)) u e in
    let q = bind_some (hex_digit b) (λ b. hex_digit c >>= λ c. hex_digit d >>= λ d. Some (p.0 * 4096 + b * 256 + c * 16 + d)) u p.2 in
    let r = bind_some (hex_digit c) (λ c. hex_digit d >>= λ d. Some (p.0 * 4096 + q.0 * 256 + c * 16 + d)) u q.2 in
    let s = bind_some (hex_digit d) (λ d. Some (p.0 * 4096 + q.0 * 256 + r.0 * 16 + d)) u r.2 in
    record { a_passes = hex_passes a p.0 p.1; b_passes = hex_passes b q.0 q.1; c_passes = hex_passes c r.0 r.1; d_passes = hex_passes d s.0 s.1 }

-- a backslash and an ASCII character
two_before : (x : ℕ) (more : List ℕ) → x < 128 → EndsString more → EndsString (encode_utf8 backslash ++ (encode_utf8 x ++ more))
two_before x more small ends =
    subst (λ (bs : List ℕ). EndsString (bs ++ (encode_utf8 x ++ more))) (sym (encode_ascii backslash (lit< tt)))
    (subst (λ (bs : List ℕ). EndsString (backslash ∷ (bs ++ more))) (sym (encode_ascii x small)) (escape_before x more ends))

four_before : (a b c d u : ℕ) (more : List ℕ) → code_unit a b c d ≡ given u → EndsString more → EndsString (encode_utf8 backslash ++ (encode_utf8 small_u ++ (encode_utf8 a ++ (encode_utf8 b ++ (encode_utf8 c ++ (encode_utf8 d ++ more))))))
four_before a b c d u more e ends =
    let p = unit_passes a b c d u e in
    two_before small_u _ (lit< tt) (character_before a _ p.a_passes (character_before b _ p.b_passes (character_before c _ p.c_passes (character_before d more p.d_passes ends))))

pub short_small : (x c : ℕ) → short_escape x ≡ given c → x < 128
unfolding short_escape
short_small x c e = elim (cases_lt x 128) [
  | inl low ↦ low
  | inr high ↦
      let a1 : (x == quotation_mark) ≡ false = ne_eqb x quotation_mark (λ e. omega arith) in
      let a2 : (x == backslash) ≡ false = ne_eqb x backslash (λ e. omega arith) in
      let a3 : (x == solidus) ≡ false = ne_eqb x solidus (λ e. omega arith) in
      let a4 : (x == small_b) ≡ false = ne_eqb x small_b (λ e. omega arith) in
      let a5 : (x == small_f) ≡ false = ne_eqb x small_f (λ e. omega arith) in
      let a6 : (x == small_n) ≡ false = ne_eqb x small_n (λ e. omega arith) in
      let a7 : (x == small_r) ≡ false = ne_eqb x small_r (λ e. omega arith) in
      let a8 : (x == small_t) ≡ false = ne_eqb x small_t (λ e. omega arith) in
      absurd (none_is c (rw (a1, a2, a3, a4, a5, a6, a7, a8) at e))
]

short_before : (x c : ℕ) (more : List ℕ) → short_escape x ≡ given c → EndsString more → EndsString (encode_utf8 backslash ++ (encode_utf8 x ++ more))
short_before x c more e ends = two_before x more (short_small x c e) ends

pub content_ends : (t s : List ℕ) → IsContent t s → EndsString (encode_utf8_all t)
content_ends _ _ IsContent.ended = none_before
content_ends _ _ (IsContent.plain c t s p more) = character_before c _ (plain_passes c p) (content_ends t s more)
content_ends _ _ (IsContent.short x c t s e more) = short_before x c _ e (content_ends t s more)
content_ends _ _ (IsContent.unit a b c d u t s e high low more) = four_before a b c d u _ e (content_ends t s more)
content_ends _ _ (IsContent.pair a b c d u e f g h l t s first high second low more) = four_before a b c d u _ first (four_before e f g h l _ second (content_ends t s more))

-- ---- what is a string is read

take_front : (xs ys : List ℕ) → take (length xs) (xs ++ ys) ≡ xs
take_front [] ys = refl
take_front (x ∷ xs) ys = ap (λ (t : List ℕ). x ∷ t) (take_front xs ys)

drop_front : (xs : List ℕ) (y : ℕ) (ys : List ℕ) → drop (length xs + 1) (xs ++ y ∷ ys) ≡ ys
drop_front [] y ys = refl
drop_front (x ∷ xs) y ys = rw add-one (rw add-one at (drop_front xs y ys))

text_again : (t s : List ℕ) → all_scalars t ≡ true → IsContent t s → text_of (encode_utf8_all t) ≡ Some s
unfolding text_of
text_again t s ok h =
    let valid : utf8_of (encode_utf8_all t) ≡ Some (encode_utf8_all t) = utf8_of-valid _ (t, (ok, refl)) in
    ap (λ (o : Option (List ℕ)). o >>= λ b. content_of 0 (characters b)) valid ∙ ap (content_of 0) (characters-encodes t ok) ∙ content_again t s h

inside_again : (t s rest : List ℕ) → all_scalars t ≡ true → IsContent t s → string_at (encode_utf8_all t ++ quotation_mark ∷ rest) ≡ Some (s, rest)
unfolding string_at
inside_again t s rest ok h =
    let bytes : List ℕ = encode_utf8_all t in
    let ends : end_of false (bytes ++ quotation_mark ∷ rest) ≡ Some (length bytes) = content_ends t s h rest in
    let text : text_of (take (length bytes) (bytes ++ quotation_mark ∷ rest)) ≡ Some s = ap text_of (take_front bytes (quotation_mark ∷ rest)) ∙ text_again t s ok h in
    ap (λ (o : Option ℕ). o >>= λ n. text_of (take n (bytes ++ quotation_mark ∷ rest)) >>= λ s. Some (s, drop (n + 1) (bytes ++ quotation_mark ∷ rest))) ends
    ∙ ap (λ (o : Option (List ℕ)). o >>= λ s. Some (s, drop (length bytes + 1) (bytes ++ quotation_mark ∷ rest))) text
    ∙ ap (λ (r : List ℕ). Some (s, r)) (drop_front bytes quotation_mark rest)

-- a string at the front: what stands behind its first quotation mark
pub record StringFront (t s rest : List ℕ) : Type 0 where
  pub inside : List ℕ
  pub is : t ++ rest ≡ quotation_mark ∷ inside
  pub reads : string_at inside ≡ Some (s, rest)

pub string_again : (t s : List ℕ) → IsString t s → (rest : List ℕ) → StringFront t s rest
string_again t s h rest = record {
  inside = encode_utf8_all h.written ++ quotation_mark ∷ rest;
  is = ap (λ (x : List ℕ). x ++ rest) h.is ∙ ap (λ (x : List ℕ). quotation_mark ∷ x) (append_assoc (encode_utf8_all h.written) (quotation_mark ∷ []) rest);
  reads = inside_again h.written s rest h.scalars h.content;
}

-- ---- what is read is a string

end_splits : (e : Bool) (t : List ℕ) (n : ℕ) → end_of e t ≡ given n → t ≡ take n t ++ quotation_mark ∷ drop (n + 1) t
unfolding end_of
end_splits e [] n h = absurd (none_is n h)
end_splits e (x ∷ t) n h =
    elim (chosen (not e && x == quotation_mark) (given 0) (option_map (λ n. n + 1) (end_of (not e && x == backslash) t)) (given n) h) [
      | inl w ↦ (let is : x ≡ quotation_mark = eqb-true x quotation_mark (and_parts _ _ w.0).1 in
          subst (λ (m : ℕ). x ∷ t ≡ take m (x ∷ t) ++ quotation_mark ∷ drop (m + 1) (x ∷ t)) (given_is 0 n w.1) (ap (λ (y : ℕ). y ∷ t) is))
      | inr w ↦ later x t n (end_of (not e && x == backslash) t) w.1 (λ m k. end_splits (not e && x == backslash) t m k)
    ] where
      later : (x : ℕ) (t : List ℕ) (n : ℕ) (o : Option ℕ) → option_map (λ n. n + 1) o ≡ given n → ((m : ℕ) → o ≡ given m → t ≡ take m t ++ quotation_mark ∷ drop (m + 1) t)
          → x ∷ t ≡ take n (x ∷ t) ++ quotation_mark ∷ drop (n + 1) (x ∷ t)
      later x t n None h more = absurd (none_is n h)
      later x t n (Some m) h more =
          let is : suc m ≡ n = omega (arith, given_is (m + 1) n h) in
          let cut : t ≡ take m t ++ quotation_mark ∷ drop (suc m) t = rw add-one at (more m refl) in
          subst (λ (k : ℕ). x ∷ t ≡ take k (x ∷ t) ++ quotation_mark ∷ drop (k + 1) (x ∷ t)) is (rw add-one (ap (λ (y : List ℕ). x ∷ y) cut))

pub utf8_takes : (bytes b : List ℕ) → utf8_of bytes ≡ given b → (bytes ≡ b) × IsUtf8 bytes
unfolding utf8_of
utf8_takes bytes b e = let w = tested (is_utf8 bytes) bytes b e in (w.1, IsUtf8-from_is_utf8 bytes w.0)

text_takes : (bytes s : List ℕ) → text_of bytes ≡ given s → IsUtf8 bytes × IsContent (characters bytes) s
unfolding text_of
text_takes bytes s e =
    let p = bind_some (utf8_of bytes) (λ b. content_of 0 (characters b)) s e in
    let u = utf8_takes bytes p.0 p.1 in
    (u.1, content_takes 0 (characters bytes) s (ap (λ (b : List ℕ). content_of 0 (characters b)) u.0 ∙ p.2))

-- a string at the front
pub record StringTaken (t s rest : List ℕ) : Type 0 where
  pub string : List ℕ
  pub is : quotation_mark ∷ t ≡ string ++ rest
  pub is_string : IsString string s

abbrev ReadString : Type 0
ReadString = List ℕ × List ℕ

string_from : (t s : List ℕ) (n : ℕ) → end_of false t ≡ given n → text_of (take n t) ≡ given s → StringTaken t s (drop (n + 1) t)
string_from t s n e h =
    let x = text_takes (take n t) s h in
    let bytes : encode_utf8_all (characters (take n t)) ≡ take n t = encodes-chars (take n t) x.0 in
    record {
      string = quotation_mark ∷ (take n t ++ quotation_mark ∷ []);
      is = ap (λ (y : List ℕ). quotation_mark ∷ y) (end_splits false t n e ∙ sym (append_assoc (take n t) (quotation_mark ∷ []) (drop (n + 1) t)));
      is_string = record {
        written = characters (take n t);
        scalars = ap all_scalars (characters-chars (take n t)) ∙ scalars-chars (take n t) x.0;
        content = x.1;
        is = ap (λ (y : List ℕ). quotation_mark ∷ (y ++ quotation_mark ∷ [])) (sym bytes);
      };
    }

pub string_takes : (t s rest : List ℕ) → string_at t ≡ given (s, rest) → StringTaken t s rest
unfolding string_at
string_takes t s rest e =
    let p = bind_some (end_of false t) (λ n. text_of (take n t) >>= λ s. Some (s, drop (n + 1) t)) (s, rest) e in
    let q = bind_some (text_of (take p.0 t)) (λ s. Some (s, drop (p.0 + 1) t)) (s, rest) p.2 in
    let made : ReadString = (q.0, drop (p.0 + 1) t) in
    subst (λ (r : ReadString). StringTaken t r.0 r.1) (given_is made (s, rest) q.2) (string_from t q.0 p.0 p.1 q.1)
