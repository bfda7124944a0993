-- The compact text of a value has no line feed.
use Rattle.std.proofs.Common.{◌≡◌, ℕ, zero, suc, ◌+◌, ◌/◌, ◌%◌, ◌≤◌, ◌==◌, pos, negsuc, ℤ, List, [], ◌∷◌, ◌++◌, Bool, true, false, cond, nat_lt, All, decimal, ltb-false, refl, arith}
use Rattle.std.specs.Fmt.{digits, digits_onto, digit_glyph, signed_decimal}
use Rattle.std.specs.Char.{digit_char}
use Rattle.std.specs.List.{AllByRecursion}
use Rattle.std.proofs.lemmas.Bool.Decides.{nat_tests}
use Rattle.std.proofs.lemmas.List.Elements.{All-from_recursion}
use Rattle.json.specs.Print.{escape_letter, escape_byte, escape, quoted, token_text}
use Rattle.json.specs.Token as token
use Rattle.serde_json.specs.Data.{Num, unsigned, negative, float, Data, null, boolean, number, string, array, object, Items, no_items, item, Members, no_members, member}
use Rattle.serde_json.specs.Written.{number_text, compact_text, items_text, members_text, comma_if}

-- no line feed
abbrev pub IsOther : ℕ → Type 0
IsOther byte = byte ≡ 10 → ⊥

abbrev IsFree : List ℕ → Type 0
IsFree = AllByRecursion IsOther

append_free : (xs ys : List ℕ) → IsFree xs → IsFree ys → IsFree (xs ++ ys)
append_free [] ys h g = g
append_free (x ∷ xs) ys h g = (h.0, append_free xs ys h.1 g)

if_free : (b : Bool) (xs ys : List ℕ) → IsFree xs → IsFree ys → IsFree (cond b xs ys)
if_free true xs ys h g = h
if_free false xs ys h g = g

-- ---- numbers

glyph_at : (b : Bool) (d : ℕ) → IsOther (cond b (48 + d) (87 + d))
glyph_at true d = λ e. omega arith
glyph_at false d = λ e. omega arith

glyph_free : (d : ℕ) → IsOther (digit_glyph false d)
glyph_free d = glyph_at (nat_lt d 10) d

onto_free : (k n : ℕ) (acc : List ℕ) → IsFree acc → IsFree (digits_onto k 10 false n acc)
onto_free zero n acc h = h
onto_free (suc k) n acc h =
    if_free (n / 10 == 0) _ _ (glyph_free (n % 10), h) (onto_free k (n / 10) (digit_glyph false (n % 10) ∷ acc) (glyph_free (n % 10), h))

decimal_free : (n : ℕ) → IsFree (decimal n)
unfolding digits
decimal_free n = onto_free 64 n [] tt

signed_free : (z : ℤ) → IsFree (signed_decimal z)
signed_free (pos n) = decimal_free n
signed_free (negsuc n) = (λ e. omega arith, decimal_free (suc n))

number_free : (n : Num) → IsFree (number_text n)
number_free (unsigned n) = decimal_free n
number_free (negative z) = signed_free z
number_free (float x) = tt

-- ---- strings

digit_char_free : (d : ℕ) → IsOther (digit_char d)
digit_char_free d = glyph_at (nat_lt d 10) d

letter_free : (x : ℕ) → IsOther (escape_letter x)
letter_free x = λ e. grind (arith, nat_tests)

byte_at : (b : Bool) (x : ℕ) → nat_lt x 32 ≡ b → IsFree (cond b (92 ∷ 117 ∷ 48 ∷ 48 ∷ digit_char (x / 16) ∷ digit_char (x % 16) ∷ []) (x ∷ []))
byte_at true x e = (λ e. omega arith, (λ e. omega arith, (λ e. omega arith, (λ e. omega arith, (digit_char_free (x / 16), (digit_char_free (x % 16), tt))))))
byte_at false x e = let large : 32 ≤ x = ltb-false x 32 e in (λ e. omega arith, tt)

byte_free : (x : ℕ) → IsFree (escape_byte x)
unfolding escape_byte
byte_free x = if_free (nat_lt 0 (escape_letter x)) _ _ (λ e. omega arith, (letter_free x, tt)) (byte_at (nat_lt x 32) x refl)

escape_free : (s : List ℕ) → IsFree (escape s)
escape_free [] = tt
escape_free (x ∷ s) = append_free (escape_byte x) (escape s) (byte_free x) (escape_free s)

quoted_free : (s : List ℕ) → IsFree (quoted s)
quoted_free s = (λ e. omega arith, append_free (escape s) (34 ∷ []) (escape_free s) (λ e. omega arith, tt))

-- ---- values

truth_free : (b : Bool) → IsFree (token_text (token.boolean b))
truth_free true = (λ e. omega arith, (λ e. omega arith, (λ e. omega arith, (λ e. omega arith, tt))))
truth_free false = (λ e. omega arith, (λ e. omega arith, (λ e. omega arith, (λ e. omega arith, (λ e. omega arith, tt)))))

comma_free : (b : Bool) → IsFree (comma_if b)
comma_free true = (λ e. omega arith, tt)
comma_free false = tt

mutual
  value_free : (d : Data) → IsFree (compact_text d)
  value_free null = (λ e. omega arith, (λ e. omega arith, (λ e. omega arith, (λ e. omega arith, tt))))
  value_free (boolean b) = truth_free b
  value_free (number n) = number_free n
  value_free (string s) = quoted_free s
  value_free (array ds) = (λ e. omega arith, items_free false ds)
  value_free (object ms) = (λ e. omega arith, members_free false ms)

  items_free : (later : Bool) (ds : Items) → IsFree (items_text later ds)
  items_free later no_items = (λ e. omega arith, tt)
  items_free later (item d ds) = append_free (comma_if later) _ (comma_free later) (append_free (compact_text d) _ (value_free d) (items_free true ds))

  members_free : (later : Bool) (ms : Members) → IsFree (members_text later ms)
  members_free later no_members = (λ e. omega arith, tt)
  members_free later (member k d ms) =
      append_free (comma_if later) _ (comma_free later)
      (append_free (quoted k) _ (quoted_free k) (λ e. omega arith, append_free (compact_text d) _ (value_free d) (members_free true ms)))

pub one_line : (d : Data) → All IsOther (compact_text d)
one_line d = All-from_recursion IsOther (compact_text d) (value_free d)
