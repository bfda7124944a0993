-- How the replies of an endpoint read.
use Rattle.std.proofs.Common.{◌≡◌, ◌≤◌, ◌<◌, ◌+◌, ◌-◌, ◌^◌, ◌+ℤ◌, ℕ, pos, List, [], ◌∷◌, Bool, true, false, Some, None, refl, sym, ap, ◌∙◌, arith, le-leb}
use Rattle.std.specs.Prelude.{Ok, nat_eq, nat_le, int_lt, ◌&&◌, ◌||◌, if◌then◌else◌}
use Rattle.std.specs.Char.{digit_value}
use Rattle.std.specs.Fmt.{decimal}
use Rattle.std.specs.List.{list_all}
use Rattle.std.specs.Str.{encode_utf8_all, IsUtf8}
use Rattle.std.specs.Str.Parse.{AllDigits}
use Rattle.std.proofs.lemmas.Fmt.{decimal_is_IsNumeral, IsAscii-decimal}
use Rattle.std.proofs.lemmas.Str.{IsUtf8-from_ascii}
use Rattle.std.proofs.lemmas.Str.Parse.{digit_from_value}
use Rattle.std.proofs.lemmas.Int.{ints}
use Rattle.cfg_base.specs.Moment.{Moment}
use Rattle.cfg_base.proofs.TextLemmas.{encodes-chars}
use Rattle.cfg_world.specs.Faults.{full_count}
use Rattle.cfg_exchange.specs.declared.reading.Reading.TheVariants.{Fine}
use Rattle.cfg_exchange.specs.HeaderValues.{is_header_byte, is_header_value}
use Rattle.cfg_exchange.specs.Lifetimes.{number, number_in, lifetime}
use Rattle.cfg_exchange.specs.Readings.{token_reading, text_reading, fine_if}
use Rattle.cfg_exchange.proofs.Utf8.{passes_utf8}
use Rattle.cfg_imds.specs.Fetches.{reply_fault, text_fault}
use Rattle.cfg_imds.specs.Tokens.{Token, reply_token}
use Rattle.cfg_json.specs.Reading.{utf8_of}
use Rattle.cfg_endpoint.specs.Endpoints.{token_text, token_reply, with_body}
use Rattle.cfg_endpoint.specs.Calls.{IsEarly}
use Rattle.cfg_endpoint.proofs.Numbers.{decimal_text, number_written}

small : (n : ℕ) → n ≤ full_count → n < 2 ^ 64
small n h = omega (arith, h)

-- ---- what is written of a number

encoded_is : (n : ℕ) → n < 2 ^ 64 → encode_utf8_all (decimal n) ≡ decimal n
encoded_is n h = ap encode_utf8_all (sym (decimal_text n h)) ∙ encodes-chars (decimal n) (IsUtf8-from_ascii (decimal n) (IsAscii-decimal n h))

lifetime_read : (n : ℕ) → n ≤ full_count → number_in (decimal n) ≡ Some n
lifetime_read n h = ap number (encoded_is n (small n h)) ∙ number_written n h

or_true : (a b : Bool) → b ≡ true → (a || b) ≡ true
or_true true b h = refl
or_true false b h = h

either_true : (a b c : Bool) → a ≡ true → b ≡ true → (a && b || c) ≡ true
either_true true true c h k = refl
either_true true false c h k = absurd cc
either_true false b c h k = absurd cc

digit_in : (c : ℕ) → digit_value c < 10 → is_header_byte c ≡ true
digit_in c h = let r = digit_from_value c h in or_true (nat_eq c 9) (nat_le 32 c && nat_le c 126 || nat_le 128 c) (either_true (nat_le 32 c) (nat_le c 126) (nat_le 128 c) (le-leb 32 c (omega (arith, r.0))) (le-leb c 126 (omega (arith, r.1))))

digits_in : (ds : List ℕ) → AllDigits 10 ds → list_all is_header_byte ds ≡ true
digits_in [] h = refl
digits_in (d ∷ ds) h = rw (digit_in d h.0) (digits_in ds h.1)

text_in : (n : ℕ) → n ≤ full_count → is_header_value (token_text n) ≡ true
text_in n h = digits_in (decimal n) (decimal_is_IsNumeral n (small n h)).0.1

-- ---- a token

pub token_fine : (n : ℕ) → n ≤ full_count → token_reading (token_reply n 21600) ≡ Fine
unfolding token_reading lifetime lib.Utf8.encode
token_fine n h = rw (text_in n h, lifetime_read 21600 (omega arith)) refl

not_past : (now : Moment) → IsEarly now → int_lt (pos 9223372036854775807) (now.seconds +ℤ pos 21600) ≡ false
not_past now early = by_test (int_lt (pos 9223372036854775807) (now.seconds +ℤ pos 21600)) refl
  where
    by_test : (b : Bool) → int_lt (pos 9223372036854775807) (now.seconds +ℤ pos 21600) ≡ b → b ≡ false
    by_test false e = refl
    by_test true e = absurd (omega (arith, ints, e, early))

pub token_read : (n : ℕ) (now : Moment) → n ≤ full_count → IsEarly now → (t : Token) × (reply_token (token_reply n 21600) now ≡ Ok t) × (t.value ≡ token_text n)
unfolding reply_token lib.Utf8.encode
token_read n now h early = (
  record { value = token_text n; expiry = record { seconds = now.seconds +ℤ pos 21600; nanos = now.nanos } },
  rw (text_in n h, lifetime_read 21600 (omega arith), not_past now early) refl,
  refl,
)

-- ---- a text

pub body_fine : (body : List ℕ) → IsUtf8 body → text_reading (with_body body) ≡ Fine
unfolding text_reading
body_fine body u = ap fine_if (sym (passes_utf8 body u))

pub body_success : (body : List ℕ) → IsUtf8 body → reply_fault (with_body body) ≡ None
unfolding reply_fault utf8_of
body_success body u = ap (λ b. text_fault (if b then Some body else None)) (sym (passes_utf8 body u))
