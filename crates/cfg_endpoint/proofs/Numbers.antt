-- Numbers that are written are read back.
use Rattle.std.proofs.Common.{◌≡◌, ◌≢◌, ℕ, ◌<◌, ◌≤◌, ◌^◌, List, [], ◌∷◌, get_or, drop, false, true, Some, sym, ap, ◌∙◌, subst, arith}
use Rattle.std.specs.Fmt.{decimal}
use Rattle.std.specs.Char.{digit_value}
use Rattle.std.specs.Str.{IsUtf8}
use Rattle.std.specs.Str.Parse.{AllDigits, IsNumeral, digits_value, without_leading_plus}
use Rattle.std.proofs.lemmas.Fmt.{decimal_is_IsNumeral, IsAscii-decimal}
use Rattle.std.proofs.lemmas.Str.{IsUtf8-from_ascii, chars-IsAscii}
use Rattle.std.proofs.lemmas.Str.Parse.{without_leading_plus_none}
use Rattle.cfg_base.specs.Text.{characters}
use Rattle.cfg_base.proofs.TextLemmas.{characters-chars}
use Rattle.cfg_world.specs.Faults.{full_count}
use Rattle.cfg_exchange.specs.Lifetimes.{number}
use Rattle.cfg_exchange.proofs.Numerals.{number_is}
use Rattle.cfg_endpoint.specs.Endpoints.{token_text}

small : (n : ℕ) → n ≤ full_count → n < 2 ^ 64
small n h = omega (arith, h)

no_sign : (ds : List ℕ) → AllDigits 10 ds → get_or ds 0 0 ≢ 43
no_sign [] h = λ e. omega (arith, e)
no_sign (d ∷ ds) h = λ e. let is : digit_value 43 < 10 = subst (λ x. digit_value x < 10) e h.0 in omega (arith, is)

no_plus : (n : ℕ) → n < 2 ^ 64 → without_leading_plus (decimal n) ≡ decimal n
no_plus n h = without_leading_plus_none (decimal n) (no_sign (decimal n) (decimal_is_IsNumeral n h).0.1)

pub number_written : (n : ℕ) → n ≤ full_count → number (decimal n) ≡ Some n
number_written n le =
    let h = small n le in
    let d = decimal_is_IsNumeral n h in
    let same = no_plus n h in
    sym (number_is (decimal n) n (subst (λ t. IsNumeral 10 t × (digits_value 10 t < 2 ^ 64)) (sym same) (d.0, subst (λ v. v < 2 ^ 64) (sym d.1) h)) (sym (ap (digits_value 10) same ∙ d.1)))

pub written_utf8 : (text : List ℕ) (n : ℕ) → n ≤ full_count → text ≡ decimal n → IsUtf8 text
written_utf8 text n le is = subst IsUtf8 (sym is) (IsUtf8-from_ascii (decimal n) (IsAscii-decimal n (small n le)))

-- a session token has one number
pub one_number : (n m : ℕ) → n ≤ full_count → m ≤ full_count → token_text n ≡ token_text m → n ≡ m
one_number n m le me same =
    let digits : decimal n ≡ decimal m = ap (drop 6) same in
    sym (decimal_is_IsNumeral n (small n le)).1 ∙ ap (digits_value 10) digits ∙ (decimal_is_IsNumeral m (small m me)).1

-- the characters of a number's text
pub decimal_text : (n : ℕ) → n < 2 ^ 64 → characters (decimal n) ≡ decimal n
decimal_text n h = characters-chars (decimal n) ∙ chars-IsAscii (decimal n) (IsAscii-decimal n h)

pub within : (n given : ℕ) → given < 2 ^ 64 → n ≤ given → n ≤ full_count
within n given h le = omega (arith, h, le)

pub no_truth : false ≡ true → ⊥
no_truth h = absurd cc
