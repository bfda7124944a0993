-- The version of a process's document, as a function of its members.
use Rattle.std.proofs.Common.{◌≡◌, ℕ, ◌^◌, List, Bool, true, false, Option, Some, None, refl, ap, lt-ltb, ℤ, pos, negsuc}
use Rattle.std.specs.Prelude.{◌&&◌, option_map, if◌then◌else◌, FitsSigned}
use Rattle.std.specs.Int.{w32}
use Rattle.std.specs.Str.{encode_utf8_all}
use Rattle.std.specs.Str.Parse.{without_leading_sign, signed_digits_value}
use Rattle.cfg_json.specs.Documents.{IsWholeNumber, ReadsWhole, ReadsVersion}
use Rattle.cfg_exchange.specs.Lifetimes.{are_digits}
use Rattle.cfg_exchange.proofs.Numerals.{less, digits_are, are_numeral}
use Rattle.cfg_providers.specs.ProcessDocuments.{is_of_32_bits, whole_number, version_number}

fits_is : (n : ℤ) → FitsSigned w32 n → is_of_32_bits n ≡ true
fits_is (pos n) h = lt-ltb n (2 ^ 31) h.sfits
fits_is (negsuc n) h = lt-ltb n (2 ^ 31) h.sfits

is_fits : (n : ℤ) → is_of_32_bits n ≡ true → FitsSigned w32 n
is_fits (pos n) h = record { sfits = less n (2 ^ 31) h }
is_fits (negsuc n) h = record { sfits = less n (2 ^ 31) h }

number_is : (text : List ℕ) (n : ℤ) → IsWholeNumber text n → Some n ≡ whole_number text
number_is text n h = rw (digits_are (without_leading_sign text) h.0, fits_is (signed_digits_value 10 text) (rw h.2 at h.1)) (ap Some h.2)

no_number : (text : List ℕ) → ((n : ℤ) → IsWholeNumber text n → ⊥) → None ≡ whole_number text
no_number text h = by_digits (are_digits ds) refl where
  ds : List ℕ
  ds = without_leading_sign text

  z : ℤ
  z = signed_digits_value 10 text

  by_bound : (b : Bool) → is_of_32_bits z ≡ b → are_digits ds ≡ true → None ≡ (if b then Some z else None)
  by_bound true e d = absurd (h z (are_numeral ds d, is_fits z e, refl))
  by_bound false e d = refl

  by_digits : (b : Bool) → are_digits ds ≡ b → None ≡ (if b && is_of_32_bits z then Some z else None)
  by_digits true e = by_bound (is_of_32_bits z) refl e
  by_digits false e = refl

whole_is : (text : List ℕ) (o : Option ℤ) → ReadsWhole text o → o ≡ whole_number text
whole_is text (Some n) h = number_is text n h
whole_is text None h = no_number text h

is_whole : (text : List ℕ) → ReadsWhole text (whole_number text)
is_whole text = by_digits (are_digits ds) refl where
  ds : List ℕ
  ds = without_leading_sign text

  z : ℤ
  z = signed_digits_value 10 text

  none_of : (n : ℤ) → (are_digits ds && is_of_32_bits z) ≡ false → IsWholeNumber text n → ⊥
  none_of n e w = let d = digits_are ds w.0 in let f = fits_is z (rw w.2 at w.1) in let g : (are_digits ds && is_of_32_bits z) ≡ true = rw (d, f) refl in absurd cc

  by_bound : (b : Bool) → is_of_32_bits z ≡ b → are_digits ds ≡ true → ReadsWhole text (if b then Some z else None)
  by_bound true e d = (are_numeral ds d, is_fits z e, refl)
  by_bound false e d = λ n w. none_of n (rw (d, e) refl) w

  by_digits : (b : Bool) → are_digits ds ≡ b → ReadsWhole text (if b && is_of_32_bits z then Some z else None)
  by_digits true e = by_bound (is_of_32_bits z) refl e
  by_digits false e = λ n w. none_of n (rw e refl) w

-- there is one version that a document's number is read as
pub version_is : (number : Option (List ℕ)) (version : Option (Option ℤ)) → ReadsVersion number version → version ≡ option_map version_number number
version_is None None h = refl
version_is None (Some o) h = absurd h
version_is (Some t) None h = absurd h
version_is (Some t) (Some o) h = ap Some (whole_is (encode_utf8_all t) o h)

pub is_version : (number : Option (List ℕ)) → ReadsVersion number (option_map version_number number)
is_version None = tt
is_version (Some t) = is_whole (encode_utf8_all t)
