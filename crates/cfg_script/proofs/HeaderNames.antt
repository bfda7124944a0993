-- A header name passes its test, and nothing else does.
use Rattle.std.proofs.Common.{◌≡◌, ℕ, List, length, ◌<◌, ◌≤◌, Bool, true, false, refl, arith}
use Rattle.std.specs.Prelude.{nat_lt, nat_le, ◌&&◌}
use Rattle.std.proofs.lemmas.Bool.Decides.{nat_tests}
use Rattle.std.proofs.lemmas.List.Sums.{list_all-from_AllPass}
use Rattle.http_header.specs.Token.{token_test, is_token_byte}
use Rattle.http_header.specs.FieldName.{IsFieldName, is_field_name}
use Rattle.http_header.proofs.TokenLemmas.{IsFieldName-from_test}

all_three : (a b c : Bool) → a ≡ true → b ≡ true → c ≡ true → ((a && b) && c) ≡ true
all_three a b c e f g = rw (e, f, g) refl

above : (n : ℕ) → 0 < n → nat_lt 0 n ≡ true
above n h = grind (arith, nat_tests)

within : (n : ℕ) → n ≤ 65535 → nat_le n 65535 ≡ true
within n h = grind (arith, nat_tests)

to_test : (bytes : List ℕ) → IsFieldName bytes → is_field_name bytes ≡ true
unfolding is_token_byte
to_test bytes h = all_three _ _ _ (above (length bytes) h.0.0) (list_all-from_AllPass token_test bytes h.0.1) (within (length bytes) h.1)

by_test : (bytes : List ℕ) (b : Bool) → is_field_name bytes ≡ b → ((IsFieldName bytes → ⊥) → ⊥) → true ≡ b
by_test bytes true e h = refl
by_test bytes false e h = absurd (h (λ is. let yes = to_test bytes is in cc))

pub named : (bytes : List ℕ) → ((IsFieldName bytes → ⊥) → ⊥) → true ≡ is_field_name bytes
named bytes h = by_test bytes (is_field_name bytes) refl h

no_test : (bytes : List ℕ) (b : Bool) → is_field_name bytes ≡ b → (IsFieldName bytes → ⊥) → false ≡ b
no_test bytes true e h = absurd (h (IsFieldName-from_test bytes e))
no_test bytes false e h = refl

pub not_named : (bytes : List ℕ) → (IsFieldName bytes → ⊥) → false ≡ is_field_name bytes
not_named bytes h = no_test bytes (is_field_name bytes) refl h
