-- The test for UTF-8.
use Rattle.std.proofs.Common.{◌≡◌, ℕ, List, true, false}
use Rattle.std.specs.Str.{IsUtf8, is_utf8}
use Rattle.std.proofs.lemmas.Bool.{false_from_ne_true}
use Rattle.std.proofs.lemmas.Str.{is_utf8-from_IsUtf8, IsUtf8-from_is_utf8}

pub passes_utf8 : (bytes : List ℕ) → IsUtf8 bytes → true ≡ is_utf8 bytes
passes_utf8 bytes u = let e = is_utf8-from_IsUtf8 bytes u in cc

pub fails_utf8 : (bytes : List ℕ) → (IsUtf8 bytes → ⊥) → false ≡ is_utf8 bytes
fails_utf8 bytes n = let e = false_from_ne_true (is_utf8 bytes) (λ t. n (IsUtf8-from_is_utf8 bytes t)) in cc
