-- The test for UTF-8, and what passes it.
use Rattle.std.proofs.Common.{◌≡◌, ℕ, List, Some, None, refl}
use Rattle.std.specs.Str.{IsUtf8, is_utf8}
use Rattle.std.proofs.lemmas.Bool.{false_from_ne_true}
use Rattle.std.proofs.lemmas.Str.{is_utf8-from_IsUtf8, IsUtf8-from_is_utf8}
use Rattle.cfg_json.specs.Reading.{utf8_of}

pub utf8_of-valid : (bytes : List ℕ) → IsUtf8 bytes → utf8_of bytes ≡ Some bytes
unfolding utf8_of
utf8_of-valid bytes u = let e = is_utf8-from_IsUtf8 bytes u in rw e refl

pub utf8_of-invalid : (bytes : List ℕ) → (IsUtf8 bytes → ⊥) → utf8_of bytes ≡ None
unfolding utf8_of
utf8_of-invalid bytes n = let e = false_from_ne_true (is_utf8 bytes) (λ t. n (IsUtf8-from_is_utf8 bytes t)) in rw e refl
