-- The value of bytes, by whether they are UTF-8.
use Rattle.std.proofs.Common.{◌≡◌, ℕ, List, Bool, true, false, codes, cond, IsUtf8, refl}
use Rattle.std.specs.Str.{is_utf8}
use Rattle.std.proofs.lemmas.Str.{IsUtf8-from_is_utf8, is_utf8-from_IsUtf8}
use Rattle.hex.specs.Hex.{encode_lower}
use Rattle.serde_json.specs.Data.{string, object, no_members, member}
use Rattle.cfg_lines.specs.Members.{content_value}

pub as_text : (bytes : List ℕ) → IsUtf8 bytes → content_value bytes ≡ string bytes
unfolding content_value
as_text bytes u = rw (is_utf8-from_IsUtf8 bytes u) refl

digits_at : (b : Bool) (bytes : List ℕ) → is_utf8 bytes ≡ b → (IsUtf8 bytes → ⊥) → cond b (string bytes) (object (member (codes "hex") (string (encode_lower bytes)) no_members)) ≡ object (member (codes "hex") (string (encode_lower bytes)) no_members)
digits_at true bytes e other = absurd (other (IsUtf8-from_is_utf8 bytes e))
digits_at false bytes e other = refl

pub as_digits : (bytes : List ℕ) → (IsUtf8 bytes → ⊥) → content_value bytes ≡ object (member (codes "hex") (string (encode_lower bytes)) no_members)
unfolding content_value
as_digits bytes other = digits_at (is_utf8 bytes) bytes refl other
