-- The test that `json_value` makes.
use Rattle.std.proofs.Common.{◌≡◌, ℕ, List, Some, None, refl}
use Rattle.std.specs.Prelude.{Bool, true, false}
use Rattle.std.specs.Str.{IsUtf8, is_utf8}
use Rattle.std.proofs.lemmas.Str.{IsUtf8-from_is_utf8, is_utf8-from_IsUtf8}
use Rattle.serde_json.specs.Read.{read}
use Rattle.serde_json.specs.Data.{Data}
use Rattle.cfg_script.specs.Reading.{json_value}

pub value_is : (bytes : List ℕ) (d : Data) → IsUtf8 bytes → read bytes ≡ Some d → json_value bytes ≡ Some d
unfolding json_value
value_is bytes d u e = rw (is_utf8-from_IsUtf8 bytes u) e

no_value : (b : Bool) (bytes : List ℕ) → is_utf8 bytes ≡ b → (IsUtf8 bytes → read bytes ≡ None) → json_value bytes ≡ None
unfolding json_value
no_value true bytes t h = rw t (h (IsUtf8-from_is_utf8 bytes t))
no_value false bytes t h = rw t refl

pub none_is : (bytes : List ℕ) → (IsUtf8 bytes → read bytes ≡ None) → json_value bytes ≡ None
none_is bytes h = no_value (is_utf8 bytes) bytes refl h
