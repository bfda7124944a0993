-- Texts, booleans, whole numbers and contents.
use Rattle.std.specs.Prelude.{ℕ, ℤ, pos, negsuc, List, Bool, codes, ◌&&◌, Option, Some, None, option_and_then, nat_lt, nat_le, int_lt, if◌then◌else◌}
use Rattle.std.specs.Result.{result_ok}
use Rattle.serde_json.specs.Data.{Data}
use Rattle.serde_json.specs.Find.{as_str, as_bool, as_number, as_i64, as_u64}
use Rattle.hex.specs.Hex.{decode_of}
use Rattle.http_header.specs.FieldName.{is_field_name}
use Rattle.cfg_base.specs.Text.{characters}
use Rattle.cfg_script.specs.Json.{◌>>=◌}
use Rattle.cfg_script.specs.Forms.{Form, whole_form, standing_for, text_or, null_or}
use Rattle.cfg_script.specs.Objects.{required_member, ◌&◌, nothing_more, object_of}
use Rattle.cfg_script.specs.declared.fault.Wanted.TheVariants as wanted

-- a text, as its bytes
abbrev pub text : Form (List ℕ)
text = whole_form wanted.Text as_str

-- a text, as its characters
abbrev pub characters_of : Form (List ℕ)
characters_of = standing_for characters text

-- true or false
abbrev pub boolean : Form Bool
boolean = whole_form wanted.Boolean as_bool

-- a whole number of 64 bits with sign
abbrev pub signed_of : Data → Option ℤ
signed_of d = option_and_then as_i64 (as_number d)

abbrev pub signed_integer : Form ℤ
signed_integer = whole_form wanted.SignedInteger signed_of

-- a whole number of 64 bits without sign
abbrev pub unsigned_of : Data → Option ℕ
unsigned_of d = option_and_then as_u64 (as_number d)

abbrev pub unsigned_integer : Form ℕ
unsigned_integer = whole_form wanted.UnsignedInteger unsigned_of

-- a whole number of 32 bits with sign: the status of a command
unfoldable pub command_status_of : Data → Option ℤ
command_status_of d = signed_of d >>= λ z.
    if int_lt z (negsuc 2147483647) then None
    else (if int_lt (pos 2147483647) z then None else Some z)

abbrev pub command_status : Form ℤ
command_status = whole_form wanted.CommandStatus command_status_of

-- a whole number from 100 to 599: the status of a reply of HTTP
unfoldable pub http_status_of : Data → Option ℕ
http_status_of d = unsigned_of d >>= λ n. if nat_lt n 100 then None else (if nat_lt 599 n then None else Some n)

abbrev pub http_status : Form ℕ
http_status = whole_form wanted.HttpStatus http_status_of

-- a text that is the name of a header, as its characters
abbrev pub header_named : List ℕ → Option (List ℕ)
header_named name = if is_field_name name then Some (characters name) else None

unfoldable pub header_name_of : Data → Option (List ℕ)
header_name_of d = as_str d >>= header_named

abbrev pub header_name : Form (List ℕ)
header_name = whole_form wanted.HeaderName header_name_of

-- the bytes that hexadecimal digits stand for, two digits a byte
unfoldable pub hex_bytes_of : Data → Option (List ℕ)
hex_bytes_of d = as_str d >>= λ digits. result_ok (decode_of digits)

abbrev pub hex_bytes : Form (List ℕ)
hex_bytes = whole_form wanted.HexDigits hex_bytes_of

-- {"hex": digits}, and no other member
abbrev pub by_digits : Form (List ℕ)
by_digits = standing_for (λ p. p.0) (object_of wanted.Content (required_member (codes "hex") hex_bytes & nothing_more))

-- a content: a text, which stands for its bytes, or {"hex": digits}
abbrev pub content : Form (List ℕ)
content = text_or wanted.Content Some by_digits

-- a content, or null
abbrev pub content_or_null : Form (Option (List ℕ))
content_or_null = null_or None (standing_for Some content)

-- how many calls there may be: from 1 to 100
abbrev pub is_call_count : ℕ → Bool
is_call_count n = nat_le 1 n && nat_le n 100

-- a whole number of calls
unfoldable pub call_count_of : Data → Option ℕ
call_count_of d = unsigned_of d >>= λ n. if is_call_count n then Some n else None

abbrev pub call_count : Form ℕ
call_count = whole_form wanted.Calls call_count_of

-- the number of a call, of so many as there may be
abbrev pub call_number : Form ℕ
call_number = whole_form wanted.CallNumber call_count_of
