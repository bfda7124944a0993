-- The characters of a JSON string (RFC 8259, section 7).
use Rattle.std.specs.Prelude.{ℕ, ◌+◌, ◌-◌, ◌*◌, Bool, not, ◌&&◌, ◌==◌, nat_lt, nat_le, Option, Some, None, if◌then◌else◌}
use Rattle.std.specs.Char.{digit_value}
use Rattle.cfg_json.specs.Ascii.{backspace, tab, line_feed, form_feed, carriage_return, space, quotation_mark, solidus, backslash, small_b, small_f, small_n, small_r, small_t}
use Rattle.cfg_json.specs.Reads.{◌>>=◌}

-- may stand for itself: no control character, no quotation mark, no backslash
abbrev pub is_plain : ℕ → Bool
is_plain c = nat_le space c && (not (c == quotation_mark) && not (c == backslash))

-- what a backslash and the character x stand for, other than `\u`
unfoldable pub short_escape : ℕ → Option ℕ
short_escape x =
    if x == quotation_mark then Some quotation_mark else (if x == backslash then Some backslash else (if x == solidus then Some solidus else (if x == small_b then Some backspace else (if x == small_f then Some form_feed else
    (if x == small_n then Some line_feed else (if x == small_r then Some carriage_return else (if x == small_t then Some tab else None)))))))

abbrev pub hex_digit : ℕ → Option ℕ
hex_digit c = if nat_lt (digit_value c) 16 then Some (digit_value c) else None

-- the number that four hexadecimal digits spell
unfoldable pub code_unit : ℕ → ℕ → ℕ → ℕ → Option ℕ
code_unit a b c d = hex_digit a >>= λ a. hex_digit b >>= λ b. hex_digit c >>= λ c. hex_digit d >>= λ d. Some (a * 4096 + b * 256 + c * 16 + d)

-- the first half of a surrogate pair
abbrev pub is_high : ℕ → Bool
is_high u = nat_le 0xd800 u && nat_lt u 0xdc00

-- the second half
abbrev pub is_low : ℕ → Bool
is_low u = nat_le 0xdc00 u && nat_lt u 0xe000

-- the character of a surrogate pair
abbrev pub pair_char : ℕ → ℕ → ℕ
pair_char high low = 0x10000 + (high - 0xd800) * 1024 + (low - 0xdc00)
