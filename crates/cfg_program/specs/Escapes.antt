-- The bytes of texts as the program writes them.
use Rattle.std.specs.Prelude.{ℕ, List, [], ◌∷◌, Bool, ◌||◌, ◌&&◌, ◌==◌, nat_lt, if◌then◌else◌}
use Rattle.std.specs.List.{flat_map}
use Rattle.std.specs.Char.{encode_utf8}
use Rattle.percent_encoding.specs.Percent.{percent_encode_byte}
use Rattle.cfg_base.specs.Text.{characters}

-- a control character: below 32, and from 127 to 159
abbrev pub is_control : ℕ → Bool
is_control c = nat_lt c 32 || nat_lt 126 c && nat_lt c 160

-- a character that turns the direction of a text, or ends such a part: U+202A to U+202E, U+2066 to U+2069
abbrev pub turns_direction : ℕ → Bool
turns_direction c = nat_lt 8233 c && nat_lt c 8239 || nat_lt 8293 c && nat_lt c 8298

-- a character that a terminal is not to get, or `%`
abbrev pub escaped_in_line : ℕ → Bool
escaped_in_line c = is_control c || (turns_direction c || c == 37)

-- a character of a text that has the rest of a line: in UTF-8 as it stands, or each of its bytes as `%` and two digits
abbrev pub line_character : ℕ → List ℕ
line_character c = if escaped_in_line c then flat_map percent_encode_byte (encode_utf8 c) else encode_utf8 c

-- a text that has the rest of a line
abbrev pub line_text : List ℕ → List ℕ
line_text text = flat_map line_character (characters text)

-- outside the characters of ASCII that are seen, 33 to 126, or `%`
abbrev pub escaped_in_word : ℕ → Bool
escaped_in_word b = nat_lt b 33 || nat_lt 126 b || b == 37

-- a byte of a text between blanks: as it stands, or `%` and two digits
abbrev pub word_byte : ℕ → List ℕ
word_byte b = if escaped_in_word b then percent_encode_byte b else b ∷ []
