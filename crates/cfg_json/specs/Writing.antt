-- The text that is written for an object.
use Rattle.std.specs.Prelude.{ℕ, ◌/◌, ◌%◌, List, [], ◌∷◌, ◌++◌, Option, Some, None, ◌==◌, nat_lt, if◌then◌else◌}
use Rattle.std.specs.List.{flat_map}
use Rattle.std.specs.Char.{digit_char}
use Rattle.cfg_json.specs.Ascii.{backspace, tab, line_feed, form_feed, carriage_return, space, quotation_mark, comma, digit_zero, colon, backslash, small_b, small_f, small_n, small_r, small_t, small_u, left_curly_bracket, right_curly_bracket}

-- the letter that stands behind a backslash for the character
unfoldable pub escape_letter : ℕ → Option ℕ
escape_letter c =
    if c == quotation_mark then Some quotation_mark else (if c == backslash then Some backslash else (if c == backspace then Some small_b else (if c == form_feed then Some small_f else (if c == line_feed then Some small_n else
    (if c == carriage_return then Some small_r else (if c == tab then Some small_t else None))))))

abbrev pub escape_other : ℕ → List ℕ
escape_other c = if nat_lt c space then backslash ∷ small_u ∷ digit_zero ∷ digit_zero ∷ digit_char (c / 16) ∷ digit_char (c % 16) ∷ [] else c ∷ []

abbrev pub escape_by : Option ℕ → ℕ → List ℕ
escape_by None c = escape_other c
escape_by (Some letter) c = backslash ∷ letter ∷ []

-- a character as it is written in a string
unfoldable pub escape : ℕ → List ℕ
escape c = escape_by (escape_letter c) c

-- a string
unfoldable pub quoted : List ℕ → List ℕ
quoted text = quotation_mark ∷ (flat_map escape text ++ quotation_mark ∷ [])

-- the text of an object, from that of its members
unfoldable pub braced : List ℕ → List ℕ
braced members = left_curly_bracket ∷ (members ++ right_curly_bracket ∷ [])

-- what stands before one more member
abbrev pub before_next : List ℕ → List ℕ
before_next [] = []
before_next (x ∷ t) = x ∷ (t ++ comma ∷ [])

-- one more member, whose value has this text
unfoldable pub with_member : List ℕ → List ℕ → List ℕ → List ℕ
with_member members key value = before_next members ++ (quoted key ++ colon ∷ value)
