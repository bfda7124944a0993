-- Reading from left to right: white space, numbers, words and strings.
use Rattle.std.specs.Option.{option_or}
use Rattle.std.specs.Prelude.{ℕ, zero, suc, ◌+◌, List, [], ◌∷◌, Bool, false, not, ◌&&◌, ◌||◌, ◌==◌, Option, Some, None, option_map, if◌then◌else◌, take, drop, length, codes, nat_eq}
use Rattle.std.specs.Char.{is_ascii_digit}
use Rattle.std.specs.List.{starts_with, list_all}
use Rattle.std.specs.Str.{is_utf8}
use Rattle.cfg_base.specs.Text.{characters}
use Rattle.cfg_json.specs.Ascii.{quotation_mark, plus_sign, hyphen_minus, full_stop, digit_zero, capital_e, backslash, small_e, small_u}
use Rattle.cfg_json.specs.Reads.{◌>>=◌}
use Rattle.cfg_json.specs.Characters.{is_plain, short_escape, code_unit, is_high, is_low, pair_char}
use Rattle.cfg_json.specs.WhiteSpace.{is_json_white_space}

-- what follows the white space at the front
unfoldable pub after_white_space : List ℕ → List ℕ
after_white_space [] = []
after_white_space (x ∷ t) = if is_json_white_space x then after_white_space t else x ∷ t

-- what follows the byte c
unfoldable pub mark_at : ℕ → List ℕ → Option (List ℕ)
mark_at c [] = None
mark_at c (x ∷ t) = if x == c then Some t else None

-- what follows the digits at the front
unfoldable pub after_digits : List ℕ → List ℕ
after_digits [] = []
after_digits (x ∷ t) = if is_ascii_digit x then after_digits t else x ∷ t

-- the same, where there is a digit
unfoldable pub digits_at : List ℕ → Option (List ℕ)
digits_at [] = None
digits_at (x ∷ t) = if is_ascii_digit x then Some (after_digits t) else None

unfoldable pub after_minus : List ℕ → List ℕ
after_minus [] = []
after_minus (x ∷ t) = if x == hyphen_minus then t else x ∷ t

unfoldable pub after_sign : List ℕ → List ℕ
after_sign [] = []
after_sign (x ∷ t) = if (x == plus_sign) || (x == hyphen_minus) then t else x ∷ t

unfoldable pub whole_at : List ℕ → Option (List ℕ)
whole_at [] = None
whole_at (x ∷ t) = if x == digit_zero then Some t else digits_at (x ∷ t)

unfoldable pub fraction_at : List ℕ → Option (List ℕ)
fraction_at [] = Some []
fraction_at (x ∷ t) = if x == full_stop then digits_at t else Some (x ∷ t)

unfoldable pub exponent_at : List ℕ → Option (List ℕ)
exponent_at [] = Some []
exponent_at (x ∷ t) = if (x == small_e) || (x == capital_e) then digits_at (after_sign t) else Some (x ∷ t)

-- what follows the number at the front
unfoldable pub number_at : List ℕ → Option (List ℕ)
number_at t = whole_at (after_minus t) >>= λ r. fraction_at r >>= λ r. exponent_at r

unfoldable pub after_front : List ℕ → List ℕ → Option (List ℕ)
after_front front t = if starts_with nat_eq t front then Some (drop (length front) t) else None

-- what follows the word at the front
unfoldable pub word_at : List ℕ → Option (List ℕ)
word_at t = option_or (after_front (codes "true") t) (option_or (after_front (codes "false") t) (after_front (codes "null") t))

-- Strings. The characters are those between the quotation marks.

unfoldable pub hex_at : List ℕ → Option ℕ
hex_at [] = None
hex_at (a ∷ []) = None
hex_at (a ∷ b ∷ []) = None
hex_at (a ∷ b ∷ c ∷ []) = None
hex_at (a ∷ b ∷ c ∷ d ∷ t) = code_unit a b c d

-- the low surrogate that has to follow a high one
unfoldable pub low_at : List ℕ → Option ℕ
low_at [] = None
low_at (x ∷ []) = None
low_at (x ∷ y ∷ t) = if x == backslash && y == small_u then (hex_at t >>= λ l. if is_low l then Some l else None) else None

-- the character that is spelled at the front, behind `\u`, and how many characters spell it beside the first
unfoldable pub unit_at : List ℕ → Option (ℕ × ℕ)
unit_at t = hex_at t >>= λ u. if is_high u then (low_at (drop 4 t) >>= λ l. Some (pair_char u l, 11)) else (if is_low u then None else Some (u, 5))

unfoldable pub escape_at : List ℕ → Option (ℕ × ℕ)
escape_at [] = None
escape_at (x ∷ t) = if x == small_u then unit_at t else short_escape x >>= λ c. Some (c, 1)

unfoldable pub piece_at : List ℕ → Option (ℕ × ℕ)
piece_at [] = None
piece_at (x ∷ t) = if x == backslash then escape_at t else (if is_plain x then Some (x, 0) else None)

-- The characters that these stand for. The first `skip` ones were read with the piece before.
unfoldable pub content_of : ℕ → List ℕ → Option (List ℕ)
content_of skip [] = Some []
content_of (suc k) (x ∷ t) = content_of k t
content_of zero (x ∷ t) = piece_at (x ∷ t) >>= λ p. content_of p.1 t >>= λ s. Some (p.0 ∷ s)

-- the place of the quotation mark that ends a string, whose first byte may stand behind a backslash
unfoldable pub end_of : Bool → List ℕ → Option ℕ
end_of escaped [] = None
end_of escaped (x ∷ t) = if not escaped && x == quotation_mark then Some 0 else option_map (λ n. n + 1) (end_of (not escaped && x == backslash) t)

-- the same place in a string that stands for itself: all before it is plain
unfoldable pub plain_end : List ℕ → Option ℕ
plain_end t = end_of false t >>= λ n. if list_all is_plain (take n t) then Some n else None

-- the bytes, if they are UTF-8
unfoldable pub utf8_of : List ℕ → Option (List ℕ)
utf8_of bytes = if is_utf8 bytes then Some bytes else None

-- what bytes between quotation marks stand for
unfoldable pub text_of : List ℕ → Option (List ℕ)
text_of bytes = utf8_of bytes >>= λ t. content_of 0 (characters t)

-- the characters of the string whose first quotation mark was read, and what follows it
unfoldable pub string_at : List ℕ → Option (List ℕ × List ℕ)
string_at t = end_of false t >>= λ n. text_of (take n t) >>= λ s. Some (s, drop (n + 1) t)
