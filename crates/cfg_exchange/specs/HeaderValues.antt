-- What may stand in the value of a header (RFC 9110, section 5.5).
use Rattle.std.specs.Prelude.{ℕ, List, Bool, ◌||◌, ◌&&◌, nat_le, nat_eq}
use Rattle.std.specs.List.{list_all}

-- a tab, or any byte that is no control character
abbrev pub is_header_byte : ℕ → Bool
is_header_byte b = nat_eq b 9 || ((nat_le 32 b && nat_le b 126) || nat_le 128 b)

-- bytes of a header's value alone
abbrev pub is_header_value : List ℕ → Bool
is_header_value bytes = list_all is_header_byte bytes
