-- White space (RFC 8259, section 2).
use Rattle.std.specs.Prelude.{ℕ, List, [], ◌∷◌, Bool, ◌||◌, ◌==◌, IsTrue}
use Rattle.cfg_json.specs.Ascii.{tab, line_feed, carriage_return, space}

-- space, tab, line feed or carriage return
abbrev pub is_json_white_space : ℕ → Bool
is_json_white_space b = (b == space) || (b == tab) || (b == line_feed) || (b == carriage_return)

abbrev pub IsWhiteSpace : List ℕ → Type 0
IsWhiteSpace [] = Unit {0}
IsWhiteSpace (b ∷ bs) = IsTrue (is_json_white_space b) × IsWhiteSpace bs
