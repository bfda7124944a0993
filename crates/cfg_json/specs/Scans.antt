-- How far a string stands for itself, for the functions that look for its end.
use Rattle.std.specs.Prelude.{◌≡◌, ℕ, List, [], ◌∷◌, ◌++◌, Bool, false, ◌||◌, ◌==◌, nat_lt, Option, Some, None}
use Rattle.cfg_base.specs.Text.{characters}
use Rattle.cfg_json.specs.Ascii.{space, quotation_mark, backslash}
use Rattle.cfg_json.specs.Characters.{is_plain}
use Rattle.cfg_json.specs.Reads.{◌>>=◌}
use Rattle.cfg_json.specs.Reading.{content_of, string_at}
use Rattle.cfg_json.specs.ReadingValues.{key_at}

-- a quotation mark, a backslash or a control character
abbrev pub is_stop : ℕ → Bool
is_stop x = (x == quotation_mark) || (x == backslash) || nat_lt x space

-- nothing stands there, or a byte that does not stand for itself
abbrev pub StopsAt : List ℕ → Type 0
StopsAt [] = Unit {0}
StopsAt (x ∷ t) = is_plain x ≡ false

-- what a text stands for is this, and then what the rest stands for
abbrev pub ReadsOn : List ℕ → List ℕ → List ℕ → Type 0
ReadsOn text front rest = content_of 0 (characters text) ≡ (content_of 0 (characters rest) >>= λ s. Some (front ++ s))

-- a text stands for nothing
abbrev pub ReadsNothing : List ℕ → Type 0
ReadsNothing text = content_of 0 (characters text) ≡ None

-- what follows the string, if there is one
abbrev pub SkipsString : List ℕ → Option (List ℕ) → Type 0
SkipsString t None = string_at t ≡ None
SkipsString t (Some rest) = (s : List ℕ) × (string_at t ≡ Some (s, rest))

-- what follows the key and its colon, if there are these
abbrev pub SkipsKey : List ℕ → Option (List ℕ) → Type 0
SkipsKey t None = key_at t ≡ None
SkipsKey t (Some rest) = (s : List ℕ) × (key_at t ≡ Some (s, rest))
