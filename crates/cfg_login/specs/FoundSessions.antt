-- Whether a sign-in session was looked at.
use Rattle.std.specs.Prelude.{◌≡◌, List, [], ◌∷◌, Bool, true, false}
use Rattle.cfg_kept.specs.Kinds.{Spot, LoginSection, Value, spot_of}

-- where the token of a sign-in session is kept
abbrev pub is_session_spot : Spot → Bool
is_session_spot LoginSection = true
is_session_spot _ = false

-- None of the values that were found is what is kept of a sign-in session.
abbrev pub ReadsNoSession : List Value → Type 0
ReadsNoSession [] = Unit {0}
ReadsNoSession (value ∷ found) = (is_session_spot (spot_of value) ≡ false) × ReadsNoSession found
