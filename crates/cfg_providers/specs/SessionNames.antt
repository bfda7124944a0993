-- Names for the sessions of a role.
use Rattle.std.specs.Prelude.{ℕ, List, ◌++◌, ◌*ℤ◌, ◌+ℤ◌, ◌/◌, pos, Option, Some, None, codes}
use Rattle.std.specs.Fmt.{signed_decimal}
use Rattle.cfg_base.specs.Text.{characters}
use Rattle.cfg_base.specs.Moment.{Moment}
use Rattle.cfg_world.specs.Inquiry.{Inquiry, Done, after}
use Rattle.cfg_world.specs.Leaves.{clock}

-- a name for a session, with the milliseconds since the epoch
abbrev pub default_session_name : List ℕ → Moment → List ℕ
default_session_name base now = characters (base ++ codes "-" ++ signed_decimal (now.seconds *ℤ pos 1000 +ℤ pos (now.nanos / 1000000)))

-- the name of a session: the one that was given, else one made from a reading of the clock
unfoldable pub session_name : List ℕ → Option (List ℕ) → Inquiry (List ℕ)
session_name base (Some name) = Done name
session_name base None = after clock (λ now. Done (default_session_name base now))
