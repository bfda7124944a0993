-- Moments: whole seconds, or whole seconds and nanoseconds.
use Rattle.std.specs.Prelude.{ℤ, pos, Option, Some, None, nat_lt, int_lt, if◌then◌else◌}
use Rattle.serde_json.specs.Data.{Data}
use Rattle.cfg_base.specs.Moment.{Moment}
use Rattle.cfg_script.specs.Json.{◌>>=◌, pair_from}
use Rattle.cfg_script.specs.Forms.{Form, whole_form}
use Rattle.cfg_script.specs.Scalars.{signed_of, unsigned_of}
use Rattle.cfg_script.specs.declared.fault.Wanted.TheVariants as wanted

-- seconds and nanoseconds, of which there are less than a second
unfoldable pub pair_moment : Data × Data → Option Moment
pair_moment pair = do
  seconds ← signed_of pair.0
  nanos ← unsigned_of pair.1
  if nat_lt nanos 1000000000 then Some (record { seconds = seconds; nanos = nanos }) else None

-- whole seconds, or else a pair
abbrev pub moment_by : Option ℤ → Option (Data × Data) → Option Moment
moment_by (Some seconds) pair = Some (record { seconds = seconds; nanos = 0 })
moment_by None pair = pair >>= pair_moment

-- whole seconds or [seconds, nanoseconds], of any sign
unfoldable pub moment_from : Data → Option Moment
moment_from d = moment_by (signed_of d) (pair_from d)

abbrev pub moment : Form Moment
moment = whole_form wanted.Moment moment_from

-- a moment from 0 on
unfoldable pub clock_from : Data → Option Moment
clock_from d = moment_from d >>= λ m. if int_lt m.seconds (pos 0) then None else Some m

abbrev pub clock_moment : Form Moment
clock_moment = whole_form wanted.ClockMoment clock_from
