-- How a script says that calls are sent.
use Rattle.std.specs.Prelude.{ℕ, Bool, nat_le, codes, Option, Some, None, if◌then◌else◌}
use Rattle.serde_json.specs.Data.{Data}
use Rattle.cfg_types.specs.declared.settings.Timeouts.{Timeouts}
use Rattle.cfg_script.specs.declared.service.ServiceConfig.{ServiceConfig}
use Rattle.cfg_script.specs.declared.fault.Wanted.TheVariants as wanted
use Rattle.cfg_script.specs.Json.{◌>>=◌}
use Rattle.cfg_script.specs.Forms.{Form, whole_form, standing_for}
use Rattle.cfg_script.specs.Objects.{MemberForm, ObjectForm, member_or, optional_member, ◌&◌, nothing_more, object_of}
use Rattle.cfg_script.specs.Scalars.{boolean, unsigned_of, unsigned_integer}

-- a whole number of attempts, of 32 bits without sign
unfoldable pub attempt_count_of : Data → Option ℕ
attempt_count_of d = unsigned_of d >>= λ n. if nat_le n 4294967295 then Some n else None

abbrev pub attempt_count : Form ℕ
attempt_count = whole_form wanted.Attempts attempt_count_of

abbrev pub TimeoutRows : Type 0
TimeoutRows = Option ℕ × (Option ℕ × (Option ℕ × (Option ℕ × Unit {0})))

-- limits of time, in milliseconds
abbrev pub timeout_members : ObjectForm TimeoutRows
timeout_members =
    optional_member (codes "connect_ms") unsigned_integer
    & optional_member (codes "read_ms") unsigned_integer
    & optional_member (codes "operation_ms") unsigned_integer
    & optional_member (codes "attempt_ms") unsigned_integer
    & nothing_more

-- each limit in its place
abbrev pub timeouts_in : TimeoutRows → Timeouts
timeouts_in rows = record { connect_ms = rows.0; read_ms = rows.1.0; operation_ms = rows.1.1.0; attempt_ms = rows.1.1.1.0 }

abbrev pub timeouts : Form Timeouts
timeouts = standing_for timeouts_in (object_of wanted.Timeouts timeout_members)

abbrev pub ServiceRows : Type 0
ServiceRows = Option Bool × (Option Bool × (Option ℕ × (Option Timeouts × Unit {0})))

-- how calls are sent
abbrev pub service_members : ObjectForm ServiceRows
service_members =
    optional_member (codes "use_fips") boolean
    & optional_member (codes "use_dual_stack") boolean
    & optional_member (codes "max_attempts") attempt_count
    & optional_member (codes "timeouts") timeouts
    & nothing_more

-- each setting in its place
abbrev pub service_in : ServiceRows → ServiceConfig
service_in rows = record { use_fips = rows.0; use_dual_stack = rows.1.0; max_attempts = rows.1.1.0; timeouts = rows.1.1.1.0 }

abbrev pub service : Form ServiceConfig
service = standing_for service_in (object_of wanted.Service service_members)

-- nothing is said of how calls are sent
abbrev pub nothing_set : ServiceConfig
nothing_set = record { use_fips = None; use_dual_stack = None; max_attempts = None; timeouts = None }

-- how calls are sent, of which nothing is said where the member is missing
abbrev pub service_member : MemberForm ServiceConfig
service_member = member_or (codes "service") nothing_set service
