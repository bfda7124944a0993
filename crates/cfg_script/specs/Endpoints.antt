-- The object of a local endpoint: what the endpoint serves, and the calls that are made over it.
use Rattle.std.specs.Prelude.{ℕ, List, bytes_eq, codes, Option, Some, None, option_and_then, Result, Ok, Err, unwrap_or, if◌then◌else◌}
use Rattle.std.specs.Result.{result_ok, result_err}
use Rattle.serde_json.specs.Data.{Data}
use Rattle.serde_json.specs.Find.{as_str}
use Rattle.cfg_base.specs.Gives.{◌>>=◌}
use Rattle.cfg_base.specs.Moment.{Moment}
use Rattle.cfg_script.specs.declared.endpoint.ModeName.{ModeName}
use Rattle.cfg_script.specs.declared.endpoint.ModeName.TheVariants as name
use Rattle.cfg_script.specs.declared.endpoint.EndpointMode.{EndpointMode}
use Rattle.cfg_script.specs.declared.endpoint.EndpointMode.TheVariants as mode
use Rattle.cfg_script.specs.declared.endpoint.EndpointScript.{EndpointScript}
use Rattle.cfg_script.specs.declared.fault.Fault.{Fault}
use Rattle.cfg_script.specs.declared.fault.Wanted.TheVariants as wanted
use Rattle.cfg_script.specs.Faults.{member_fault}
use Rattle.cfg_script.specs.Forms.{Form, whole_form}
use Rattle.cfg_script.specs.Moments.{moment, clock_moment}
use Rattle.cfg_script.specs.Objects.{ObjectForm, list_member, optional_member, required_member, ◌&◌, nothing_more}
use Rattle.cfg_script.specs.Reading.{Reason, bytes_said}
use Rattle.cfg_script.specs.Scalars.{characters_of, call_count, call_number}

-- the mode of this name
abbrev pub mode_named : List ℕ → Option ModeName
mode_named text =
    if bytes_eq text (codes "container") then Some name.Container
    else (if bytes_eq text (codes "metadata") then Some name.Metadata
    else None)

unfoldable pub mode_of : Data → Option ModeName
mode_of d = option_and_then mode_named (as_str d)

abbrev pub mode_name : Form ModeName
mode_name = whole_form wanted.Mode mode_of

-- the instance metadata service has a role, and a container has none
abbrev pub with_role : ModeName → Option (List ℕ) → Result EndpointMode Fault
with_role name.Container None = Ok mode.Container
with_role name.Container (Some role) = Err (member_fault (codes "role") wanted.NoRole)
with_role name.Metadata None = Err (member_fault (codes "role") wanted.Present)
with_role name.Metadata (Some role) = Ok (mode.Metadata role)

abbrev pub EndpointRows : Type 0
EndpointRows = ModeName × (Option (List ℕ) × (List ℕ × (List ℕ × (List ℕ × (Moment × (List Moment × (Option ℕ × (Option ℕ × Unit {0}))))))))

-- all members of the object
abbrev pub endpoint_members : ObjectForm EndpointRows
endpoint_members =
    required_member (codes "mode") mode_name
    & optional_member (codes "role") characters_of
    & required_member (codes "id") characters_of
    & required_member (codes "secret") characters_of
    & required_member (codes "token") characters_of
    & required_member (codes "expires") moment
    & list_member (codes "clock") clock_moment
    & optional_member (codes "calls") call_count
    & optional_member (codes "forget_after") call_number
    & nothing_more

-- each member in its place, in this mode
abbrev pub in_mode : EndpointRows → EndpointMode → EndpointScript
in_mode rows mode = record {
  mode = mode;
  id = rows.1.1.0;
  secret = rows.1.1.1.0;
  token = rows.1.1.1.1.0;
  expires = rows.1.1.1.1.1.0;
  clock = rows.1.1.1.1.1.1.0;
  calls = unwrap_or rows.1.1.1.1.1.1.1.0 1;
  forget_after = rows.1.1.1.1.1.1.1.1.0;
}

-- each member in its place, where the mode has the role that it has to have
unfoldable pub endpoint_in : EndpointRows → Result EndpointScript Fault
endpoint_in rows = with_role rows.0 rows.1.0 >>= λ mode. Ok (in_mode rows mode)

-- the members of the object; that the role belongs to the mode comes behind them
abbrev pub endpoint : ObjectForm EndpointScript
endpoint = record { has = endpoint_members.has; read = λ ms. endpoint_members.read ms >>= λ rows. endpoint_in rows }

-- what the bytes say as the object of an endpoint, if they are one
unfoldable pub endpoint_of : List ℕ → Option EndpointScript
endpoint_of bytes = result_ok (bytes_said endpoint bytes)

-- why they are none, if they are none
unfoldable pub endpoint_fault_of : List ℕ → Option Reason
endpoint_fault_of bytes = result_err (bytes_said endpoint bytes)
