-- What bytes say as a script, or why they are none.
use Rattle.std.specs.Prelude.{ℕ, List, Bool, ◌&&◌, ◌||◌, codes, Option, Some, None, Result, Ok, Err, is_some, if◌then◌else◌}
use Rattle.std.specs.Str.{is_utf8}
use Rattle.std.specs.Result.{result_ok, result_err}
use Rattle.serde_json.specs.Data.{Data, Members}
use Rattle.serde_json.specs.Find.{as_object, get_member}
use Rattle.serde_json.specs.Read.{read}
use Rattle.serde_json.specs.View.{view}
use Rattle.serde_json.specs.declared.value.Value.{Value}
use Rattle.cfg_base.specs.Gives.{◌>>=◌}
use Rattle.cfg_script.specs.Faults.{member_fault, wanting, unless}
use Rattle.cfg_script.specs.Objects.{ObjectForm, unknown_name}
use Rattle.cfg_script.specs.Script.{Plain, PlainShare, PlainAudit}
use Rattle.cfg_script.specs.Settings.{script}
use Rattle.cfg_script.specs.Shares.{share}
use Rattle.cfg_script.specs.Audits.{audit}
use Rattle.cfg_script.specs.declared.fault.Fault.{Fault}
use Rattle.cfg_script.specs.declared.fault.Position.{Position}
use Rattle.cfg_script.specs.declared.fault.ScriptFault.{ScriptFault}
use Rattle.cfg_script.specs.declared.fault.ScriptFault.TheVariants as fault
use Rattle.cfg_script.specs.declared.fault.Wanted.TheVariants as wanted

-- the sections are refused, and some are there
abbrev pub refused_beside : Members → Bool
refused_beside ms = is_some (get_member (codes "refused") ms)
    && (is_some (get_member (codes "profiles") ms) || is_some (get_member (codes "sessions") ms))

abbrev pub beside_fault : Members → Option Fault
beside_fault ms = if refused_beside ms then Some (member_fault (codes "refused") wanted.RefusedAlone) else None

-- no other names, no sections beside their refusal, and each member in its form
abbrev pub members_said : {A : Type 0} → ObjectForm A → Members → Result A Fault
members_said object ms = unless (unknown_name object.has ms) (unless (beside_fault ms) (object.read ms))

-- a script is an object
abbrev pub value_said : {A : Type 0} → ObjectForm A → Data → Result A Fault
value_said object d = wanting wanted.Object (as_object d) >>= members_said object

-- why bytes are no script: they are no JSON, or a value is of another form
pub data Reason : Type 0 where
  NoJson : Reason
  Form : Fault → Reason

-- the value that serde_json reads from the bytes, if they are UTF-8
unfoldable pub json_value : List ℕ → Option Data
json_value bytes = if is_utf8 bytes then read bytes else None

abbrev pub or_reason : {A : Type 0} → Result A Fault → Result A Reason
or_reason (Ok p) = Ok p
or_reason (Err fault) = Err (Form fault)

abbrev pub json_said : {A : Type 0} → ObjectForm A → Option Data → Result A Reason
json_said object None = Err NoJson
json_said object (Some d) = or_reason (value_said object d)

-- what the bytes say as a script with the members of this object, or why they are none
unfoldable pub bytes_said : {A : Type 0} → ObjectForm A → List ℕ → Result A Reason
bytes_said object bytes = json_said object (json_value bytes)

-- what the bytes say as a script, if they are one
unfoldable pub script_of : List ℕ → Option Plain
script_of bytes = result_ok (bytes_said script bytes)

-- why the bytes are no script, if they are none
unfoldable pub fault_of : List ℕ → Option Reason
fault_of bytes = result_err (bytes_said script bytes)

-- the same of a script of several callers
unfoldable pub share_of : List ℕ → Option PlainShare
share_of bytes = result_ok (bytes_said share bytes)

unfoldable pub share_fault_of : List ℕ → Option Reason
share_fault_of bytes = result_err (bytes_said share bytes)

-- the same of a script of an audit
unfoldable pub audit_of : List ℕ → Option PlainAudit
audit_of bytes = result_ok (bytes_said audit bytes)

unfoldable pub audit_fault_of : List ℕ → Option Reason
audit_fault_of bytes = result_err (bytes_said audit bytes)

-- ---- what a call that reads bytes holds of them

-- the value that was read, if one was
abbrev pub parsed_value : Result Value Position → Option Data
parsed_value (Ok v) = Some (view v)
parsed_value (Err position) = None

-- what a fault tells, without the line and the column
abbrev pub reason_of : ScriptFault → Reason
reason_of (fault.NoJson position) = NoJson
reason_of (fault.Form f) = Form f

abbrev pub plain_or_reason : {X A : Type 0} → (X → A) → Result X ScriptFault → Result A Reason
plain_or_reason seen (Ok s) = Ok (seen s)
plain_or_reason seen (Err f) = Err (reason_of f)
