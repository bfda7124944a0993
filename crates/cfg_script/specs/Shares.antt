-- The members of a script of several callers: the settings, and the lists of each caller's devices.
use Rattle.std.specs.Prelude.{ℕ, List, length, Bool, true, ◌&&◌, nat_le, codes, Option, Some, None, Result, unwrap_or, if◌then◌else◌}
use Rattle.cfg_world.specs.declared.script.DeviceLists.{DeviceLists}
use Rattle.cfg_base.specs.Gives.{◌>>=◌}
use Rattle.cfg_script.specs.Script.{PlainShare}
use Rattle.cfg_script.specs.Faults.{wanting}
use Rattle.cfg_script.specs.Forms.{Form, list_by}
use Rattle.cfg_script.specs.Objects.{ObjectForm, required_member, ◌&◌, nothing_more, together, object_of}
use Rattle.cfg_script.specs.Settings.{SettingRows, settings, devices, profiles_of}
use Rattle.cfg_script.specs.declared.fault.Wanted.TheVariants as wanted

-- the lists of one caller's devices
abbrev pub caller : Form DeviceLists
caller = object_of wanted.Caller devices

-- how many callers there may be: from 1 to 16
abbrev pub is_caller_count : ℕ → Bool
is_caller_count n = nat_le 1 n && nat_le n 16

-- so many of them as there may be
unfoldable pub counted_callers : List DeviceLists → Option (List DeviceLists)
counted_callers all = if is_caller_count (length all) then Some all else None

-- the callers, each by the lists of its devices
abbrev pub callers : Form (List DeviceLists)
callers = λ d. list_by wanted.Callers caller d >>= λ all. wanting wanted.Callers (counted_callers all)

abbrev pub ShareRows : Type 0
ShareRows = SettingRows (List DeviceLists × Unit {0})

-- all members of a script of several callers
abbrev pub share_members : ObjectForm ShareRows
share_members = settings (required_member (codes "callers") callers & nothing_more)

-- each member in its place
unfoldable pub share_in : ShareRows → PlainShare
share_in rows = record {
  variables = rows.0;
  profiles = profiles_of rows.1.1.1.0 rows.1.0 rows.1.1.0;
  selected = rows.1.1.1.1.0;
  region = rows.1.1.1.1.1.0;
  sleep = unwrap_or rows.1.1.1.1.1.1.0 true;
  service = rows.1.1.1.1.1.1.1.0;
  calls = unwrap_or rows.1.1.1.1.1.1.1.1.0 1;
  callers = rows.1.1.1.1.1.1.1.1.1.0;
}

-- the members of a script of several callers, each in its place
abbrev pub share : ObjectForm PlainShare
share = together share_in share_members
