-- Scripted devices: their own fields, as contracts see them.
use Rattle.std.specs.Prelude.{ℕ, List}
use Rattle.cfg_base.specs.TextMap.{Named}
use Rattle.cfg_world.specs.declared.script.DeviceLists.{DeviceLists}
use Rattle.cfg_world.specs.declared.script.Places.{Places}
use Rattle.cfg_world.specs.declared.script.FaultCounts.{FaultCounts}
use Rattle.cfg_world.specs.Faults.{Faults}
use Rattle.cfg_world.specs.Script.{Place, AllFit}
use Rattle.cfg_world.specs.Paths.{Finds, Lists}

abbrev pub place_of : Places → List (List ℕ × List ℕ) → Place
place_of p writes = record { clock = p.clock; jitter = p.jitter; commands = p.commands; lookups = p.lookups; http = p.http; imds_token = p.imds_token; imds_get = p.imds_get; assume_role = p.assume_role; web_identity = p.web_identity; role_credentials = p.role_credentials; create_token = p.create_token; sign_in = p.sign_in; writes = writes }

abbrev pub faults_of : FaultCounts → Faults
faults_of f = record { files = f.files; transport = f.transport; commands = f.commands; lookups = f.lookups }

-- Every item fits its questions, and both indexes are those of the lists.
pub record IsReady (lists : DeviceLists) (index : Named ℕ) (names : Named (Unit {0})) : Type 0 where
  pub fits : AllFit lists
  pub listed : Finds index lists.files
  pub unwritable : Lists names lists.unwritable
