-- The values so far are those of the first causes.
use Rattle.std.proofs.Common.{◌≡◌, take, map}
use Rattle.serde_json.specs.View.{view}
use Rattle.cfg_drive.specs.Outcomes.{cause_value}
use Rattle.cfg_drive.proofs.outcome.causes_as_value.Given as goal

abbrev pub invariant-loop-cause : goal.invariant-loop-cause
invariant-loop-cause l = map view l.list.items ≡ map cause_value (take l.cause-index l.cause-items)
