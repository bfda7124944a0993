-- The values so far are those of the first members.
use Rattle.std.proofs.Common.{◌≡◌, take, map}
use Rattle.serde_json.specs.View.{view}
use Rattle.cfg_drive.specs.Outcomes.{passed_over_value}
use Rattle.cfg_drive.proofs.outcome.passed_over_list.Given as goal

abbrev pub invariant-loop-member : goal.invariant-loop-member
invariant-loop-member l = map view l.list.items ≡ map passed_over_value (take l.member-index l.members)
