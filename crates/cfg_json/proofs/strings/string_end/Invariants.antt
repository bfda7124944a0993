use Rattle.std.proofs.Common.{◌≡◌, ◌-◌, drop, length, false}
use Rattle.cfg_json.specs.Reading.{end_of}
use Rattle.cfg_json.proofs.StringSteps.{from_place}
use Rattle.cfg_json.proofs.strings.string_end.Given as goal

abbrev pub invariant-loop-i : goal.invariant-loop-i
invariant-loop-i l = from_place l.i (end_of false (drop l.i l.text)) ≡ end_of false l.text

abbrev pub decreases-loop-i : goal.decreases-loop-i
decreases-loop-i l = length l.text - l.i
