use Rattle.std.proofs.Common.{◌≡◌, ◌+◌, ◌*◌, ◌<◌, ◌≤◌, length}
use Rattle.cfg_json.specs.Dates.{first_weight}
use Rattle.cfg_json.specs.ReadingDates.{nanos_from, add_front}
use Rattle.cfg_json.proofs.dates.reading.read_digits.Given as goal

abbrev pub invariant-loop-x : goal.invariant-loop-x
invariant-loop-x l = (add_front l.nanos (nanos_from l.weight l.rest) ≡ nanos_from first_weight l.fn.text) × (l.nanos + 10 * l.weight ≤ 1000000000) × (l.nanos < 1000000000)

abbrev pub decreases-loop-x : goal.decreases-loop-x
decreases-loop-x l = length l.rest
