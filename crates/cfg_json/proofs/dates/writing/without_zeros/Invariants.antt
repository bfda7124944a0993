use Rattle.std.proofs.Common.{◌≡◌, length}
use Rattle.cfg_json.specs.WritingDates.{without_zeros}
use Rattle.cfg_json.proofs.dates.writing.without_zeros.Given as goal

abbrev pub invariant-loop-last : goal.invariant-loop-last
invariant-loop-last l = without_zeros l.rest ≡ without_zeros l.fn.digits

abbrev pub decreases-loop-last : goal.decreases-loop-last
decreases-loop-last l = length l.rest
