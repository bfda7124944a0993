use Rattle.std.proofs.Common.{◌≡◌, length}
use Rattle.cfg_json.specs.Reading.{after_digits}
use Rattle.cfg_json.proofs.numbers.skip_digits.Given as goal

abbrev pub invariant-loop-x : goal.invariant-loop-x
invariant-loop-x l = after_digits l.rest ≡ after_digits l.fn.text

abbrev pub decreases-loop-x : goal.decreases-loop-x
decreases-loop-x l = length l.rest
