use Rattle.std.proofs.Common.{◌≡◌, length}
use Rattle.cfg_json.specs.Reading.{after_white_space}
use Rattle.cfg_json.proofs.white_space.skip_white_space.Given as goal

abbrev pub invariant-loop-x : goal.invariant-loop-x
invariant-loop-x l = after_white_space l.rest ≡ after_white_space l.fn.text

abbrev pub decreases-loop-x : goal.decreases-loop-x
decreases-loop-x l = length l.rest
