-- Up to here both are the same.
use Rattle.std.proofs.Common.{◌≡◌, ◌≤◌, ◌-◌, map, take, length}
use Rattle.cfg_explain.specs.Answerings.{answering_of}
use Rattle.cfg_explain.proofs.answering.first_departure.Given as goal

abbrev pub invariant-loop-at : goal.invariant-loop-at
invariant-loop-at l = (l.at ≤ length l.journal) × (l.at ≤ length l.answers) × (map answering_of (take l.at l.journal) ≡ take l.at l.answers)

abbrev pub decreases-loop-at : goal.decreases-loop-at
decreases-loop-at l = length l.journal - l.at
