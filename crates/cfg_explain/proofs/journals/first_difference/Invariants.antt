-- Up to here both ask the same.
use Rattle.std.proofs.Common.{◌≡◌, ◌≤◌, ◌-◌, take, length}
use Rattle.cfg_explain.specs.Journals.{questions}
use Rattle.cfg_explain.proofs.journals.first_difference.Given as goal

abbrev pub invariant-loop-at : goal.invariant-loop-at
invariant-loop-at l = (l.at ≤ length l.one) × (l.at ≤ length l.other) × (questions (take l.at l.one) ≡ questions (take l.at l.other))

abbrev pub decreases-loop-at : goal.decreases-loop-at
decreases-loop-at l = length l.one - l.at
