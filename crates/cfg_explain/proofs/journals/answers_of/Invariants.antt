-- The answers so far.
use Rattle.std.proofs.Common.{◌≡◌, map, take}
use Rattle.cfg_explain.proofs.journals.answers_of.Given as goal

abbrev pub invariant-loop-entry : goal.invariant-loop-entry
invariant-loop-entry l = l.answers.items ≡ map (λ e. e.1) (take l.entry-index l.journal)
