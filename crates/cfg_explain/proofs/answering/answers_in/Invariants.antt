-- The answers so far.
use Rattle.std.proofs.Common.{◌≡◌, map, take}
use Rattle.cfg_explain.proofs.answering.answers_in.Given as goal

abbrev pub invariant-loop-answering : goal.invariant-loop-answering
invariant-loop-answering l = l.given.items ≡ map (λ a. a.answer) (take l.answering-index l.answers)
