-- The failures that are shown are counted.
use Rattle.std.proofs.Common.{arith, [], ◌∷◌}
use Rattle.std.proofs.lemmas.Grind.{common_steps}
use Rattle.cfg_world.proofs.ShownFailures.{shown_more}
use Rattle.cfg_world.proofs.answers.AnswersAsking.put.Goals as goal

pub returns-clause-counted : goal.returns-clause-counted
returns-clause-counted c = shown_more _ (c.in_ok-receipt.receipt ∷ []) _ (grind (arith, common_steps))
