-- The failures that are shown are counted.
use Rattle.std.proofs.Common.{arith, rules, drop, [], ◌∷◌}
use Rattle.std.proofs.lemmas.Grind.{common_steps}
use Rattle.cfg_world.specs.Replayed.{IsNext}
use Rattle.cfg_world.proofs.ShownFailures.{shown_more}
use Rattle.cfg_run.proofs.ReplaySteps.{next_is}
use Rattle.cfg_run.proofs.replay.ReplayAsking.put.Goals as goal

pub returns-clause-counted : goal.returns-clause-counted
returns-clause-counted c = shown_more _ (c.in_ok-receipt.receipt ∷ []) _ (grind (arith, common_steps))

pub returns-clause-asked : goal.returns-clause-asked
returns-clause-asked c =
    let next : IsNext (drop c.self.inside.at c.self.inside.receipts.now) c.args.question = first_of (search (rules, c.is_next.ensures), grind (arith, c.is_next.ensures)) in
    (next_is c.self.inside.receipts.now c.self.inside.at c.index-self-self.result c.in_ok-receipt.receipt c.args.question c.in_ok-receipt.ensures.0 next, c.in_ok-receipt.ensures.1)
