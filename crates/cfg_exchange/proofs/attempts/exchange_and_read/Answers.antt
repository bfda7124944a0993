-- The attempt was repeated, and one less is left.
use Rattle.std.proofs.Common.{rules, ◌≡◌, true}
use Rattle.cfg_world.specs.declared.ask.Question.TheVariants.{Send}
use Rattle.cfg_exchange.specs.Classifiers.{is_repeated}
use Rattle.cfg_exchange.proofs.Repeats.{attempts_go}
use Rattle.cfg_exchange.proofs.attempts.exchange_and_read.Goals as goal

pub loop-receipt-preserved : goal.loop-receipt-preserved
loop-receipt-preserved g c =
    let test = is_repeated c.args.kind (g.C.ClassifyRetry.repeated c.args.classifier.now) in
    let repeated : test c.in_ok-receipt.receipt.1 ≡ true = search rules in
    attempts_go c.loop-receipt.more (Send c.args.request.now) test c.loop-receipt.invariant c.in_ok-receipt.ensures.follows (search rules) repeated
