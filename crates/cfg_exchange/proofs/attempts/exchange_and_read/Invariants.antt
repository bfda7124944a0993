-- What is left is one attempt, and at most so many more.
use Rattle.std.proofs.Common.{◌-◌}
use Rattle.cfg_world.specs.declared.ask.Question.TheVariants.{Send}
use Rattle.cfg_world.proofs.Inquiries.{Leads}
use Rattle.cfg_exchange.specs.Classifiers.{is_repeated}
use Rattle.cfg_exchange.specs.Attempts.{attempts}
use Rattle.cfg_exchange.proofs.attempts.exchange_and_read.Given as goal

abbrev pub invariant-loop-receipt : goal.invariant-loop-receipt
invariant-loop-receipt g l =
    let test = is_repeated l.fn.kind (g.C.ClassifyRetry.repeated l.fn.classifier) in
    Leads g.A.Asking (attempts (l.fn.limit - 1) (Send l.fn.request) test) l.fn.asking l.asking (attempts l.more (Send l.fn.request) test)

abbrev pub decreases-loop-receipt : goal.decreases-loop-receipt
decreases-loop-receipt g l = l.more
