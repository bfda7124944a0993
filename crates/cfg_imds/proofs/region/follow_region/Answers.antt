-- The get had come to its end, and memory ran out behind it.
use Rattle.cfg_imds.specs.Clients.{rules_of}
use Rattle.cfg_imds.proofs.LeftKept.{on_err}
use Rattle.cfg_imds.proofs.Located.{left_whole}
use Rattle.cfg_imds.proofs.region.follow_region.Goals as goal

pub returns-in_err-region-clause-left : goal.returns-in_err-region-clause-left
returns-in_err-region-clause-left g c =
    on_err c.from_residual-in_err-region.result _
    (left_whole _ _ _ (rules_of (λ b. (goal.ClassifyRetry-dyn g (b.vtable, b.value)).repeated b.value) c.args.client.now) c.args.kept.now c.follow_get.new.kept c.in_ok-got.got c.in_ok-got.ensures.follows)
