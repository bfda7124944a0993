-- One reading of the clock.
use Rattle.cfg_token.proofs.ReadingSteps.{reads_clock}
use Rattle.cfg_token.proofs.leaves.ask_clock.Goals as goal

pub returns : goal.returns
returns g c =
    let p = c.in_ok-receipt.ensures in
    reads_clock g.A.Asking c.args.asking.now c.put.new.self c.in_ok-receipt.receipt p.asked.0 p.asked.1 p.grows p.made p.same p.counted (p.stands (λ e. cc))
