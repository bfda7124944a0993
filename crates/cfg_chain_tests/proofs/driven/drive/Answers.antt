-- The chain stays, and the poll says that its run is under way.
use Rattle.std.proofs.Common.{sym, ap, subst}
use Rattle.cfg_chain.specs.Views.{chain_of}
use Rattle.cfg_run.specs.Runs.{IsUnderWay}
use Rattle.cfg_chain_tests.proofs.driven.drive.Goals as goal

pub stays-requires : goal.stays-requires
stays-requires g c =
    let is_over = ap (λ chain. chain_of (λ z. (goal.ProvideCredentials-dyn g z).value z.1) (λ z. (goal.ClassifyRetry-dyn g z).repeated z.1) chain) c.poll.ensures.chain in
    let comes = rw c.in-Pending.is at c.in_ok-answer.ensures.comes in
    subst (λ over. IsUnderWay over c.poll.new.self.progress) (sym is_over) comes.1
