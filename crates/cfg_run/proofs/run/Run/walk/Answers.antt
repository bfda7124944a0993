-- Knowing the plan changes neither the chain nor how far the run is.
use Rattle.std.proofs.Common.{refl}
use Rattle.cfg_chain.specs.Settings.{ChainSetting}
use Rattle.cfg_chain.specs.Views.{chain_of}
use Rattle.cfg_run.proofs.RoleSteps.{profile_there}
use Rattle.cfg_run.proofs.run.Run.walk.Goals as goal

pub next_role-requires-clause-place : goal.next_role-requires-clause-place
next_role-requires-clause-place g c =
    let over : ChainSetting = chain_of (λ z. (goal.ProvideCredentials-dyn g z).value z.1) (λ z. (goal.ClassifyRetry-dyn g z).repeated z.1) c.args.self.now.chain.now in
    let s = c.args.self.now.progress in
    rw (c.in_ok-learn.ensures.chain, c.in_ok-learn.ensures.progress) (profile_there over s s.question s.member c.requires.place (c.in-Some.ensures.profile refl) (c.in-Some.ensures.shown refl))

pub next_of-requires-in-None-clause-begun : goal.next_of-requires-in-None-clause-begun
next_of-requires-in-None-clause-begun g c = rw (c.in_ok-learn.ensures.chain, c.in_ok-learn.ensures.progress) c.requires.begun

pub returns-in-Some-planned-clause-comes : goal.returns-in-Some-planned-clause-comes
returns-in-Some-planned-clause-comes g c = rw (c.in_ok-learn.ensures.chain, c.in_ok-learn.ensures.progress) at c.next_role.ensures.comes

pub returns-in-None-clause-comes : goal.returns-in-None-clause-comes
returns-in-None-clause-comes g c = rw (c.in_ok-learn.ensures.chain, c.in_ok-learn.ensures.progress) at c.next_of-in-None.ensures.comes
