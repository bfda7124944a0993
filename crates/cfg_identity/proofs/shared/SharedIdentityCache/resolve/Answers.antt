-- A call of the name's chain, or none.
use Rattle.std.proofs.Common.{◌≡◌, ◌<◌, length, Some, None, sym, subst, ◌∙◌}
use Rattle.std.specs.FinMap.{get}
use Rattle.cfg_chain.specs.Views.{chain_of}
use Rattle.cfg_identity.proofs.NameSteps.{under, under_none}
use Rattle.cfg_identity.proofs.SharedSteps.{shared_nowhere, shared_there}
use Rattle.cfg_identity.proofs.shared.SharedIdentityCache.resolve.Goals as goal

pub returns-in-None : goal.returns-in-None
returns-in-None g c =
    let m = c.args.self.now.names.numbers in
    let at : get m c.args.name.now ≡ None = sym c.find.ensures.value ∙ c.in-None.is in
    shared_nowhere g.D.Devices c.args.self.now.settings c.args.name.now _ c.args.world.now c.unknown.result
    (under_none (λ slot. chain_of (λ z. (goal.ProvideCredentials-dyn g z).value z.1) (λ z. (goal.ClassifyRetry-dyn g z).repeated z.1) slot.chain) m c.args.self.now.slots.items c.args.name.now at)
    c.unknown.ensures

pub returns-in-Some : goal.returns-in-Some
returns-in-Some g c =
    let m = c.args.self.now.names.numbers in
    let slots = c.args.self.now.slots.items in
    let at : get m c.args.name.now ≡ Some c.in-Some.place = sym c.find.ensures.value ∙ c.in-Some.is in
    let inside : c.in-Some.place < length slots = subst (λ n. c.in-Some.place < n) (sym c.args.self.now.counted) c.in-Some.ensures.below in
    shared_there g.D.Devices c.args.self.now.settings c.args.name.now _ _ c.args.world.now c.answer.new.world c.answer.result
    (under (λ slot. chain_of (λ z. (goal.ProvideCredentials-dyn g z).value z.1) (λ z. (goal.ClassifyRetry-dyn g z).repeated z.1) slot.chain) m slots c.args.name.now c.in-Some.place c.index.result.now at inside c.index.ensures)
    c.answer.ensures
