-- The slot of the name is changed, and no other.
use Rattle.std.proofs.Common.{◌≡◌, ◌<◌, length, Some, sym, subst, ◌∙◌}
use Rattle.std.specs.FinMap.{get}
use Rattle.cfg_identity.specs.Views.{entry_of}
use Rattle.cfg_identity.proofs.CallSteps.{resolved_there}
use Rattle.cfg_identity.proofs.NameSteps.{under, under_set, others_stay}
use Rattle.cfg_identity.proofs.cache.IdentityCache.resolve.Goals as goal

pub returns-in-Some-clause-resolves : goal.returns-in-Some-clause-resolves
returns-in-Some-clause-resolves g c =
    let m = c.args.self.now.names.numbers in
    let slots = c.args.self.now.slots.items in
    let at : get m c.args.name.now ≡ Some c.in-Some.place = sym c.find.ensures.value ∙ c.in-Some.is in
    let inside : c.in-Some.place < length slots = subst (λ n. c.in-Some.place < n) (sym c.args.self.now.counted) c.in-Some.ensures.below in
    resolved_there g.D.Devices c.args.self.now.settings c.args.name.now _ _
    (entry_of (λ z. (goal.ProvideCredentials-dyn g z).value z.1) (λ z. (goal.ClassifyRetry-dyn g z).repeated z.1) c.index_mut.result.now)
    (entry_of (λ z. (goal.ProvideCredentials-dyn g z).value z.1) (λ z. (goal.ClassifyRetry-dyn g z).repeated z.1) c.resolve.new.self)
    c.args.world.now c.resolve.new.world c.resolve.result
    (under (entry_of (λ z. (goal.ProvideCredentials-dyn g z).value z.1) (λ z. (goal.ClassifyRetry-dyn g z).repeated z.1)) m slots c.args.name.now c.in-Some.place c.index_mut.result.now at inside c.index_mut.ensures.value)
    (under_set (entry_of (λ z. (goal.ProvideCredentials-dyn g z).value z.1) (λ z. (goal.ClassifyRetry-dyn g z).repeated z.1)) m slots c.args.name.now c.in-Some.place c.resolve.new.self at inside)
    c.resolve.ensures

pub returns-in-Some-clause-others : goal.returns-in-Some-clause-others
returns-in-Some-clause-others g c =
    others_stay (entry_of (λ z. (goal.ProvideCredentials-dyn g z).value z.1) (λ z. (goal.ClassifyRetry-dyn g z).repeated z.1)) c.args.self.now.names.numbers c.args.self.now.slots.items
    c.args.name.now c.in-Some.place c.resolve.new.self c.in-Some.ensures.only
