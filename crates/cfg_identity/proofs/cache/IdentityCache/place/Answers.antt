-- The slot stands under its name.
use Rattle.std.proofs.Common.{string_bytes}
use Rattle.cfg_identity.specs.Views.{entry_of}
use Rattle.cfg_identity.proofs.EntrySteps.{placed_from}
use Rattle.cfg_identity.proofs.cache.IdentityCache.place.Goals as goal

pub returns-in-Ok-clause-placed : goal.returns-in-Ok-clause-placed
returns-in-Ok-clause-placed g c =
    placed_from (entry_of (λ z. (goal.ProvideCredentials-dyn g z).value z.1) (λ z. (goal.ClassifyRetry-dyn g z).repeated z.1))
    c.args.self.now.names.numbers c.add.new.self.numbers c.args.self.now.slots.items c.push.new.self.items (string_bytes c.in_ok-name.name) c.args.name.now c.args.slot
    c.in_ok-name.ensures.ok c.in-Ok.ensures.added c.in_ok-push.ensures.items c.args.self.now.counted c.in-Ok.ensures.below
