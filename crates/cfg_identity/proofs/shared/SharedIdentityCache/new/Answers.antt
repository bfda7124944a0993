-- The names and the chains are those of the cache.
use Rattle.std.proofs.Common.{refl, ◌∙◌}
use Rattle.cfg_chain.specs.Views.{chain_of}
use Rattle.cfg_identity.specs.Entries.{chain_in}
use Rattle.cfg_identity.specs.Views.{entry_of}
use Rattle.cfg_identity.proofs.SharedSteps.{same_count, same_under}
use Rattle.cfg_identity.proofs.shared.SharedIdentityCache.new.Goals as goal

pub invariant_of-result : goal.invariant_of-result
invariant_of-result g c = record { counted = same_count (λ s. s.chain) (λ s. s.chain) c.in_ok-slots.slots.items c.args.cache.slots.items c.in_ok-slots.ensures ∙ c.args.cache.counted }

pub returns-clause-names : goal.returns-clause-names
returns-clause-names g c = λ name.
    same_under (chain_of (λ z. (goal.ProvideCredentials-dyn g z).value z.1) (λ z. (goal.ClassifyRetry-dyn g z).repeated z.1)) (λ s. s.chain) (λ s. s.chain)
    (entry_of (λ z. (goal.ProvideCredentials-dyn g z).value z.1) (λ z. (goal.ClassifyRetry-dyn g z).repeated z.1)) chain_in c.args.cache.names.numbers
    c.in_ok-slots.slots.items c.args.cache.slots.items c.in_ok-slots.ensures name (λ y. refl)
