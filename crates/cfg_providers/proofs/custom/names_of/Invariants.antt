-- The names of the sources so far.
use Rattle.std.proofs.Common.{◌≡◌, map, take}
use Rattle.cfg_providers.specs.CustomSources.{named}
use Rattle.cfg_providers.proofs.custom.names_of.Given as goal

abbrev pub invariant-loop-source : goal.invariant-loop-source
invariant-loop-source g l =
    l.names.items ≡ map (λ s. s.0) (map (named (λ b. (goal.ProvideCredentials-dyn g (b.vtable, b.value)).value b.value)) (take l.source-index l.sources))
