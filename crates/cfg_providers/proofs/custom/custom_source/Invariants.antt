-- The last match of the sources so far.
use Rattle.std.proofs.Common.{◌≡◌, map, take}
use Rattle.std.specs.Prelude.{option_map}
use Rattle.cfg_providers.specs.CustomSources.{named, last_named}
use Rattle.cfg_providers.proofs.custom.custom_source.Given as goal

abbrev pub invariant-loop-source : goal.invariant-loop-source
invariant-loop-source g l =
    option_map (λ s. (named (λ b. (goal.ProvideCredentials-dyn g (b.vtable, b.value)).value b.value) s.now).1) l.found
    ≡ last_named l.name (map (named (λ b. (goal.ProvideCredentials-dyn g (b.vtable, b.value)).value b.value)) (take l.source-index l.sources))
