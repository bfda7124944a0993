-- Both errors go down, one beside the other.
use Rattle.std.specs.Prelude.{max}
use Rattle.cfg_types.proofs.errors.NotLoadedCause.TheLaws as not_loaded
use Rattle.cfg_types.proofs.errors.ProviderCause.TheLaws as provider
use Rattle.cfg_world.proofs.same.errors.+same_errors.Given as goal

abbrev pub decreases-NotLoadedCauseSame::same : goal.decreases-NotLoadedCauseSame::same
decreases-NotLoadedCauseSame::same l = max (not_loaded.the_size l.self.now) (not_loaded.the_size l.other.now)

abbrev pub decreases-ProviderCauseSame::same : goal.decreases-ProviderCauseSame::same
decreases-ProviderCauseSame::same l = max (provider.the_size l.self.now) (provider.the_size l.other.now)
