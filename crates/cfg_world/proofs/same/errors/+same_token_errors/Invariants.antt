-- Both errors go down, one beside the other.
use Rattle.std.specs.Prelude.{max}
use Rattle.cfg_types.proofs.errors.token.TokenCause.TheLaws as cause
use Rattle.cfg_world.proofs.same.errors.+same_token_errors.Given as goal

abbrev pub decreases-TokenCauseSame::same : goal.decreases-TokenCauseSame::same
decreases-TokenCauseSame::same l = max (cause.the_size l.self.now) (cause.the_size l.other.now)
