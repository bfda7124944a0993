-- The roles so far.
use Rattle.std.proofs.Common.{◌≡◌}
use Rattle.cfg_profile.specs.Generated.{generated_roles}
use Rattle.cfg_profile.proofs.generated.generated_set.Given as goal

abbrev pub invariant-loop-before : goal.invariant-loop-before
invariant-loop-before l = l.profiles.items ≡ generated_roles l.before
