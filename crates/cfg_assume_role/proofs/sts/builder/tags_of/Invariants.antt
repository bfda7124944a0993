-- The tags of the pairs so far.
use Rattle.std.proofs.Common.{◌≡◌, map}
use Rattle.cfg_assume_role.specs.Setups.{tag_of}
use Rattle.cfg_assume_role.proofs.sts.builder.tags_of.Given as goal

abbrev pub invariant-loop-pair : goal.invariant-loop-pair
invariant-loop-pair l = l.tags.items ≡ map tag_of l.yielded
