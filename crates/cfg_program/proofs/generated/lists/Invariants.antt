-- The replies so far.
use Rattle.std.proofs.Common.{◌≡◌}
use Rattle.cfg_program.specs.Generated.{generated_replies}
use Rattle.cfg_program.proofs.generated.lists.Given as goal

abbrev pub invariant-loop-before : goal.invariant-loop-before
invariant-loop-before l = l.replies.items ≡ generated_replies l.before
