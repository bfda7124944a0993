-- The answers so far.
use Rattle.std.proofs.Common.{◌≡◌, map}
use Rattle.cfg_program.specs.Audited.{answering}
use Rattle.cfg_program.proofs.audit.answerings.Given as goal

abbrev pub invariant-loop-kind : goal.invariant-loop-kind
invariant-loop-kind l = l.answers.items ≡ map answering l.yielded
