-- The worlds so far have empty journals.
use Rattle.std.proofs.Common.{◌≡◌, [], All}
use Rattle.cfg_sharing_tests.proofs.setup.worlds_over.Given as goal

abbrev pub invariant-loop-one : goal.invariant-loop-one
invariant-loop-one g l = All (λ w. w.journal ≡ []) l.worlds.items
