-- The slots so far have the chains of those that they are made of.
use Rattle.std.proofs.Common.{◌≡◌, map}
use Rattle.cfg_identity.proofs.shared.behind_locks.Given as goal

abbrev pub invariant-loop-slot : goal.invariant-loop-slot
invariant-loop-slot g l = map (λ s. s.chain) l.shared.items ≡ map (λ s. s.chain) l.yielded
