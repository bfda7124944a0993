-- No value was there so far.
use Rattle.std.proofs.Common.{◌≡◌, map, drop}
use Rattle.cfg_kept.specs.KeptStates.{states_of}
use Rattle.cfg_meta.specs.Fallbacks.{first_there}
use Rattle.cfg_meta.proofs.fallback.first_fallback.Given as goal

abbrev pub invariant-loop-i : goal.invariant-loop-i
invariant-loop-i g l = first_there (λ m. g.M.FallsBack.fallback m) l.members (map states_of l.kept) ≡ first_there (λ m. g.M.FallsBack.fallback m) (drop l.i l.members) (drop l.i (map states_of l.kept))
