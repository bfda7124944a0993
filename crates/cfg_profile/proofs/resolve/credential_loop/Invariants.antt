-- The texts of the names so far.
use Rattle.std.proofs.Common.{◌≡◌, map, take}
use Rattle.cfg_base.specs.Text.{characters}
use Rattle.cfg_profile.proofs.resolve.credential_loop.Given as goal

abbrev pub invariant-loop-name : goal.invariant-loop-name
invariant-loop-name l = l.profiles.items ≡ map characters (map (λ n. n.now) (take l.name-index l.names))
