-- What scripted devices answer that nothing was asked of yet.
use Rattle.std.proofs.Common.{◌≡◌, [], ◌∷◌, sym}
use Rattle.cfg_world.specs.Asked.{Same, StandsOn}
use Rattle.cfg_world.specs.Fits.{Pair}
use Rattle.cfg_world.specs.Script.{Script, Given, Allows, Stands, start}

pub first_given : (old new : Script) (e : Pair) → old.place ≡ start → Same (Allows old) (Allows new) → StandsOn (Stands old) (Stands new) (e ∷ []) → Given old.lists start (e ∷ [])
first_given old new e fresh same stands = same.from (e ∷ []) (stands [] (tt, sym fresh)).0
