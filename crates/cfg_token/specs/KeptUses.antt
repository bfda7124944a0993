-- When a section hands out the kept token.
use Rattle.std.specs.Prelude.{◌≡◌, ◌↔◌, List, [], ◌∷◌, true, Option, Some}
use Rattle.cfg_base.specs.Instant.{is_later_by}
use Rattle.cfg_world.specs.declared.ask.Question.TheVariants.{Now}
use Rattle.cfg_world.specs.Fits.{Pair}
use Rattle.cfg_world.specs.Leaves.{moment_of}
use Rattle.cfg_token.specs.declared.sections.Sectioned.{Sectioned}
use Rattle.cfg_token.specs.declared.sections.Sectioned.TheVariants.{Hit}
use Rattle.cfg_token.specs.Rules.{Rules}

-- First a reading of the clock. A token is a hit exactly where it is the kept one and more than 300
-- seconds of it are left at that reading, and nothing is asked then but that reading.
pub record UsesKept {T E : Type 0} (t : Rules T E) (kept : Option T) (part : List Pair) (made : Sectioned T E) : Type 0 where
  pub first : Pair
  pub rest : List Pair
  pub parts : part ≡ first ∷ rest
  pub asks : first.0 ≡ Now
  pub hit : (token : T) → (made ≡ Hit token) ↔ ((kept ≡ Some token) × (is_later_by (t.expiry token) (moment_of first.1) 300 ≡ true))
  pub alone : (token : T) → made ≡ Hit token → rest ≡ []
