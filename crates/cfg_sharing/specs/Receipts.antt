-- The receipts that found values carry.
use Rattle.std.specs.Prelude.{List, [], ◌∷◌, Some}
use Rattle.cfg_world.specs.Fits.{Pair}
use Rattle.cfg_kept.specs.declared.found.Found.{Found}
use Rattle.cfg_kept.specs.declared.found.Found.TheVariants as found

-- a metadata token carries its reply and its reading, retrieved credentials their receipts, and a load those of its record
abbrev pub receipts_of : Found → List Pair
receipts_of (found.ImdsToken place (Some token)) = token.reply ∷ token.reading ∷ []
receipts_of (found.Retrieved place (Some retrieved)) = retrieved.receipts
receipts_of (found.Sso (Some load) last) = load.loaded_by.receipts
receipts_of (found.Login (Some load) last) = load.loaded_by.receipts
receipts_of _ = []
