-- What a provider of metadata credentials is set to.
use Rattle.std.specs.Prelude.{ℕ, List, Bool, Option}
use Rattle.cfg_imds.specs.Clients.{ClientRules}
use Rattle.cfg_kept.specs.declared.place.Place.{Place}

-- whether metadata is switched off; its client; the name of the role, where one is set; and where its
-- values are kept
pub record MetadataSetting : Type 0 where
  pub disabled : Bool
  pub client : ClientRules
  pub role : Option (List ℕ)
  pub place : Place

abbrev pub setting : Bool → ClientRules → Option (List ℕ) → Place → MetadataSetting
setting disabled client role place = record { disabled = disabled; client = client; role = role; place = place }
