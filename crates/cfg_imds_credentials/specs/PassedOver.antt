-- Where a provider of metadata credentials is passed over.
use Rattle.std.specs.Prelude.{◌≡◌, ◌⊎◌, List, [], true, false, Some, None, IsSome}
use Rattle.cfg_types.specs.declared.errors.imds.ImdsError.{ImdsError}
use Rattle.cfg_world.specs.Fits.{Pair}
use Rattle.cfg_imds.specs.Causes.{why_no_text}
use Rattle.cfg_kept.specs.Kinds.{Value}
use Rattle.cfg_imds_credentials.specs.Settings.{MetadataSetting}
use Rattle.cfg_imds_credentials.specs.Metadata.{listing_path, absence}
use Rattle.cfg_imds_credentials.specs.Causes.{first_text, retrieved_in}

-- The listing was asked for, and no text was got: it answers 404, or its token request could not be
-- sent.
pub record IsUnlisted (s : MetadataSetting) (part : List Pair) : Type 0 where
  pub enabled : s.disabled ≡ false
  pub role : s.role ≡ None
  pub nothing : first_text part ≡ None
  pub fault : ImdsError
  pub is : why_no_text s.client listing_path part ≡ Some fault
  pub absent : IsSome (absence fault)

-- Metadata is switched off and nothing is asked, or the listing names no role, or its token request could not be
-- sent; and nothing retrieved was found.
abbrev pub IsPassedOver : MetadataSetting → List Value → List Pair → Type 0
IsPassedOver s found part = (retrieved_in found ≡ None) × (((s.disabled ≡ true) × (part ≡ [])) ⊎ IsUnlisted s part)
