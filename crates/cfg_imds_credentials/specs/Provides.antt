-- What a call of a provider leaves.
use Rattle.cfg_world.specs.declared.asking.Asking.{Ghosts}
use Rattle.cfg_kept.specs.Holds.{Holdings, HoldsEnds}
use Rattle.cfg_providers.specs.CustomSources.{Answer}
use Rattle.cfg_imds_credentials.specs.Settings.{MetadataSetting}
use Rattle.cfg_imds_credentials.specs.Metadata.{metadata}
use Rattle.cfg_imds_credentials.specs.Causes.{CauseMetadata}

-- The journal grew by exactly a part, and the found values by those found, over which the tree comes to
-- this answer and leaves what is kept; and the answer has its cause there.
pub record ProvidesMetadata {A : Type 0} (a : Ghosts A) (s : MetadataSetting) (old : A) (before : Holdings) (new : A) (later : Holdings) (out : Answer) : Type 0 where
  pub ends : HoldsEnds a (metadata s) old before new later out
  pub cause : CauseMetadata s ends.found ends.part out
