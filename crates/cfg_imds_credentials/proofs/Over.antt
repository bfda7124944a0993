-- Calls over a world, from what they follow.
use Rattle.std.specs.Prelude.{IsSome}
use Rattle.cfg_world.specs.declared.asking.Asking.{Ghosts}
use Rattle.cfg_world.specs.declared.asking.Stop.{Stop}
use Rattle.cfg_world.specs.declared.asking.Stop.TheVariants.{OutOfMemory, Open}
use Rattle.cfg_kept.specs.Holds.{Holdings, HoldsEnds, HoldsBreaks, HoldsHalts}
use Rattle.cfg_kept.proofs.Told.{run_begins}
use Rattle.cfg_providers.specs.CustomSources.{Answer}
use Rattle.cfg_imds_credentials.specs.Settings.{MetadataSetting}
use Rattle.cfg_imds_credentials.specs.Metadata.{metadata}
use Rattle.cfg_imds_credentials.specs.Provides.{ProvidesMetadata}
use Rattle.cfg_imds_credentials.proofs.Given.{run_reads}
use Rattle.cfg_imds_credentials.proofs.Reasons.{has_cause}

module _ {W : Type 0} (w : Ghosts W) (s : MetadataSetting) (old new : W) (before later : Holdings) where
  -- it came to an end, and its answer has its cause
  pub ended : (out : Answer) → HoldsEnds w (metadata s) old before new later out → ProvidesMetadata w s old before new later out
  ended out h = record { ends = h; cause = has_cause s h.found h.part out (run_reads (metadata s) before.kept later.kept h.found h.part out h.runs) }

  -- what came to an end has begun
  pub began : (out : Answer) → HoldsEnds w (metadata s) old before new later out → HoldsBreaks w (metadata s) old before new later
  began out h = record {
    part = h.part;
    grows = h.grows;
    fits = h.fits;
    made = h.made;
    same = h.same;
    counted = h.counted;
    found = h.found;
    finds = h.finds;
    begins = run_begins (metadata s) before.kept later.kept h.found h.part out h.runs;
  }

  -- where no question is left open, memory ran out
  pub broken : (stop : Stop) → HoldsHalts w (metadata s) old before new later stop → (IsSome (w.open_question new) → ⊥) → HoldsBreaks w (metadata s) old before new later
  broken Open h n = absurd (n h.is_open)
  broken OutOfMemory h n = h
