-- A region that is known already, or that comes by polls.
use Rattle.std.specs.Prelude.{◌≡◌, ◌++◌, Option, Some, None, IsSome, option_to_list}
use Rattle.cfg_world.specs.declared.ask.Question.{Question}
use Rattle.cfg_world.specs.Fits.{Pair}
use Rattle.cfg_exchange.specs.Classifiers.{Repeats}
use Rattle.cfg_region.specs.Environments.{Told}
use Rattle.cfg_region.specs.SourceLists.{region_sources, trees, chain_tree}
use Rattle.cfg_run.specs.RegionRuns.{IsUnderWay, ComesTo}
use Rattle.cfg_run.specs.declared.future.Source.{Source}
use Rattle.cfg_run.specs.declared.future.Source.TheVariants.{Known, Polled}
use Rattle.cfg_run.specs.declared.region_run.RegionStep.{RegionStep}
use Rattle.cfg_run.specs.declared.region_run.RegionStep.TheVariants.{Ready}

module _ {V W : Type 0} {I : V → Type 0} {J : W → Type 0} where
  -- the question that is shown, if one is
  abbrev pub shown_in : Source V W I J → Option Question
  shown_in (Known region) = None
  shown_in (Polled run) = run.progress.question

  -- All that a poll leaves as it was: the region that is known; or the chain of the run, and how far it is.
  abbrev pub StaysIn : Source V W I J → Source V W I J → Type 0
  StaysIn (Known region) (Known left) = left ≡ region
  StaysIn (Polled run) (Polled left) = (left.chain.now ≡ run.chain.now) × (left.progress ≡ run.progress)
  StaysIn _ _ = ⊥

  module _ (told : (w : W) × J w → Told) (repeated : (v : V) × I v → Repeats) where
    -- There was no answer yet.
    abbrev pub IsUnderWayIn : Source V W I J → Type 0
    IsUnderWayIn (Known region) = IsSome region
    IsUnderWayIn (Polled run) = IsUnderWay (chain_tree (region_sources told repeated run.chain.now)) run.progress.asked run.progress.question

    -- A poll with this receipt gives the region that is known; or it answers what a poll of the run does.
    abbrev pub GoesOn : Option Pair → RegionStep → Source V W I J → Source V W I J → Type 0
    GoesOn receipt step (Known region) (Known left) = (y : Told) × (region ≡ Some y) × (step ≡ Ready y) × (left ≡ None)
    GoesOn receipt step (Polled run) (Polled left) =
        (left.chain.now ≡ run.chain.now)
        × (left.progress.asked ≡ run.progress.asked ++ option_to_list receipt)
        × ComesTo (trees (region_sources told repeated run.chain.now)) left.progress step
    GoesOn receipt step _ _ = ⊥
