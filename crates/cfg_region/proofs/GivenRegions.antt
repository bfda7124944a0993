-- A region that was given is the one that a configuration gets, and nothing is asked for it; and over one
-- script a configuration gets one region.
use Rattle.std.proofs.Common.{◌≡◌, List, [], ◌∷◌, Option, Some, inl, inr, refl, sym, ap, ◌∙◌, subst}
use Rattle.cfg_world.specs.declared.devices.Devices.{Ghosts}
use Rattle.cfg_world.specs.declared.script.DeviceLists.{DeviceLists}
use Rattle.cfg_world.specs.Fits.{Pair}
use Rattle.cfg_world.specs.Grows.{Grows, Stays}
use Rattle.cfg_world.specs.Held.{Held}
use Rattle.cfg_world.specs.Inquiry.{Reads, Begun}
use Rattle.cfg_world.specs.Script.{Place, Given as GivenBy}
use Rattle.cfg_world.specs.Agreeing.{AnswerAlike}
use Rattle.cfg_world.specs.Beginnings.{IsPrefix}
use Rattle.cfg_world.proofs.Agreeing.{one_journal, given_alike}
use Rattle.cfg_world.proofs.Beginnings.{begins_whole}
use Rattle.cfg_profile.specs.Configuration.{Configuration}
use Rattle.cfg_region.specs.Calls.{RegionSet, RegionBegun, RegionBreaks}
use Rattle.cfg_region.specs.Environments.{Told}
use Rattle.cfg_region.specs.Sources.{Source, Given, tree}
use Rattle.cfg_region.proofs.Loads.{stays_by, grows_here}
use Rattle.cfg_region.proofs.OneSource.{one_source}

given_reads : (told region : Told) (part : List Pair) → Reads (tree (Given told)) part region → (part ≡ []) × (region ≡ told)
unfolding tree
given_reads told region [] h = (refl, sym h)
given_reads told region (e ∷ part) h = absurd h

given_begun : (told : Told) (part : List Pair) → Begun (tree (Given told)) part → part ≡ []
unfolding tree
given_begun told [] h = refl
given_begun told (e ∷ part) h = absurd h

module _ {D : Type 0} {d : Ghosts D} (told : Told) (conf : Configuration) (old new : Held D) where
  reads_given : (set : Configuration) (s : RegionSet d (Some (Given told)) conf old new set) → (s.part ≡ []) × (s.region ≡ told)
  reads_given set s = given_reads told s.region s.part (subst (λ source. Reads (tree source) s.part s.region) s.asked s.reads)

  -- it is the configuration's region
  pub given_is : (set : Configuration) → RegionSet d (Some (Given told)) conf old new set → set ≡ record conf { region = told }
  given_is set s = s.is ∙ ap (λ region. record conf { region = region }) (reads_given set s).1

  -- the journal is as it was
  pub given_grows : (set : Configuration) → RegionSet d (Some (Given told)) conf old new set → Grows d [] old new
  given_grows set s = subst (λ part. Grows d part old new) (reads_given set s).0 s.grows

  -- also where memory ran out
  pub given_stays : RegionBreaks d (Some (Given told)) conf old new → Stays d [] old new
  given_stays (inl same) = subst (λ (w : Held D). Stays d [] old w) (sym same) (stays_by [] old old (grows_here old))
  given_stays (inr b) =
      subst (λ part. Stays d part old new) (given_begun told b.breaks.part (subst (λ source. Begun (tree source) b.breaks.part) b.asked b.breaks.begun)) b.breaks.stays

module _ {D : Type 0} {d : Ghosts D} (given : Option Source) (conf : Configuration) where
  -- over answers that agree a configuration gets one region, and the same is asked for it
  pub one_set_alike : (old new before later : Held D) (a b : Configuration) (x : RegionSet d given conf old new a) (y : RegionSet d given conf before later b) →
      AnswerAlike x.part y.part → (x.part ≡ y.part) × (a ≡ b)
  one_set_alike old new before later a b x y alike =
      let reads = subst (λ s. Reads (tree s) x.part x.region) (one_source given conf x.source y.source x.asked y.asked) x.reads in
      let one = one_journal (tree y.source) x.part y.part x.region y.region reads y.reads alike in
      (one.0, x.is ∙ ap (λ t. record conf { region = t }) one.1 ∙ sym y.is)

  -- where memory ran out the part is a prefix
  pub set_prefix : (old new before later : Held D) (b : Configuration) (x : RegionBegun d given conf old new) (y : RegionSet d given conf before later b) →
      AnswerAlike x.breaks.part y.part → IsPrefix x.breaks.part y.part
  set_prefix old new before later b x y alike =
      let begun = subst (λ s. Begun (tree s) x.breaks.part) (one_source given conf x.source y.source x.asked y.asked) x.breaks.begun in
      begins_whole (tree y.source) x.breaks.part y.part y.region begun y.reads alike

  -- over one script, from one place
  pub one_set : (lists : DeviceLists) (place : Place) (old new before later : Held D) (a b : Configuration) (x : RegionSet d given conf old new a) (y : RegionSet d given conf before later b) →
      GivenBy lists place x.part → GivenBy lists place y.part → (x.part ≡ y.part) × (a ≡ b)
  one_set lists place old new before later a b x y g h = one_set_alike old new before later a b x y (given_alike lists place x.part y.part g h)
