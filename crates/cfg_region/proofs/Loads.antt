-- Calls over a world, from what they follow.
use Rattle.std.proofs.Common.{◌≡◌, List, [], true, false, Bool, Option, None, refl, sym, ap, ◌∙◌, subst, ◌⊎◌, inl, inr, append-nil}
use Rattle.std.specs.Prelude.{Result, Ok, Err, OnErr, IfOk}
use Rattle.cfg_types.specs.declared.errors.imds.ImdsError.{ImdsError}
use Rattle.cfg_world.specs.declared.devices.Devices.{Ghosts}
use Rattle.cfg_world.specs.Fits.{Pair}
use Rattle.cfg_world.specs.Grows.{Grows, Stays}
use Rattle.cfg_world.specs.Held.{Held}
use Rattle.cfg_world.specs.Inquiry.{Inquiry, Done, Reads, Begun, after}
use Rattle.cfg_world.proofs.Counts.{Same-refl, StandsOn-none, Counted-none}
use Rattle.cfg_world.proofs.Inquiries.{reads_after, begun_first, begun_here}
use Rattle.cfg_exchange.proofs.Checks.{read_begun}
use Rattle.cfg_profile.specs.Configuration.{Configuration}
use Rattle.cfg_imds.specs.Calls.{is_memory, CallEnds, CallBreaks}
use Rattle.cfg_imds.specs.Clients.{ClientRules, get}
use Rattle.cfg_imds.specs.Regions.{region_in, located, region_path, region}
use Rattle.cfg_imds.specs.Settles.{Given, Settled}
use Rattle.cfg_imds.specs.Tokens.{Token}
use Rattle.cfg_region.specs.Calls.{Asks, RegionSet, RegionBreaks}
use Rattle.cfg_region.specs.Defaults.{DefaultRegions, default_tree, IsDefault}
use Rattle.cfg_region.specs.Environments.{Told}
use Rattle.cfg_region.specs.Metadata.{IsGot}
use Rattle.cfg_region.specs.Sources.{ByDefault, tree}

-- what is left by a get that ended, or by one that memory ended
pub got_leaves : {E B : Type 0} (A : Given → Type 0) (got : Given) (r : Result Told E) → (is_memory got ≡ false → A got) → (is_memory got ≡ true → B) → OnErr r (B ⊎ ((given : Given) × A given))
got_leaves A got (Ok told) h m = tt
got_leaves {B = B} A got (Err e) h m =
    elim (is_memory got) as (λ b. (b ≡ false → A got) → (b ≡ true → B) → B ⊎ ((given : Given) × A given)) [
      | true ↦ λ ends left. inl (left refl)
      | false ↦ λ ends left. inr (got, ends refl)
    ] h m

module _ {D : Type 0} {d : Ghosts D} where
  pub stays_by : (part : List Pair) (old new : Held D) → Grows d part old new → Stays d part old new
  stays_by part old new g = record { journal = g.journal; fits = g.fits; same = g.same; counted = g.counted }

  pub grows_here : (old : Held D) → Grows d [] old old
  grows_here old = record { journal = sym (append-nil old.journal); fits = tt; same = Same-refl _; counted = Counted-none _; stands = StandsOn-none (d.stands old.devices) }

  -- ---- instance metadata

  -- switched off
  pub off_asks : (disabled : Bool) (client : ClientRules) (kept : Option Token) (old : Held D) → disabled ≡ true → Asks d (region disabled client kept) old old (None, kept)
  unfolding region
  off_asks disabled client kept old off = subst (λ b. Asks d (region b client kept) old old (None, kept)) (sym off) (record { part = []; grows = grows_here old; reads = refl })

  ends_got : (client : ClientRules) (kept : Option Token) (error : Settled → Option ImdsError) (why : List Pair → Option ImdsError) (old new : Held D) (got : Given) (left : Option Token) (told : Told) →
      CallEnds d (get client kept region_path) error why old new (got, left) → region_in got ≡ told → Asks d (region false client kept) old new (told, left)
  unfolding region located
  ends_got client kept error why old new got left told e is = record {
    part = e.part;
    grows = e.grows;
    reads = subst (λ p. Reads (after (get client kept region_path) (λ out. Done (located out))) p (told, left)) (append-nil e.part)
        (reads_after (get client kept region_path) (λ out. Done (located out)) e.part [] (got, left) (told, left) e.reads (ap (λ t. (t, left)) is));
  }

  pub got_asks : (disabled : Bool) (client : ClientRules) (kept : Option Token) (error : Settled → Option ImdsError) (why : List Pair → Option ImdsError) (old new : Held D) (got : Given) (left : Option Token) {E : Type 0} (r : Result Told E) →
      disabled ≡ false → (is_memory got ≡ false → CallEnds d (get client kept region_path) error why old new (got, left)) → IfOk r (IsGot got) → IfOk r (λ told. Asks d (region disabled client kept) old new (told, left))
  got_asks disabled client kept error why old new got left (Ok told) on h is =
      subst (λ b. Asks d (region b client kept) old new (told, left)) (sym on) (ends_got client kept error why old new got left told (h is.0) is.1)
  got_asks disabled client kept error why old new got left (Err e) on h is = is

  begun_got : (client : ClientRules) (kept : Option Token) (old new : Held D) (part : List Pair) → Stays d part old new → Begun (get client kept region_path) part → CallBreaks d (region false client kept) old new
  unfolding region
  begun_got client kept old new part stays begun = record { part = part; stays = stays; begun = begun_first (get client kept region_path) (λ out. Done (located out)) part begun }

  pub got_breaks : (disabled : Bool) (client : ClientRules) (kept : Option Token) (error : Settled → Option ImdsError) (why : List Pair → Option ImdsError) (old new : Held D) (got : Given) (left : Option Token) {E : Type 0} (r : Result Told E) →
      disabled ≡ false → (is_memory got ≡ false → CallEnds d (get client kept region_path) error why old new (got, left)) → (is_memory got ≡ true → CallBreaks d (get client kept region_path) old new) → OnErr r (CallBreaks d (region disabled client kept) old new)
  got_breaks disabled client kept error why old new got left (Ok told) on h m = tt
  got_breaks disabled client kept error why old new got left (Err e) on h m =
      subst (λ b. CallBreaks d (region b client kept) old new) (sym on)
      (elim (is_memory got) as (λ b. (b ≡ false → CallEnds d (get client kept region_path) error why old new (got, left)) → (b ≡ true → CallBreaks d (get client kept region_path) old new) → CallBreaks d (region false client kept) old new) [
        | true ↦ λ ends breaks. let b = breaks refl in begun_got client kept old new b.part b.stays b.begun
        | false ↦ λ ends breaks. let e = ends refl in begun_got client kept old new e.part (stays_by e.part old new e.grows) (read_begun (get client kept region_path) e.part (got, left) e.reads)
      ] h m)

  -- nothing was asked yet
  pub nothing_asked : {R : Type 0} (asks : Inquiry R) (old : Held D) → CallBreaks d asks old old
  nothing_asked asks old = record { part = []; stays = stays_by [] old old (grows_here old); begun = begun_here asks }

  -- ---- a region for a configuration

  pub loaded : (conf held set : Configuration) (chain : DefaultRegions) (old new : Held D) (told : Told) (part : List Pair) →
      IsDefault conf chain → Grows d part old new → Reads (default_tree chain) part told → held ≡ chain.configuration → set ≡ record held { region = told } → RegionSet d None conf old new set
  unfolding tree
  loaded conf held set chain old new told part is_default grows reads kept is = record {
    source = ByDefault chain;
    asked = (chain, is_default, refl);
    part = part;
    grows = grows;
    region = told;
    reads = reads;
    is = is ∙ ap (λ c. let base : Configuration = c in record base { region = told }) (kept ∙ is_default.configuration);
  }

  pub load_breaks : (conf : Configuration) (chain : DefaultRegions) (old new : Held D) (part : List Pair) →
      IsDefault conf chain → Stays d part old new → Begun (default_tree chain) part → RegionBreaks d None conf old new
  unfolding tree
  load_breaks conf chain old new part is_default stays begun = inr (record {
    source = ByDefault chain;
    asked = (chain, is_default, refl);
    breaks = record { part = part; stays = stays; begun = begun };
  })
