-- What a build sends, and a build that stopped.
use Rattle.std.proofs.Common.{◌≡◌, ℕ, List, [], ◌++◌, Option, Some, None, Result, Ok, Err, OnErr, option_map, refl, sym, ap, ◌∙◌, subst, inl, inr}
use Rattle.cfg_world.specs.declared.devices.Devices.{Ghosts}
use Rattle.cfg_world.specs.Fits.{Pair}
use Rattle.cfg_world.specs.Grows.{Grows, Stays}
use Rattle.cfg_world.specs.Held.{Held}
use Rattle.cfg_world.specs.Inquiry.{Reads, Begun}
use Rattle.cfg_world.proofs.Inquiries.{begun_first, begun_after}
use Rattle.cfg_exchange.proofs.Checks.{read_begun}
use Rattle.cfg_profile.specs.Configuration.{Configuration}
use Rattle.cfg_region.specs.Calls.{RegionSet, RegionBreaks}
use Rattle.cfg_region.specs.Sources.{Given, tree}
use Rattle.cfg_chain.proofs.WorldSteps.{grows_here, grows_then, stays_here, stays_then, stays_still}
use Rattle.cfg_assume_role.specs.declared.call.RoleCall.{RoleCall}
use Rattle.cfg_assume_role.specs.Setups.{RoleSetup, configured, call_by, naming, own_region, Builds, BuildBegun, BuildStops}

pub on_err : {A E : Type 0} {P : Type 0} (r : Result A E) → P → OnErr r P
on_err (Ok x) p = tt
on_err (Err e) p = p

-- ---- the region

-- a configuration's own region, where it has one
own_region_set : {D : Type 0} {d : Ghosts D} (conf : Configuration) (region : List ℕ) (old : Held D) → conf.region ≡ Some region → RegionSet d (own_region conf) conf old old conf
unfolding tree
own_region_set {d = d} conf region old own =
    subst (λ given. RegionSet d (option_map (λ r. Given (Some r)) given) conf old old conf) (sym own)
    (record { source = Given (Some region); asked = refl; part = []; grows = grows_here old; region = Some region; reads = refl; is = ap (λ r. let base : Configuration = conf in record base { region = r }) own })

pub has_region : {D : Type 0} {d : Ghosts D} {T : Type 0} (conf : Configuration) (held : Option T) (name : T → List ℕ) (region : T) (old : Held D) → option_map name held ≡ conf.region → held ≡ Some region → RegionSet d (own_region conf) conf old old conf
has_region conf held name region old own is = own_region_set conf (name region) old (sym own ∙ ap (option_map name) is)

-- it has none, and that of its default chain is set
pub no_region : {T : Type 0} (conf : Configuration) (held : Option T) (name : T → List ℕ) → option_map name held ≡ conf.region → held ≡ None → None ≡ own_region conf
no_region conf held name own is = ap (option_map (λ r. Given (Some r))) (ap (option_map name) (sym is) ∙ own)

-- ---- the whole

module _ {D : Type 0} {d : Ghosts D} where
  built_by : (s : RoleSetup) (conf set : Configuration) (before mid later : Held D) (name : List ℕ) (part : List Pair) → conf ≡ configured s →
      RegionSet d (own_region conf) conf before mid set → Grows d part mid later → Reads (naming s) part name → Builds d s before later (call_by s set name)
  built_by s conf set before mid later name part is region grows reads =
      let r = subst (λ k. RegionSet d (own_region k) k before mid set) is region in
      record {
        source = r.source;
        asked = r.asked;
        region_part = r.part;
        name_part = part;
        grows = grows_then r.grows grows;
        region = r.region;
        region_reads = r.reads;
        name = name;
        name_reads = reads;
        is_call = ap (λ k. call_by s k name) r.is;
      }

  -- the region is set and the name is made, and this is what is sent
  pub built : (s t : RoleSetup) → s ≡ t → (conf set : Configuration) (before mid later : Held D) (name : List ℕ) (part : List Pair) → conf ≡ configured s →
      RegionSet d (own_region conf) conf before mid set → Grows d part mid later → Reads (naming s) part name → Builds d t before later (call_by s set name)
  built s t same conf set before mid later name part is region grows reads =
      subst (λ u. Builds d u before later (call_by s set name)) same (built_by s conf set before mid later name part is region grows reads)

  begun_by : (s : RoleSetup) (conf set : Configuration) (before mid later : Held D) (part : List Pair) → conf ≡ configured s →
      RegionSet d (own_region conf) conf before mid set → Stays d part mid later → Begun (naming s) part → BuildBegun d s before later
  begun_by s conf set before mid later part is region stays begun =
      let r = subst (λ k. RegionSet d (own_region k) k before mid set) is region in
      record {
        source = r.source;
        asked = r.asked;
        part = r.part ++ part;
        stays = stays_then r.grows stays;
        begun = begun_after (tree r.source) (λ region. naming s) r.part part r.region r.reads begun;
      }

  -- memory ran out behind the region
  pub stopped : (s t : RoleSetup) → s ≡ t → (conf set : Configuration) (before mid later : Held D) (part : List Pair) → conf ≡ configured s →
      RegionSet d (own_region conf) conf before mid set → Stays d part mid later → Begun (naming s) part → BuildStops d t before later
  stopped s t same conf set before mid later part is region stays begun =
      subst (λ u. BuildStops d u before later) same (inr (begun_by s conf set before mid later part is region stays begun))

  stops_by : (s : RoleSetup) (before later : Held D) → RegionBreaks d (own_region (configured s)) (configured s) before later → BuildStops d s before later
  stops_by s before later (inl same) = inl same
  stops_by s before later (inr b) = inr (record {
    source = b.source;
    asked = b.asked;
    part = b.breaks.part;
    stays = b.breaks.stays;
    begun = begun_first (tree b.source) (λ region. naming s) b.breaks.part b.breaks.begun;
  })

  -- and over the region
  pub stops_in_region : (s t : RoleSetup) → s ≡ t → (conf : Configuration) (before later : Held D) → conf ≡ configured s → RegionBreaks d (own_region conf) conf before later → BuildStops d t before later
  stops_in_region s t same conf before later is breaks =
      subst (λ u. BuildStops d u before later) same (stops_by s before later (subst (λ k. RegionBreaks d (own_region k) k before later) is breaks))

  -- ---- and then the chain over it

  pub stops_still : (s : RoleSetup) (before later : Held D) (call : RoleCall) → Builds d s before later call → BuildStops d s before later
  stops_still s before later call b = inr (record {
    source = b.source;
    asked = b.asked;
    part = b.region_part ++ b.name_part;
    stays = stays_still b.grows (stays_here later);
    begun = begun_after (tree b.source) (λ region. naming s) b.region_part b.name_part b.region b.region_reads (read_begun (naming s) b.name_part b.name b.name_reads);
  })
