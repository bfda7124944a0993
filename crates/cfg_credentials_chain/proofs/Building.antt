-- A default chain behind the members asks for its region once.
use Rattle.std.proofs.Common.{◌≡◌, List, [], ◌∷◌, ◌++◌, None, Result, Ok, Err, inr, codes, ap, ◌∙◌}
use Rattle.std.specs.Prelude.{IfOk, OnErr}
use Rattle.cfg_world.specs.declared.devices.Devices.{Ghosts}
use Rattle.cfg_world.specs.Held.{Held}
use Rattle.cfg_exchange.proofs.Checks.{read_begun}
use Rattle.cfg_profile.specs.Configuration.{Configuration}
use Rattle.cfg_region.specs.Calls.{RegionSet, RegionBreaks}
use Rattle.cfg_region.specs.Sources.{tree}
use Rattle.cfg_chain.specs.Settings.{ChainSetting, alone}
use Rattle.cfg_credentials_chain.specs.Builds.{EndsByDefault}
use Rattle.cfg_credentials_chain.specs.Members.{NamedAsked, ByDefault}

module _ {D : Type 0} {d : Ghosts D} (conf chain : Configuration) (old new : Held D) (set : RegionSet d None conf old new chain) where
  -- a part that is whole is a beginning
  set_breaks : RegionBreaks d None conf old new
  set_breaks = inr (record {
    source = set.source;
    asked = set.asked;
    breaks = record {
      part = set.part;
      stays = record { journal = set.grows.journal; fits = set.grows.fits; same = set.grows.same; counted = set.grows.counted };
      begun = read_begun (tree set.source) set.part set.region set.reads;
    };
  })

  pub breaks_behind : {K E : Type 0} (r : Result K E) → OnErr r (RegionBreaks d None conf old new)
  breaks_behind (Ok k) = tt
  breaks_behind (Err e) = set_breaks

  pub ends_by : {K E : Type 0} (view : K → List NamedAsked) (before : List NamedAsked) (over : ChainSetting) (r : Result K E) → over ≡ alone chain →
      IfOk r (λ k. view k ≡ before ++ (codes "DefaultProviderChain", ByDefault over) ∷ []) → IfOk r (λ k. EndsByDefault d conf before (view k) old new)
  ends_by view before over (Ok k) same are = record { chain = chain; set = set; are = are ∙ ap (λ o. before ++ (codes "DefaultProviderChain", ByDefault o) ∷ []) same }
  ends_by view before over (Err e) same h = h
