-- A chain that is built asks one source for its region.
use Rattle.std.proofs.Common.{◌≡◌, [], ◌∷◌, ◌++◌, List, Option, Result, Ok, Err, codes, inr, refl, ap, ◌∙◌}
use Rattle.std.specs.Prelude.{IfOk, OnErr}
use Rattle.cfg_world.specs.declared.devices.Devices.{Ghosts}
use Rattle.cfg_world.specs.Held.{Held}
use Rattle.cfg_exchange.proofs.Checks.{read_begun}
use Rattle.cfg_profile.specs.Configuration.{Configuration}
use Rattle.cfg_region.specs.Calls.{RegionSet, RegionBreaks}
use Rattle.cfg_region.specs.Environments.{Told}
use Rattle.cfg_region.specs.Sources.{Source, tree}
use Rattle.cfg_region.proofs.Loads.{stays_by}
use Rattle.cfg_token_chain.specs.Builds.{IsBuilt, EndsByDefault}
use Rattle.cfg_token_chain.specs.ChainSetups.{configuration_alone}
use Rattle.cfg_token_chain.specs.Members.{NamedAsked, ByDefault}
use Rattle.cfg_token_chain.specs.Sessions.{profile_session, session_key}

-- what a configuration needs does not depend on its region
same_key : (conf : Configuration) (region : Told) → session_key (record conf { region = region }) ≡ session_key conf
unfolding profile_session
same_key conf region = refl

pub key_set : {D : Type 0} {d : Ghosts D} (given : Option Source) (conf set : Configuration) (old new : Held D) → RegionSet d given conf old new set → session_key set ≡ session_key conf
key_set given conf set old new s = ap session_key s.is ∙ same_key conf s.region

-- a result that memory ran out gives, whatever it is
on_err : {K E P : Type 0} (r : Result K E) → P → OnErr r P
on_err (Ok k) p = tt
on_err (Err e) p = p

module _ {D : Type 0} {d : Ghosts D} where
  -- memory ran out behind the part
  pub set_breaks : {K E : Type 0} (given : Option Source) (conf set : Configuration) (old new : Held D) (r : Result K E) → RegionSet d given conf old new set → OnErr r (RegionBreaks d given conf old new)
  set_breaks given conf set old new r s = on_err r (inr (record {
    source = s.source;
    asked = s.asked;
    breaks = record {
      part = s.part;
      stays = stays_by s.part old new s.grows;
      begun = read_begun (tree s.source) s.part s.region s.reads;
    };
  }))

  -- behind the members of a chain
  pub ends_by : {K E : Type 0} (conf chain : Configuration) (before : List NamedAsked) (old new : Held D) (view : K → List NamedAsked) (r : Result K E) → IsBuilt d (configuration_alone conf) old new chain →
      IfOk r (λ k. view k ≡ before ++ (codes "DefaultProviderChain", ByDefault chain) ∷ []) → IfOk r (λ k. EndsByDefault d conf before (view k) old new)
  ends_by conf chain before old new view (Ok k) built are = record { chain = chain; built = built; are = are }
  ends_by conf chain before old new view (Err e) built are = tt
