-- A script has one line of its default region chain.
use Rattle.std.proofs.Common.{◌≡◌, ℕ, List, [], ◌++◌, Bool, Result, Ok, Err, IfOk, sym, ap, ◌∙◌, subst}
use Rattle.std.specs.Prelude.{is_some}
use Rattle.cfg_world.specs.declared.script.DeviceLists.{DeviceLists}
use Rattle.cfg_world.specs.Fits.{Pair}
use Rattle.cfg_world.specs.Script.{Script, Allows, Stands, Given, start}
use Rattle.cfg_world.specs.Asked.{Same, StandsOn}
use Rattle.cfg_profile.specs.Configuration.{Configuration}
use Rattle.cfg_region.specs.ChainParts.{AreParts}
use Rattle.cfg_region.specs.Defaults.{DefaultRegions, IsDefault, default_trees}
use Rattle.cfg_region.specs.DefaultSetups.{DefaultSetup, nothing_set, default_configured}
use Rattle.cfg_region.specs.Environments.{Told}
use Rattle.cfg_region.proofs.Chains.{one_region_told}
use Rattle.cfg_region.proofs.OneSource.{one_default}
use Rattle.cfg_script.specs.Script.{Plain}
use Rattle.cfg_script.specs.Devices.{lists_of}
use Rattle.cfg_program.specs.Calls.{configured}
use Rattle.cfg_program.specs.Regions.{shown_region, TellsRegion, RegionAnswers}

one_told : (chain : DefaultRegions) (lists : DeviceLists) (a b : Bool) (line other : List ℕ) → TellsRegion chain lists a line → TellsRegion chain lists b other → (a ≡ b) × (line ≡ other)
one_told chain lists a b line other x y =
    let same = one_region_told (default_trees chain) lists start x.journal y.journal x.region y.region x.parts y.parts x.agrees y.agrees in (
      x.there ∙ ap (λ (r : Told). is_some r) same.1 ∙ sym y.there,
      x.shows ∙ ap (λ (r : Told). shown_region r x.journal) same.1 ∙ ap (λ (j : List Pair). shown_region y.region j) same.0 ∙ sym y.shows,
    )

pub one_region : (p : Plain) (a b : Bool) (line other : List ℕ) → RegionAnswers p a line → RegionAnswers p b other → (a ≡ b) × (line ≡ other)
one_region p a b line other x y =
    one_told x.chain (lists_of p) a b line other x.tells (subst (λ (c : DefaultRegions). TellsRegion c (lists_of p) b other) (one_default (configured p) y.chain x.chain y.is x.is) y.tells)

-- over scripted devices that nothing was asked of the answers are those that the lists give
pub given_from_start : (was now : Script) (part : List Pair) → was.place ≡ start → Same (Allows was) (Allows now) → StandsOn (Stands was) (Stands now) part → Given was.lists start part
given_from_start was now part fresh same stands = same.from part (stands [] (tt, sym fresh)).0

-- one call over them
pub told_over : (chain : DefaultRegions) (was now : Script) (journal : List Pair) (region : Told) (there : Bool) (none lines : List ℕ) → was.place ≡ start → Same (Allows was) (Allows now) → StandsOn (Stands was) (Stands now) journal
    → AreParts (default_trees chain) journal region → there ≡ is_some region → none ≡ [] → lines ≡ none ++ shown_region region journal → TellsRegion chain was.lists there lines
told_over chain was now journal region there none lines fresh same stands parts is empty shows = record {
  journal = journal;
  region = region;
  parts = parts;
  agrees = given_from_start was now journal fresh same stands;
  there = is;
  shows = shows ∙ ap (λ (l : List ℕ). l ++ shown_region region journal) empty;
}

-- what the builder of the chain was given
pub default_is : (empty given : DefaultSetup) (config conf : Configuration) (chain : DefaultRegions) → empty ≡ nothing_set → given ≡ record empty { configuration = config } → config ≡ conf
    → IsDefault (default_configured given) chain → IsDefault conf chain
default_is empty given config conf chain n s c is =
    subst (λ (k : Configuration). IsDefault k chain) (ap default_configured (s ∙ ap (λ (x : DefaultSetup). let base : DefaultSetup = x in record base { configuration = config }) n) ∙ c) is

pub if_ok : {A E : Type 0} {P Q : A → Type 0} (r : Result A E) → ((a : A) → P a → Q a) → IfOk r P → IfOk r Q
if_ok (Ok a) f h = f a h
if_ok (Err e) f h = tt
