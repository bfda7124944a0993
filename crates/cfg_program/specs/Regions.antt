-- The call of the default region chain.
use Rattle.std.specs.Prelude.{◌≡◌, ℕ, List, ◌++◌, Bool, Some, None, is_some, codes}
use Rattle.std.specs.Str.{encode_utf8_all}
use Rattle.cfg_world.specs.declared.script.DeviceLists.{DeviceLists}
use Rattle.cfg_world.specs.Fits.{Pair}
use Rattle.cfg_world.specs.Script.{Given, start}
use Rattle.cfg_region.specs.ChainParts.{AreParts}
use Rattle.cfg_region.specs.Defaults.{DefaultRegions, IsDefault, default_trees}
use Rattle.cfg_region.specs.Environments.{Told}
use Rattle.cfg_script.specs.Script.{Plain}
use Rattle.cfg_script.specs.Devices.{lists_of}
use Rattle.cfg_program.specs.Lines.{shown_text, kinds}
use Rattle.cfg_program.specs.Calls.{configured}

-- the name of a region, or `none`
abbrev pub shown_name : Told → List ℕ
shown_name None = codes "none"
shown_name (Some name) = shown_text (encode_utf8_all name)

-- `region`, the name and the questions that were asked
abbrev pub shown_region : Told → List Pair → List ℕ
shown_region region journal = codes "region " ++ (shown_name region ++ (codes " " ++ (kinds journal ++ codes "\n")))

-- One call of this chain: its journal is the parts of its sources, up to the first that gave a region, with
-- the answers that the lists give. It has this line.
pub record TellsRegion (chain : DefaultRegions) (lists : DeviceLists) (is_there : Bool) (line : List ℕ) : Type 0 where
  pub journal : List Pair
  pub region : Told
  pub parts : AreParts (default_trees chain) journal region
  pub agrees : Given lists start journal
  pub there : is_there ≡ is_some region
  pub shows : line ≡ shown_region region journal

-- the call of the default region chain over what a script configures, but for its region
pub record RegionAnswers (p : Plain) (is_there : Bool) (line : List ℕ) : Type 0 where
  pub chain : DefaultRegions
  pub is : IsDefault (configured p) chain
  pub tells : TellsRegion chain (lists_of p) is_there line
