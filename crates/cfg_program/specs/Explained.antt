-- The call of a script, with the member of the chain that asked each of its questions.
use Rattle.std.specs.Prelude.{◌≡◌, ℕ, ◌+◌, List, [], ◌∷◌, ◌++◌, length, Bool, codes, is_ok}
use Rattle.std.specs.Fmt.{decimal}
use Rattle.std.specs.Str.{encode_utf8_all}
use Rattle.cfg_world.specs.declared.script.DeviceLists.{DeviceLists}
use Rattle.cfg_world.specs.Fits.{Pair}
use Rattle.cfg_world.specs.Script.{Given, start}
use Rattle.cfg_kept.specs.Kinds.{no_states}
use Rattle.cfg_providers.specs.CustomSources.{Answer, NamedAnswer}
use Rattle.cfg_chain.specs.Settings.{ChainSetting, with_sources}
use Rattle.cfg_explain.specs.Kinds.{kind_of}
use Rattle.cfg_explain.specs.Owners.{AreOwners}
use Rattle.cfg_script.specs.Script.{Plain}
use Rattle.cfg_script.specs.Devices.{lists_of}
use Rattle.cfg_program.specs.Calls.{Made, IsMade, configuration_of}
use Rattle.cfg_program.specs.Lines.{shown}

-- `entry`, its number, the kind of its question, and the name of the member that asked it
abbrev pub entry_line : ℕ → Pair → List ℕ → List ℕ
entry_line n e member = codes "entry " ++ (decimal n ++ (codes " " ++ (kind_of e.0 ++ (codes " " ++ (encode_utf8_all member ++ codes "\n")))))

-- a line for each entry, the first of which has this number
abbrev pub entry_lines : ℕ → List Pair → List (List ℕ) → List ℕ
entry_lines n [] members = []
entry_lines n (e ∷ journal) [] = []
entry_lines n (e ∷ journal) (member ∷ members) = entry_line n e member ++ entry_lines (n + 1) journal members

-- Each entry of a call that finds nothing kept has its member's name.
pub record AreMembers (over : ChainSetting) (journal : List Pair) (members : List (List ℕ)) : Type 0 where
  pub counted : length members ≡ length journal
  pub owned : AreOwners over no_states journal members

-- A line tells of each entry which member asked, and behind these comes the line of what the call came to.
pub record IsExplained (over : ChainSetting) (journal : List Pair) (out : Answer) (is_credentials : Bool) (lines : List ℕ) : Type 0 where
  pub members : List (List ℕ)
  pub asked : AreMembers over journal members
  pub credentials : is_credentials ≡ is_ok out
  pub shows : lines ≡ entry_lines 1 journal members ++ shown out journal

-- One call of a default chain of this setting was made, and is explained. Nothing was kept before it, and its answers
-- are those that the lists give.
pub record Explains (over : ChainSetting) (lists : DeviceLists) (is_credentials : Bool) (lines : List ℕ) : Type 0 where
  pub call : Made
  pub made : IsMade over no_states call
  pub agrees : Given lists start call.journal
  pub told : IsExplained over call.journal call.out is_credentials lines

-- the call of a script, explained, with these sources of the caller's own
abbrev pub ExplainAnswers : List NamedAnswer → Plain → Bool → List ℕ → Type 0
ExplainAnswers sources p is_credentials lines = Explains (with_sources (configuration_of p) sources) (lists_of p) is_credentials lines
