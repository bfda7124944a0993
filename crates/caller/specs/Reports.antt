-- What the program's lines tell.
use Rattle.std.specs.Prelude.{◌≡◌, ℕ, List, [], ◌++◌, codes}
use Rattle.cfg_world.specs.Fits.{Pair}
use Rattle.cfg_kept.specs.Kinds.{Value, States, no_states}
use Rattle.cfg_providers.specs.CustomSources.{Answer}
use Rattle.cfg_chain.specs.Settings.{ChainSetting, alone}
use Rattle.cfg_chain.specs.Provides.{IsCall}
use Rattle.cfg_chain.specs.Callers.{TellsWho}
use Rattle.caller.specs.FileAnswers.{AllAnswered, token_path, token_content}
use Rattle.caller.specs.Lines.{shown}
use Rattle.caller.specs.Configured.{configured}

-- One call was made, on these kept states, and left those; its line stands behind the text, and shows what it
-- came to and all that it asked. One member answered it over the last part of what was asked, and the members
-- before it were not loaded over the parts before; or none of the five was loaded.
pub record TellsCall (over : ChainSetting) (old new : States) (before later : List ℕ) : Type 0 where
  pub found : List Value
  pub journal : List Pair
  pub out : Answer
  pub call : IsCall over old new found journal out
  pub who : TellsWho over found [] journal out
  pub answers : AllAnswered token_path token_content journal
  pub line : later ≡ before ++ shown out journal

-- Three calls were made: two for the reader, the second on what the first one left kept, and one for the auditor,
-- with nothing kept before it.
pub record IsReport (lines : List ℕ) : Type 0 where
  pub kept : States
  pub kept_then : States
  pub kept_by_auditor : States
  pub line : List ℕ
  pub two_lines : List ℕ
  pub first : TellsCall (alone (configured (codes "reader"))) no_states kept [] line
  pub second : TellsCall (alone (configured (codes "reader"))) kept kept_then line two_lines
  pub third : TellsCall (alone (configured (codes "auditor"))) no_states kept_by_auditor two_lines lines
