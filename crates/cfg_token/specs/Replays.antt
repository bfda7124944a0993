-- Sections over receipts that are there already.
use Rattle.std.specs.Prelude.{◌≡◌, List, Bool, cond, Option, Some, None, Result}
use Rattle.cfg_types.specs.Environment.{Variables}
use Rattle.cfg_types.specs.declared.settings.CallSettings.{CallSettings}
use Rattle.cfg_world.specs.declared.ask.Question.{Question}
use Rattle.cfg_world.specs.Fits.{Pair}
use Rattle.cfg_world.specs.Inquiry.{Inquiry, Reads}
use Rattle.cfg_world.specs.Replayed.{IsNext}
use Rattle.cfg_token.specs.declared.token_key.TokenKey.{TokenKey}
use Rattle.cfg_token.specs.declared.sections.Sectioned.{Sectioned}
use Rattle.cfg_token.specs.Rules.{Rules}
use Rattle.cfg_token.specs.Sections.{answer_of}
use Rattle.cfg_token.specs.Histories.{History, with_section}
use Rattle.cfg_token.specs.SectionCalls.{section_on}

-- The receipts are a whole journal of the inquiry.
abbrev pub IsWhole : {R : Type 0} → Inquiry R → List Pair → Type 0
IsWhole {R} p receipts = (out : R) × Reads p receipts out

-- A section of which these receipts are the part. A finished load added its record, with these receipts.
pub record Finished {T E : Type 0} (t : Rules T E) (key : TokenKey) (env : Variables) (settings : CallSettings) (receipts : List Pair) (before later : History T E) (answer : Result T E) : Type 0 where
  pub made : Sectioned T E
  pub answers : answer ≡ answer_of made
  pub reads : Reads (section_on t key before env settings) receipts made
  pub history : later ≡ with_section before receipts made

-- the question, where it is the one that was left open last
abbrev pub open_if : Bool → Option Question → Option Question
open_if is_open asked = cond is_open asked None

-- the next entry does not answer the question that was left open
abbrev pub IsLeftOpen : List Pair → Option Question → Type 0
IsLeftOpen left None = Unit {0}
IsLeftOpen left (Some asked) = IsNext left asked → ⊥
