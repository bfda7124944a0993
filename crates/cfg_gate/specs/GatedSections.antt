-- What a section at a gate tells.
use Rattle.std.specs.Prelude.{◌≡◌, ℕ, ◌+◌, length, true, false, Option, IfSome, Result}
use Rattle.cfg_base.specs.Moment.{Moment}
use Rattle.cfg_types.specs.Environment.{Variables}
use Rattle.cfg_types.specs.declared.settings.CallSettings.{CallSettings}
use Rattle.cfg_world.specs.declared.asking.Asking.{Ghosts}
use Rattle.cfg_world.specs.Follows.{Ends, Breaks}
use Rattle.cfg_token.specs.declared.token_key.TokenKey.{TokenKey}
use Rattle.cfg_token.specs.declared.sections.Sectioned.{Sectioned}
use Rattle.cfg_token.specs.declared.sections.Sectioned.TheVariants.{Hit, Load}
use Rattle.cfg_token.specs.Rules.{Rules}
use Rattle.cfg_token.specs.Sections.{section, answer_of}
use Rattle.cfg_token.specs.Histories.{TokenLoad, History, IsHistory, IsTokenLoad, token_in, kept_in, last_in, load_in}
use Rattle.cfg_token.specs.SectionCalls.{is_memory}
use Rattle.cfg_gate.specs.declared.answer.GateError.{GateError}
use Rattle.cfg_gate.specs.GateErrors.{by_token}

-- how many loads a section finished: a hit none
abbrev pub loads_of : {T E : Type 0} → Sectioned T E → ℕ
loads_of (Hit token) = 0
loads_of (Load l) = 1

-- A section found loads, so many, of which these are the one that is kept and the last attempt. The load that is kept
-- gave a token by its own receipts.
pub record Finds {T E : Type 0} (t : Rules T E) (found : ℕ) (kept : Option (TokenLoad T E)) (last : Option Moment) : Type 0 where
  pub loads : History T E
  pub history : IsHistory t loads
  pub number : found ≡ length loads.records
  pub kept_is : kept ≡ load_in loads
  pub carried : IfSome kept (IsTokenLoad t)
  pub last_is : last ≡ last_in loads

-- It gave this answer, by the rules of the token's kind from what it found. Its caller has then seen the loads that
-- it found and its own.
pub record EndsTurn {A T E : Type 0} (t : Rules T E) (a : Ghosts A) (key : TokenKey) (env : Variables) (settings : CallSettings) (old new : A) (kept : Option (TokenLoad T E)) (last : Option Moment) (found seen : ℕ) (answer : Result T E) : Type 0 where
  pub finds : Finds t found kept last
  pub made : Sectioned T E
  pub answers : answer ≡ answer_of made
  pub ends : Ends a (section t key env settings (token_in kept) last) old new made
  pub sees : seen ≡ found + loads_of made

-- Memory ran out. The journal gained the beginning of what a section from the loads that were found asks, and its
-- caller has seen those loads.
pub record BreaksTurn {A T E : Type 0} (t : Rules T E) (a : Ghosts A) (key : TokenKey) (env : Variables) (settings : CallSettings) (old new : A) (found seen : ℕ) : Type 0 where
  pub loads : History T E
  pub history : IsHistory t loads
  pub number : found ≡ length loads.records
  pub breaks : Breaks a (section t key env settings (kept_in loads) (last_in loads)) old new
  pub sees : seen ≡ found

-- A section in its turn, that gave this answer.
pub record AnswersTurn {A T E : Type 0} (t : Rules T E) (a : Ghosts A) (key : TokenKey) (env : Variables) (settings : CallSettings) (old new : A) (kept : Option (TokenLoad T E)) (last : Option Moment) (found seen : ℕ) (answer : Result T E) : Type 0 where
  pub finished : is_memory t answer ≡ false → EndsTurn t a key env settings old new kept last found seen answer
  pub stopped : is_memory t answer ≡ true → BreaksTurn t a key env settings old new found seen

-- The same, as a gate answers it.
pub record IsTurn {A T E : Type 0} (t : Rules T E) (a : Ghosts A) (key : TokenKey) (env : Variables) (settings : CallSettings) (old new : A) (kept : Option (TokenLoad T E)) (last : Option Moment) (found seen : ℕ) (outcome : Result T (GateError T E)) : Type 0 where
  pub answer : Result T E
  pub outcome_is : outcome ≡ by_token answer
  pub turn : AnswersTurn t a key env settings old new kept last found seen answer
