-- The call of the default token chain.
use Rattle.std.specs.Prelude.{◌≡◌, ℕ, List, ◌++◌, Bool, Ok, Err, is_ok, codes}
use Rattle.cfg_types.specs.TokenClasses.{token_class, token_class_name}
use Rattle.cfg_world.specs.declared.script.DeviceLists.{DeviceLists}
use Rattle.cfg_world.specs.Fits.{Pair}
use Rattle.cfg_world.specs.Script.{Given, start}
use Rattle.cfg_profile.specs.Configuration.{Configuration}
use Rattle.cfg_error_report.specs.TokenCauses.{token_causes_of}
use Rattle.cfg_kept.specs.Kinds.{Value, States, no_states}
use Rattle.cfg_sso.specs.BearerTokens.{Bearer}
use Rattle.cfg_token_chain.specs.ProfileTokens.{default_token, DefaultTokenCause}
use Rattle.cfg_token_chain.specs.Provides.{IsTokenCall}
use Rattle.cfg_script.specs.Script.{Plain}
use Rattle.cfg_script.specs.Devices.{lists_of}
use Rattle.cfg_program.specs.declared.causes.Below.{Below}
use Rattle.cfg_program.specs.CauseLines.{with_below}
use Rattle.cfg_program.specs.Lines.{shown_expiry, kinds}
use Rattle.cfg_program.specs.Why.{asked_below}
use Rattle.cfg_program.specs.Calls.{configuration_of}

-- the first part of the line: when the token expires, or an error's class
abbrev pub shown_bearer : Bearer → List ℕ
shown_bearer (Ok token) = codes "token " ++ shown_expiry token.expiry
shown_bearer (Err e) = codes "error " ++ token_class_name (token_class e)

-- The line of a call: what it came to, and the questions that it asked.
unfoldable pub shown_token : Bearer → List Pair → List ℕ
shown_token out journal = shown_bearer out ++ (codes " " ++ (kinds journal ++ codes "\n"))

-- The line of a call, and below that of an error what it comes of, and what was asked, where these are asked for.
abbrev pub shown_token_as : Below → Bearer → List Pair → List ℕ
shown_token_as below out journal = with_below token_causes_of below out (shown_token out journal) ++ asked_below below out journal

-- One call of the default token chain over this configuration. Nothing is kept before it, and the answers
-- are those that the lists give. It has this line, with what stands below it.
pub record TellsToken (below : Below) (conf : Configuration) (lists : DeviceLists) (is_token : Bool) (line : List ℕ) : Type 0 where
  pub found : List Value
  pub journal : List Pair
  pub out : Bearer
  pub kept : States
  pub call : IsTokenCall (default_token conf) (DefaultTokenCause conf) no_states kept found journal out
  pub agrees : Given lists start journal
  pub token : is_token ≡ is_ok out
  pub shows : line ≡ shown_token_as below out journal

-- the call of the default token chain over what a script configures
abbrev pub TokenAnswers : Below → Plain → Bool → List ℕ → Type 0
TokenAnswers below p is_token line = TellsToken below (configuration_of p) (lists_of p) is_token line
