-- The lines of outcomes.
use Rattle.std.specs.Prelude.{◌≡◌, ℕ, List, [], ◌∷◌, ◌++◌, Bool, is_ok, Some, IfSome, Ok, Err, codes}
use Rattle.std.specs.Str.{encode_utf8_all}
use Rattle.std.specs.Io.KnownBytes.{Appends}
use Rattle.serde_json.specs.Data.{Data, string}
use Rattle.serde_json.specs.Read.{read}
use Rattle.cfg_base.specs.Moment.{Moment}
use Rattle.cfg_types.specs.Classes.{class_of, class_name}
use Rattle.cfg_types.specs.Keys.{Keys}
use Rattle.cfg_types.specs.declared.errors.CredentialsError.{CredentialsError}
use Rattle.cfg_world.specs.Faults.{Rose}
use Rattle.cfg_world.specs.Fits.{Pair}
use Rattle.cfg_providers.specs.CustomSources.{Answer}
use Rattle.cfg_chain.specs.Members.{name_of}
use Rattle.cfg_chain.specs.Settings.{ChainSetting}
use Rattle.cfg_explain.specs.Reasons.{reasons_of}
use Rattle.cfg_explain.specs.declared.reasons.PassedOver.{PassedOver}
use Rattle.cfg_error_report.specs.CredentialsCauses.{causes_of}
use Rattle.cfg_error_report.specs.Lines.{Line, one_line}
use Rattle.cfg_lines.specs.Members.{object_with, text_value, whole, signed, list_value, has, may_have}
use Rattle.cfg_program.specs.Lines.{shown}
use Rattle.cfg_program.specs.Streams.{SinkSeen, GrowsByPrefix}
use Rattle.cfg_drive.specs.BrokenTexts.{cause_text, reason_text}
use Rattle.cfg_drive.specs.Breaks.{WritesPart}
use Rattle.cfg_drive.specs.Lines.{HasNoEnd}
use Rattle.cfg_drive.specs.declared.driven.Broken.{Broken}
use Rattle.cfg_drive.specs.declared.driven.Stopped.{Stopped}
use Rattle.cfg_drive.specs.declared.driven.Stopped.TheVariants as stopped

-- a moment: [seconds, nanoseconds]
unfoldable pub moment_value : Moment → Data
moment_value m = list_value (λ d. d) (signed m.seconds ∷ whole m.nanos ∷ [])

-- what an error comes of: [depth, text]
unfoldable pub cause_value : Line → Data
cause_value cause = list_value (λ d. d) (whole cause.depth ∷ string cause.text ∷ [])

unfoldable pub causes_value : CredentialsError → Data
causes_value e = list_value cause_value (causes_of e)

-- a member that was passed over, and what its error comes of
unfoldable pub passed_over_value : PassedOver → Data
passed_over_value p = object_with (
    has (codes "member") (string (encode_utf8_all (name_of p.member)))
    ∷ has (codes "causes") (causes_value p.error)
    ∷ [])

-- credentials, which members were passed over for them, and the line of the call
unfoldable pub credentials_value : List PassedOver → Keys → List ℕ → Data
credentials_value passed keys line = object_with (
    has (codes "outcome") (string (codes "credentials"))
    ∷ has (codes "provider") (text_value keys.provider_name)
    ∷ has (codes "id") (text_value keys.access_key_id)
    ∷ has (codes "secret") (text_value keys.secret_access_key)
    ∷ may_have (codes "token") text_value keys.session_token
    ∷ may_have (codes "account") text_value keys.account_id
    ∷ may_have (codes "expires") moment_value keys.expiry
    ∷ has (codes "passed_over") (list_value passed_over_value passed)
    ∷ has (codes "line") (string line)
    ∷ [])

-- an error, what it comes of, which members were passed over before it, and the line of the call
unfoldable pub error_value : List PassedOver → CredentialsError → List ℕ → Data
error_value passed e line = object_with (
    has (codes "outcome") (string (codes "error"))
    ∷ has (codes "class") (string (class_name (class_of e)))
    ∷ has (codes "text") (string (one_line (causes_of e)))
    ∷ has (codes "causes") (causes_value e)
    ∷ has (codes "passed_over") (list_value passed_over_value passed)
    ∷ has (codes "line") (string line)
    ∷ [])

abbrev pub answer_value : List PassedOver → Answer → List ℕ → Data
answer_value passed (Ok keys) line = credentials_value passed keys line
answer_value passed (Err e) line = error_value passed e line

-- what a call of a chain of this setting came to, with the members that it passed over, and with its line
abbrev pub outcome_value : ChainSetting → Answer → List ℕ → Data
outcome_value over out line = answer_value (reasons_of over out).passed_over out line

-- why a conversation broke off
unfoldable pub broken_value : List ℕ → Data
broken_value reason = object_with (has (codes "outcome") (string (codes "broken")) ∷ has (codes "reason") (string reason) ∷ [])

-- the line is this value as JSON, in one line, and its end
pub record IsJsonLine (value : Data) (line : List ℕ) : Type 0 where
  pub text : List ℕ
  pub ends : line ≡ text ++ codes "\n"
  pub one_line : HasNoEnd text
  pub reads : read text ≡ Some value

-- the line of what a call came to, which has the line that `resolve` writes for it, without its end
pub record IsOutcomeLine (over : ChainSetting) (out : Answer) (journal : List Pair) (line : List ℕ) : Type 0 where
  pub resolved : List ℕ
  pub shows : shown out journal ≡ resolved ++ codes "\n"
  pub tells : IsJsonLine (outcome_value over out resolved) line

-- the line of a conversation that broke off, with the number of the line there
pub record IsBrokenLine (broken : Broken) (line : List ℕ) : Type 0 where
  pub why : List ℕ
  pub says : IfSome (cause_text broken.cause) (λ text. why ≡ text)
  pub tells : IsJsonLine (broken_value (reason_text broken.line why)) line

-- the line of the outcome was written, and this is whether it is credentials
pub record WritesOutcome (over : ChainSetting) (sink : SinkSeen) (out : Answer) (journal : List Pair) (is_credentials : Bool) : Type 0 where
  pub line : List ℕ
  pub tells : IsOutcomeLine over out journal line
  pub credentials : is_credentials ≡ is_ok out
  pub written : Appends sink.written sink.written_after line

-- the sink failed in the line of the outcome
pub record FailsOutcome (over : ChainSetting) (sink : SinkSeen) (out : Answer) (journal : List Pair) : Type 0 where
  pub line : List ℕ
  pub tells : IsOutcomeLine over out journal line
  pub written : GrowsByPrefix sink.written sink.written_after line
  pub failed : Rose sink.faults sink.faults_after

abbrev pub StopsOutcome : ChainSetting → SinkSeen → Answer → List Pair → Stopped → Type 0
StopsOutcome over sink out journal (stopped.Broken broken) = ⊥
StopsOutcome over sink out journal stopped.Unwritten = FailsOutcome over sink out journal
StopsOutcome over sink out journal stopped.OutOfMemory = WritesPart sink (λ line. IsOutcomeLine over out journal line)
