-- The calls that are made over a local endpoint.
use Rattle.std.specs.Prelude.{◌≡◌, ◌≤◌, ℕ, List, [], ◌∷◌, length, take, drop, Bool, true, ◌&&◌, Option, Some, None, is_some, unwrap_or, codes, if◌then◌else◌}
use Rattle.cfg_base.specs.Moment.{Moment}
use Rattle.cfg_types.specs.declared.environment.EnvText.{EnvText}
use Rattle.cfg_types.specs.declared.environment.EnvText.TheVariants.{Text}
use Rattle.cfg_token.specs.DateTexts.{date_of}
use Rattle.cfg_kept.specs.Kinds.{States, no_states}
use Rattle.cfg_chain.specs.Settings.{ChainSetting, alone}
use Rattle.cfg_endpoint.specs.declared.fault.EndpointFault.{EndpointFault}
use Rattle.cfg_endpoint.specs.declared.fault.EndpointFault.TheVariants.{BadRole, BadExpiry, OutOfMemory}
use Rattle.cfg_endpoint.specs.declared.served.Served.{Served}
use Rattle.cfg_endpoint.specs.Calls.{container_address, GivesContainer, GivesMetadata}
use Rattle.cfg_endpoint.specs.Devices.{DevicesState, Keeps}
use Rattle.cfg_endpoint.specs.Endpoints.{EndpointState, forgotten}
use Rattle.cfg_endpoint.specs.Made.{is_asked_for, IsMade, new_endpoint}
use Rattle.cfg_endpoint.specs.Serves.{Serves, after_questions}
use Rattle.cfg_script.specs.declared.endpoint.EndpointMode.{EndpointMode}
use Rattle.cfg_script.specs.declared.endpoint.EndpointMode.TheVariants.{Container, Metadata}
use Rattle.cfg_script.specs.declared.endpoint.EndpointScript.{EndpointScript}
use Rattle.cfg_script.specs.Endpoints.{endpoint_of}
use Rattle.cfg_program.specs.declared.causes.Below.TheVariants.{Nothing}
use Rattle.cfg_program.specs.declared.lines.LineForm.TheVariants.{Call}
use Rattle.cfg_program.specs.declared.status.Status.{Status}
use Rattle.cfg_program.specs.declared.status.Status.TheVariants as status
use Rattle.cfg_program.specs.Why.{told_as}
use Rattle.cfg_program.specs.Calls.{Made, IsMade as IsCalled, InTurn, asked_by, lines_of, last_is_ok}
use Rattle.cfg_program.specs.Local.{local_configuration}

-- ---- the endpoint

-- the role of an endpoint for a container is never asked for
abbrev pub role_of : EndpointMode → List ℕ
role_of Container = codes "r"
role_of (Metadata role) = role

-- what the endpoint serves
abbrev pub served_of : EndpointScript → Served
served_of s = record { id = s.id; secret = s.secret; token = s.token; expires = s.expires }

-- the endpoint, before the first call
abbrev pub endpoint_at_first : EndpointScript → EndpointState
endpoint_at_first s = new_endpoint (role_of s.mode) (served_of s)

-- the endpoint is made: its role can be asked for, and the end of its credentials has a date
abbrev pub is_made : EndpointScript → Bool
is_made s = is_asked_for (role_of s.mode) && is_some (date_of s.expires)

abbrev pub if_made : Option EndpointScript → Option EndpointScript
if_made None = None
if_made (Some s) = if is_made s then Some s else None

-- what the bytes say of an endpoint that is made
abbrev pub made_endpoint_of : List ℕ → Option EndpointScript
made_endpoint_of bytes = if_made (endpoint_of bytes)

-- how a run ends of whose object no endpoint is made
abbrev pub end_of : EndpointFault → Status
end_of (BadRole role) = status.NoScript
end_of (BadExpiry moment) = status.NoScript
end_of OutOfMemory = status.OutOfMemory

-- ---- the chain

-- the variable that names a container's endpoint, or none
abbrev pub variables_for : EndpointMode → List (List ℕ × EnvText)
variables_for Container = (codes "AWS_CONTAINER_CREDENTIALS_FULL_URI", Text container_address) ∷ []
variables_for (Metadata role) = []

-- a chain of these variables, without sections, a region and sources of the caller's own
abbrev pub setting_for : EndpointMode → ChainSetting
setting_for mode = alone (local_configuration (variables_for mode))

-- ---- the calls

-- Devices over a new endpoint that is made, of which nothing was asked.
pub record StartsNew (d : DevicesState) : Type 0 where
  pub new : d.endpoint ≡ new_endpoint d.endpoint.role d.endpoint.served
  pub made : IsMade d.endpoint
  pub given : d.first_given ≡ d.endpoint.given
  pub first : d.first_place ≡ 0
  pub place : d.place ≡ 0

-- how many calls are made before the tokens are forgotten: all of them, where nothing is said
abbrev pub calls_before : EndpointScript → ℕ
calls_before s = unwrap_or s.forget_after s.calls

-- The answers to the first calls, which are so many, are those of the endpoint, one after the other, and the answers
-- to the others are those of the endpoint behind them with its tokens forgotten; the clock and all else answer by the
-- rules of devices over an endpoint.
pub record AnswersCalls (e : EndpointState) (clock : List Moment) (before : ℕ) (calls : List Made) : Type 0 where
  pub first : Serves e (asked_by (take before calls))
  pub others : Serves (forgotten (after_questions e (asked_by (take before calls)))) (asked_by (drop before calls))
  pub keeps : Keeps clock 0 (asked_by calls)

-- So many calls of a default chain of this setting over an endpoint that answers from this state, one after another,
-- and nothing is kept before the first. The tokens are forgotten behind the first calls, which are so many. The last
-- call has this outcome, and the calls have these lines.
pub record AnswersOverEndpoint (over : ChainSetting) (e : EndpointState) (clock : List Moment) (count before : ℕ) (is_credentials : Bool) (lines : List ℕ) : Type 0 where
  pub endpoint : IsMade e
  pub calls : List Made
  pub kept : States
  pub counted : length calls ≡ count
  pub made : InTurn (IsCalled over) no_states calls kept
  pub answers : AnswersCalls e clock before calls
  pub credentials : is_credentials ≡ last_is_ok calls
  pub shows : lines ≡ lines_of (told_as over (Call Nothing)) calls

-- the calls over the endpoint that an object says
abbrev pub EndpointAnswers : EndpointScript → Bool → List ℕ → Type 0
EndpointAnswers s is_credentials lines = AnswersOverEndpoint (setting_for s.mode) (endpoint_at_first s) s.clock s.calls (calls_before s) is_credentials lines

-- ---- what they give

-- a call gives what the endpoint serves
abbrev pub GivesServed : EndpointScript → EndpointMode → Made → Type 0
GivesServed s Container call = GivesContainer (served_of s) call.out
GivesServed s (Metadata role) call = GivesMetadata (served_of s) call.journal call.out

-- each of the calls gives that
abbrev pub EachGives : (Made → Type 0) → List Made → Type 0
EachGives Gives [] = Unit {0}
EachGives Gives (call ∷ calls) = Gives call × EachGives Gives calls

-- the tokens stay until the last call was made
abbrev pub ForgetsNothing : EndpointScript → Type 0
ForgetsNothing s = s.calls ≤ calls_before s

-- the last call gives credentials, and these are the lines of calls that each give what is served
pub record GiveServed (s : EndpointScript) (is_credentials : Bool) (lines : List ℕ) : Type 0 where
  pub calls : List Made
  pub counted : length calls ≡ s.calls
  pub give : EachGives (GivesServed s s.mode) calls
  pub credentials : is_credentials ≡ true
  pub shows : lines ≡ lines_of (told_as (setting_for s.mode) (Call Nothing)) calls
