-- Credentials by a web identity token: the contents of a file, which a service takes for a role's.
use Rattle.std.specs.Prelude.{ℕ, List, [], ◌∷◌, ◌++◌, Option, Some, None, option_and_then, Result, Ok, Err, codes}
use Rattle.std.specs.List.{last_or}
use Rattle.std.specs.Result.{result_err}
use Rattle.cfg_base.specs.Text.{characters}
use Rattle.cfg_base.specs.Gives.{◌>>=◌}
use Rattle.cfg_types.specs.Keys.{Keys}
use Rattle.cfg_types.specs.Environment.{Variables, variable, text_read}
use Rattle.cfg_types.specs.Replies.{sts_in}
use Rattle.cfg_types.specs.declared.credentials.AwsCredentialFeature.TheVariants.{CredentialsProfileStsWebIdToken}
use Rattle.cfg_types.specs.declared.environment.VarError.{VarError}
use Rattle.cfg_types.specs.declared.errors.CredentialsError.{CredentialsError}
use Rattle.cfg_types.specs.declared.errors.CredentialsError.TheVariants.{ProviderError, Unhandled}
use Rattle.cfg_types.specs.declared.errors.ProviderCause.TheVariants as cause
use Rattle.cfg_types.specs.declared.errors.UnhandledCause.TheVariants.{NotUtf8}
use Rattle.cfg_types.specs.declared.reply.FailKind.{FailKind}
use Rattle.cfg_types.specs.declared.reply.sts.StsReply.{StsReply}
use Rattle.cfg_types.specs.declared.request.sts.AssumeRoleWithWebIdentity.{AssumeRoleWithWebIdentity}
use Rattle.cfg_world.specs.declared.ask.Question.{Question}
use Rattle.cfg_world.specs.declared.ask.Question.TheVariants as question
use Rattle.cfg_world.specs.declared.ask.Answer.{Answer}
use Rattle.cfg_world.specs.declared.ask.Answer.TheVariants as answer
use Rattle.cfg_world.specs.declared.leaves.NotGranted.{NotGranted}
use Rattle.cfg_world.specs.declared.leaves.NotGranted.TheVariants.{Failed, Refused}
use Rattle.cfg_world.specs.Fits.{Pair}
use Rattle.cfg_world.specs.Inquiry.{Inquiry, Done, after}
use Rattle.cfg_world.specs.Leaves.{reading_file, assuming_by_web_identity, granted_of}
use Rattle.cfg_profile.specs.Configuration.{Configuration}
use Rattle.cfg_profile.specs.Settings.{settings_of}
use Rattle.cfg_providers.specs.declared.web_identity_token.WebIdentity.{WebIdentity}
use Rattle.cfg_providers.specs.declared.web_identity_token.StaticConfiguration.{StaticConfiguration}
use Rattle.cfg_providers.specs.declared.web_identity_token.SessionPolicies.{SessionPolicies}
use Rattle.cfg_providers.specs.EnvironmentKeys.{not_set}
use Rattle.cfg_providers.specs.SessionNames.{session_name}
use Rattle.cfg_providers.specs.Sts.{into_credentials}
use Rattle.cfg_json.specs.Reading.{utf8_of}

abbrev pub set_or_not : List ℕ → Option (List ℕ) → Result (List ℕ) CredentialsError
set_or_not name (Some text) = Ok text
set_or_not name None = Err (not_set name)

-- a variable that has to be set to a text
abbrev pub needed : List ℕ → Result (List ℕ) VarError → Result (List ℕ) CredentialsError
needed name value = set_or_not name (text_read value)

-- the web identity that the environment names, or which variable is missing for it
unfoldable pub identity_in : Variables → Result WebIdentity CredentialsError
identity_in env = do
  file ← needed (codes "AWS_WEB_IDENTITY_TOKEN_FILE") (variable env (codes "AWS_WEB_IDENTITY_TOKEN_FILE"))
  role ← needed (codes "AWS_ROLE_ARN") (variable env (codes "AWS_ROLE_ARN"))
  Ok (record { web_identity_token_file = file; role_arn = role; session_name = text_read (variable env (codes "AWS_ROLE_SESSION_NAME")) })

-- the given web identity, or else the environment's
abbrev pub identity_of : Variables → Option StaticConfiguration → Result WebIdentity CredentialsError
identity_of env (Some given) = Ok (record { web_identity_token_file = given.web_identity_token_file; role_arn = given.role_arn; session_name = Some given.session_name })
identity_of env None = identity_in env

abbrev pub or_not_utf8 : Option (List ℕ) → Result (List ℕ) CredentialsError
or_not_utf8 (Some text) = Ok (characters text)
or_not_utf8 None = Err (Unhandled NotUtf8)

-- the token that the file of this path holds, or why it holds none
unfoldable pub token_in : List ℕ → Result (List ℕ) FailKind → Result (List ℕ) CredentialsError
token_in file (Ok bytes) = or_not_utf8 (utf8_of bytes)
token_in file (Err kind) = Err (ProviderError (cause.File file))

-- one reading of that file
unfoldable pub identity_token : List ℕ → Inquiry (Result (List ℕ) CredentialsError)
identity_token file = after (reading_file file) (λ contents. Done (token_in file contents))

-- a session that no policy limits
abbrev pub no_policies : SessionPolicies
no_policies = record { policy = None; policy_arns = None }

-- the request with this token, for a session of this name under these policies
abbrev pub request : Configuration → WebIdentity → SessionPolicies → List ℕ → List ℕ → AssumeRoleWithWebIdentity
request conf identity policies name token = record {
  role_arn = identity.role_arn;
  session_name = name;
  token = token;
  policy = policies.policy;
  policy_arns = policies.policy_arns;
  settings = settings_of conf;
}

-- that request, sent once
abbrev pub assuming : Configuration → WebIdentity → SessionPolicies → List ℕ → List ℕ → Inquiry (Result StsReply NotGranted)
assuming conf identity policies name token = assuming_by_web_identity (request conf identity policies name token)

-- credentials by web identity, marked as such
abbrev pub by_web_identity : Keys → Keys
by_web_identity keys = record keys { features = keys.features ++ CredentialsProfileStsWebIdToken ∷ [] }

abbrev pub marked : Result Keys CredentialsError → Result Keys CredentialsError
marked (Ok keys) = Ok (by_web_identity keys)
marked (Err e) = Err e

-- what a reply gives, or why it gives nothing
unfoldable pub identity_answer : Result StsReply NotGranted → Result Keys CredentialsError
identity_answer (Err (Failed kind)) = Err (ProviderError (cause.Sent kind))
identity_answer (Err (Refused refusal)) = Err (ProviderError (cause.Refused refusal))
identity_answer (Ok reply) = marked (into_credentials reply (codes "WebIdentityToken"))

-- one request with the token, where there is one
unfoldable pub with_token : Configuration → WebIdentity → SessionPolicies → List ℕ → Result (List ℕ) CredentialsError → Inquiry (Result Keys CredentialsError)
with_token conf identity policies name (Err e) = Done (Err e)
with_token conf identity policies name (Ok token) = after (assuming conf identity policies name token) (λ given. Done (identity_answer given))

-- the file, then one request, for a session of this name
abbrev pub with_name : Configuration → WebIdentity → SessionPolicies → List ℕ → Inquiry (Result Keys CredentialsError)
with_name conf identity policies name = after (identity_token identity.web_identity_token_file) (with_token conf identity policies name)

-- A name for the session, then the file, then one request. A name that is made begins with base.
unfoldable pub assumes_by_web_identity : Configuration → List ℕ → WebIdentity → SessionPolicies → Inquiry (Result Keys CredentialsError)
assumes_by_web_identity conf base identity policies = after (session_name base identity.session_name) (with_name conf identity policies)

-- what is asked for a web identity, and nothing where there is none
abbrev pub by_identity : Configuration → SessionPolicies → Result WebIdentity CredentialsError → Inquiry (Result Keys CredentialsError)
by_identity conf policies (Err e) = Done (Err e)
by_identity conf policies (Ok identity) = assumes_by_web_identity conf (codes "web-identity-token") identity policies

-- the given web identity, or else that of the environment, under these policies
unfoldable pub web_identity : Configuration → Option StaticConfiguration → SessionPolicies → Inquiry (Result Keys CredentialsError)
web_identity conf given policies = by_identity conf policies (identity_of conf.environment given)

-- Why the contents of a file are no token.
abbrev pub why_text : Option (List ℕ) → Option CredentialsError
why_text (Some text) = None
why_text None = Some (Unhandled NotUtf8)

-- Why a file gives no token: it could not be read, or it is not UTF-8.
abbrev pub why_file : List ℕ → Answer → Option CredentialsError
why_file file (answer.Contents bytes) = why_text (utf8_of bytes)
why_file file _ = Some (ProviderError (cause.File file))

-- Why a request was not granted, or its reply gives no credentials.
abbrev pub why_granted : Result StsReply NotGranted → Option CredentialsError
why_granted (Err (Failed kind)) = Some (ProviderError (cause.Sent kind))
why_granted (Err (Refused refusal)) = Some (ProviderError (cause.Refused refusal))
why_granted (Ok reply) = result_err (into_credentials reply (codes "WebIdentityToken"))

-- why there are no credentials behind an answer
abbrev pub why_answer : Question → Answer → Option CredentialsError
why_answer (question.Read file) given = why_file file given
why_answer (question.Send request) given = why_granted (granted_of sts_in given)
why_answer _ given = None

abbrev pub why_entry : Pair → Option CredentialsError
why_entry entry = why_answer entry.0 entry.1

-- The error of web identity: a variable that is missing, or else what the last entry of the part shows.
abbrev pub why_identity : Result WebIdentity CredentialsError → List Pair → Option CredentialsError
why_identity (Err e) part = Some e
why_identity (Ok identity) part = option_and_then why_entry (last_or None part)

abbrev pub why_web_identity : Configuration → Option StaticConfiguration → List Pair → Option CredentialsError
why_web_identity conf given part = why_identity (identity_of conf.environment given) part
