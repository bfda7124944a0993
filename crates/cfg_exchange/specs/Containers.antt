-- Credentials of a container, as the agents of Amazon ECS and EKS give them.
use Rattle.std.specs.Prelude.{◌≡◌, ◌⊎◌, ℕ, List, [], ◌∷◌, ◌-◌, Bool, Option, Some, None, option_map, Result, Ok, Err, codes, if◌then◌else◌}
use Rattle.std.specs.Str.{encode_utf8_all}
use Rattle.cfg_base.specs.Moment.{Moment}
use Rattle.cfg_types.specs.Keys.{Keys}
use Rattle.cfg_types.specs.Environment.{Variables, readable}
use Rattle.cfg_types.specs.declared.credentials.AwsCredentialFeature.TheVariants.{CredentialsHttp}
use Rattle.cfg_types.specs.declared.errors.CredentialsError.{CredentialsError}
use Rattle.cfg_types.specs.declared.errors.CredentialsError.TheVariants.{CredentialsNotLoaded, InvalidConfiguration, ProviderError, Unhandled}
use Rattle.cfg_types.specs.declared.errors.NotLoadedCause.TheVariants.{NotConfigured}
use Rattle.cfg_types.specs.declared.errors.ConfigCause.TheVariants.{AuthToken, RelativeUri, FullUri}
use Rattle.cfg_types.specs.declared.errors.ProviderCause.TheVariants.{File, Status, ErrorDocument}
use Rattle.cfg_types.specs.declared.errors.UnhandledCause.{UnhandledCause}
use Rattle.cfg_types.specs.declared.errors.UnhandledCause.TheVariants.{Sent}
use Rattle.cfg_types.specs.declared.request.Request.TheVariants as request
use Rattle.cfg_types.specs.declared.request.http.Http.{Http}
use Rattle.cfg_types.specs.declared.reply.FailKind.{FailKind}
use Rattle.cfg_types.specs.declared.reply.http.HttpReply.{HttpReply}
use Rattle.cfg_json.specs.declared.credentials.JsonCredentials.{JsonCredentials}
use Rattle.cfg_json.specs.declared.credentials.JsonCredentials.TheVariants as says
use Rattle.cfg_world.specs.declared.ask.Question.TheVariants.{Send}
use Rattle.cfg_world.specs.declared.ask.Answer.{Answer}
use Rattle.cfg_world.specs.declared.asking.Asking.{Ghosts}
use Rattle.cfg_world.specs.declared.asking.Stop.{Stop}
use Rattle.cfg_world.specs.declared.asking.Stop.TheVariants.{OutOfMemory}
use Rattle.cfg_world.specs.Fits.{Pair}
use Rattle.cfg_world.specs.Inquiry.{Inquiry, Done, after, ◌>>=◌}
use Rattle.cfg_world.specs.Follows.{Follows}
use Rattle.cfg_world.specs.Leaves.{reading_file, http_of}
use Rattle.cfg_exchange.specs.declared.container.ContainerSettings.{ContainerSettings}
use Rattle.cfg_exchange.specs.declared.container.ContainerUri.{ContainerUri}
use Rattle.cfg_exchange.specs.declared.container.ContainerUri.TheVariants as uri
use Rattle.cfg_exchange.specs.declared.full_uri.FullUri.{FullUri as FullUriNamed}
use Rattle.cfg_exchange.specs.declared.reading.ReplyKind.TheVariants.{Document}
use Rattle.cfg_exchange.specs.declared.target.Target.{Target}
use Rattle.cfg_exchange.specs.Attempts.{attempts}
use Rattle.cfg_exchange.specs.Classifiers.{credentials_repeats, is_repeated}
use Rattle.cfg_exchange.specs.Documents.{body_document}
use Rattle.cfg_exchange.specs.FullUris.{IsRelativeUri, IsFullUri}
use Rattle.cfg_exchange.specs.HeaderValues.{is_header_value}
use Rattle.cfg_exchange.specs.Readings.{is_success}
use Rattle.cfg_exchange.specs.Targets.{Checked, full_target}

abbrev pub Read : Type 0 → Type 0
Read A = Result A CredentialsError

-- ---- the token that is sent

abbrev pub token_file : Variables → Option (List ℕ)
token_file env = readable env (codes "AWS_CONTAINER_AUTHORIZATION_TOKEN_FILE")

abbrev pub token_text : Variables → Option (List ℕ)
token_text env = readable env (codes "AWS_CONTAINER_AUTHORIZATION_TOKEN")

-- a token has to be a header value
abbrev pub checked_token : List ℕ → Read (Option (List ℕ))
checked_token bytes = if is_header_value bytes then Ok (Some bytes) else Err (InvalidConfiguration AuthToken)

-- the token that a file holds
abbrev pub token_of_file : List ℕ → Result (List ℕ) FailKind → Read (Option (List ℕ))
token_of_file path (Ok bytes) = checked_token bytes
token_of_file path (Err kind) = Err (ProviderError (File path))

abbrev pub token_of_bytes : Option (List ℕ) → Read (Option (List ℕ))
token_of_bytes None = Ok None
token_of_bytes (Some bytes) = checked_token bytes

abbrev pub token_by : Option (List ℕ) → Option (List ℕ) → Inquiry (Read (Option (List ℕ)))
token_by (Some path) text = after (reading_file path) (λ held. Done (token_of_file path held))
token_by None text = Done (token_of_bytes (option_map encode_utf8_all text))

-- the token of the file that a variable names, else that of another variable, else none
unfoldable pub auth_token : Variables → Inquiry (Read (Option (List ℕ)))
auth_token env = token_by (token_file env) (token_text env)

-- ---- where they are asked for

abbrev pub relative_uri : List ℕ → Option Target → ContainerUri
relative_uri text None = uri.NoRelative text
relative_uri text (Some target) = uri.Relative target

-- what the bytes of a relative address name, beside its text
abbrev pub IsRelativeAt : List ℕ → List ℕ → ContainerUri → Type 0
IsRelativeAt bytes text named = (target : Option Target) × IsRelativeUri bytes target × (named ≡ relative_uri text target)

-- what the bytes of a full address name, beside its text
abbrev pub IsFullAt : List ℕ → List ℕ → ContainerUri → Type 0
IsFullAt bytes text named = (full : FullUriNamed) × IsFullUri bytes full × (named ≡ uri.Full text full)

abbrev pub IsUriBy : Option (List ℕ) → Option (List ℕ) → ContainerUri → Type 0
IsUriBy (Some text) full named = IsRelativeAt (encode_utf8_all text) text named
IsUriBy None (Some text) named = IsFullAt (encode_utf8_all text) text named
IsUriBy None None named = named ≡ uri.NotSet

-- the relative address where its variable can be read, else the full one, else none
abbrev pub IsContainerUri : Variables → ContainerUri → Type 0
IsContainerUri env named = IsUriBy (readable env (codes "AWS_CONTAINER_CREDENTIALS_RELATIVE_URI")) (readable env (codes "AWS_CONTAINER_CREDENTIALS_FULL_URI")) named

abbrev pub or_full_uri : List ℕ → Checked → Read Target
or_full_uri text (Ok target) = Ok target
or_full_uri text (Err e) = Err (InvalidConfiguration (FullUri e text))

-- the target, or why there is none
unfoldable pub container_target : Bool → ContainerUri → Inquiry (Read Target)
container_target dns uri.NotSet = Done (Err (CredentialsNotLoaded NotConfigured))
container_target dns (uri.Relative target) = Done (Ok target)
container_target dns (uri.NoRelative text) = Done (Err (InvalidConfiguration (RelativeUri text)))
container_target dns (uri.Full text named) = after (full_target dns named) (λ checked. Done (or_full_uri text checked))

-- ---- what is answered

-- credentials of a document
abbrev pub document_keys : List ℕ → List ℕ → List ℕ → Option (List ℕ) → Moment → Keys
document_keys id secret token account end = record {
  access_key_id = id;
  secret_access_key = secret;
  session_token = Some token;
  expiry = Some end;
  account_id = account;
  provider_name = codes "EcsContainer";
  features = CredentialsHttp ∷ [];
}

abbrev pub said_keys : Result JsonCredentials UnhandledCause → Read Keys
said_keys (Ok (says.RefreshableCredentials id secret token account end)) = Ok (document_keys id secret token account end)
said_keys (Ok (says.Error code message)) = Err (ProviderError (ErrorDocument code message))
said_keys (Err cause) = Err (Unhandled cause)

-- what a reply gives
unfoldable pub reply_keys : HttpReply → Read Keys
reply_keys reply = if is_success reply.status then said_keys (body_document reply.body) else Err (ProviderError (Status reply.status))

abbrev pub sent_keys : Result HttpReply FailKind → Read Keys
sent_keys (Ok reply) = reply_keys reply
sent_keys (Err kind) = Err (Unhandled (Sent kind))

-- what the answer to the last attempt gives
unfoldable pub answer_keys : Answer → Read Keys
answer_keys answer = sent_keys (http_of answer)

-- ---- the whole

-- the settings where no limit of time is set: two seconds to connect, and five to read
abbrev pub default_container : Bool → Bool → ContainerSettings
default_container dns sleep = record { dns = dns; sleep = sleep; connect_ms = 2000; read_ms = 5000 }

-- the request for the credentials
abbrev pub credentials_request : ContainerSettings → Option (List ℕ) → Target → Http
credentials_request settings token target = record {
  endpoint = target.endpoint;
  path = target.path;
  authorization = token;
  timeouts = record { connect_ms = Some settings.connect_ms; read_ms = Some settings.read_ms; operation_ms = None; attempt_ms = None };
}

-- Three attempts at most where it is known how to wait between them, and else one: the provider of aws-config
-- (`http_credential_provider.rs`) retries by `RetryConfig::standard()`, which has three, or not at all.
abbrev pub attempt_limit : Bool → ℕ
attempt_limit sleep = if sleep then 3 else 1

abbrev pub credentials_attempts : ContainerSettings → Http → Inquiry Pair
credentials_attempts settings call = attempts (attempt_limit settings.sleep - 1) (Send (request.Http call)) (is_repeated Document credentials_repeats)

-- the attempts of one request: the last answer decides
unfoldable pub fetched_keys : ContainerSettings → Option (List ℕ) → Target → Inquiry (Read Keys)
fetched_keys settings token target = after (credentials_attempts settings (credentials_request settings token target)) (λ last. Done (answer_keys last.1))

-- what follows the token: the target, and the attempts
abbrev pub with_token : ContainerSettings → ContainerUri → Option (List ℕ) → Inquiry (Read Keys)
with_token settings named token = container_target settings.dns named >>= fetched_keys settings token

-- a container's credentials: first the token, then the target, then the attempts
unfoldable pub container : Variables → ContainerSettings → ContainerUri → Inquiry (Read Keys)
container env settings named = auth_token env >>= with_token settings named

-- A call that follows what the variables name; or memory ran out before that was known, and nothing was
-- asked.
abbrev pub FollowsContainer : {A : Type 0} → Ghosts A → Variables → ContainerSettings → A → A → Result (Read Keys) Stop → Type 0
FollowsContainer a env settings old new out =
    ((out ≡ Err OutOfMemory) × (new ≡ old))
    ⊎ ((named : ContainerUri) × IsContainerUri env named × Follows a (container env settings named) old new out)
