-- Questions as JSON values.
use Rattle.std.specs.Prelude.{ℕ, List, [], ◌∷◌, codes, None}
use Rattle.serde_json.specs.Data.{Data, boolean, string}
use Rattle.cfg_types.specs.Keys.{Keys}
use Rattle.cfg_types.specs.declared.settings.Timeouts.{Timeouts}
use Rattle.cfg_types.specs.declared.settings.CallSettings.{CallSettings}
use Rattle.cfg_types.specs.declared.request.Request.{Request}
use Rattle.cfg_types.specs.declared.request.Request.TheVariants as request
use Rattle.cfg_types.specs.declared.request.http.Http.{Http}
use Rattle.cfg_types.specs.declared.request.http.MetadataToken.{MetadataToken}
use Rattle.cfg_types.specs.declared.request.http.MetadataGet.{MetadataGet}
use Rattle.cfg_types.specs.declared.request.sts.Tag.{Tag}
use Rattle.cfg_types.specs.declared.request.sts.AssumeRole.{AssumeRole}
use Rattle.cfg_types.specs.declared.request.sts.AssumeRoleWithWebIdentity.{AssumeRoleWithWebIdentity}
use Rattle.cfg_types.specs.declared.request.sso.GetRoleCredentials.{GetRoleCredentials}
use Rattle.cfg_types.specs.declared.request.sso.CreateToken.{CreateToken}
use Rattle.cfg_types.specs.declared.request.sign_in.CreateOAuth2Token.{CreateOAuth2Token}
use Rattle.cfg_world.specs.declared.ask.Question.{Question}
use Rattle.cfg_world.specs.declared.ask.Question.TheVariants as question
use Rattle.cfg_lines.specs.Members.{Row, object_with, text_value, whole, signed, content_value, list_value, has, may_have}

-- ---- how services are called

-- limits of time, in milliseconds
unfoldable pub timeouts_value : Timeouts → Data
timeouts_value limits = object_with (
    may_have (codes "connect_ms") whole limits.connect_ms
    ∷ may_have (codes "read_ms") whole limits.read_ms
    ∷ may_have (codes "operation_ms") whole limits.operation_ms
    ∷ may_have (codes "attempt_ms") whole limits.attempt_ms
    ∷ [])

unfoldable pub settings_value : CallSettings → Data
settings_value settings = object_with (
    may_have (codes "region") text_value settings.region
    ∷ may_have (codes "use_fips") boolean settings.use_fips
    ∷ may_have (codes "use_dual_stack") boolean settings.use_dual_stack
    ∷ has (codes "max_attempts") (whole settings.max_attempts)
    ∷ has (codes "timeouts") (timeouts_value settings.timeouts)
    ∷ [])

-- the keys that sign a call, and nothing else that is known of them
unfoldable pub signer_value : Keys → Data
signer_value keys = object_with (
    has (codes "id") (text_value keys.access_key_id)
    ∷ has (codes "secret") (text_value keys.secret_access_key)
    ∷ may_have (codes "token") text_value keys.session_token
    ∷ [])

-- a tag of a session: [key, value]
unfoldable pub tag_value : Tag → Data
tag_value tag = list_value text_value (tag.key ∷ tag.value ∷ [])

-- ---- questions, a kind each

-- a question of this kind
abbrev pub asking : List ℕ → List Row → Data
asking kind rows = object_with (has (codes "ask") (string kind) ∷ rows)

abbrev pub http_value : Http → Data
http_value call = asking (codes "http") (
    has (codes "endpoint") (text_value call.endpoint)
    ∷ has (codes "path") (text_value call.path)
    ∷ may_have (codes "authorization") content_value call.authorization
    ∷ has (codes "timeouts") (timeouts_value call.timeouts)
    ∷ [])

abbrev pub metadata_token_value : MetadataToken → Data
metadata_token_value call = asking (codes "imds-token") (
    has (codes "endpoint") (text_value call.endpoint)
    ∷ has (codes "ttl_seconds") (whole call.ttl_seconds)
    ∷ has (codes "timeouts") (timeouts_value call.timeouts)
    ∷ [])

abbrev pub metadata_get_value : MetadataGet → Data
metadata_get_value call = asking (codes "imds-get") (
    has (codes "endpoint") (text_value call.endpoint)
    ∷ has (codes "path") (text_value call.path)
    ∷ has (codes "token") (content_value call.token)
    ∷ has (codes "timeouts") (timeouts_value call.timeouts)
    ∷ [])

abbrev pub assume_role_value : AssumeRole → Data
assume_role_value call = asking (codes "assume-role") (
    has (codes "signer") (signer_value call.signer)
    ∷ has (codes "role_arn") (text_value call.role_arn)
    ∷ has (codes "session_name") (text_value call.session_name)
    ∷ may_have (codes "external_id") text_value call.external_id
    ∷ may_have (codes "policy") text_value call.policy
    ∷ may_have (codes "policy_arns") (list_value text_value) call.policy_arns
    ∷ may_have (codes "duration_seconds") signed call.duration_seconds
    ∷ may_have (codes "tags") (list_value tag_value) call.tags
    ∷ has (codes "settings") (settings_value call.settings)
    ∷ [])

abbrev pub web_identity_value : AssumeRoleWithWebIdentity → Data
web_identity_value call = asking (codes "web-identity") (
    has (codes "role_arn") (text_value call.role_arn)
    ∷ has (codes "session_name") (text_value call.session_name)
    ∷ has (codes "token") (text_value call.token)
    ∷ may_have (codes "policy") text_value call.policy
    ∷ may_have (codes "policy_arns") (list_value text_value) call.policy_arns
    ∷ has (codes "settings") (settings_value call.settings)
    ∷ [])

abbrev pub role_credentials_value : GetRoleCredentials → Data
role_credentials_value call = asking (codes "role-credentials") (
    has (codes "role_name") (text_value call.role_name)
    ∷ has (codes "account_id") (text_value call.account_id)
    ∷ has (codes "access_token") (text_value call.access_token)
    ∷ has (codes "settings") (settings_value call.settings)
    ∷ [])

abbrev pub create_token_value : CreateToken → Data
create_token_value call = asking (codes "create-token") (
    has (codes "client_id") (text_value call.client_id)
    ∷ has (codes "client_secret") (text_value call.client_secret)
    ∷ has (codes "refresh_token") (text_value call.refresh_token)
    ∷ has (codes "settings") (settings_value call.settings)
    ∷ [])

abbrev pub sign_in_value : CreateOAuth2Token → Data
sign_in_value call = asking (codes "sign-in") (
    has (codes "client_id") (text_value call.client_id)
    ∷ has (codes "refresh_token") (text_value call.refresh_token)
    ∷ has (codes "dpop_key") (text_value call.dpop_key)
    ∷ has (codes "settings") (settings_value call.settings)
    ∷ [])

-- a request, by the kind under which a script has its replies
abbrev pub request_value : Request → Data
request_value (request.Http call) = http_value call
request_value (request.MetadataToken call) = metadata_token_value call
request_value (request.MetadataGet call) = metadata_get_value call
request_value (request.AssumeRole call) = assume_role_value call
request_value (request.AssumeRoleWithWebIdentity call) = web_identity_value call
request_value (request.GetRoleCredentials call) = role_credentials_value call
request_value (request.CreateToken call) = create_token_value call
request_value (request.CreateOAuth2Token call) = sign_in_value call

-- a question
unfoldable pub question_value : Question → Data
question_value question.Now = asking (codes "now") []
question_value question.Jitter = asking (codes "jitter") []
question_value (question.Read path) = asking (codes "read") (has (codes "path") (text_value path) ∷ [])
question_value (question.Write path bytes) = asking (codes "write") (has (codes "path") (text_value path) ∷ has (codes "content") (content_value bytes) ∷ [])
question_value (question.Run command) = asking (codes "run") (has (codes "command") (text_value command) ∷ [])
question_value (question.LookUp host) = asking (codes "lookup") (has (codes "host") (text_value host) ∷ [])
question_value (question.Send request) = request_value request

-- ---- what a question's value leaves out

-- the keys alone
abbrev pub keys_alone : Keys → Keys
keys_alone keys = record {
  access_key_id = keys.access_key_id;
  secret_access_key = keys.secret_access_key;
  session_token = keys.session_token;
  expiry = None;
  account_id = None;
  provider_name = [];
  features = [];
}

abbrev pub request_told : Request → Request
request_told (request.AssumeRole call) = request.AssumeRole (record call { signer = keys_alone call.signer })
request_told request = request

-- the question as its value tells it: of the credentials that sign a call it has the keys alone
abbrev pub told : Question → Question
told (question.Send request) = question.Send (request_told request)
told asked = asked
