-- A question comes back from its value, as far as the value tells it.
use Rattle.std.proofs.Common.{◌≡◌, ℕ, List, bytes_eq, codes, IfSome, option_map, cond, sym, ap, ◌∙◌}
use Rattle.hex.specs.Hex.{IsBytes}
use Rattle.serde_json.specs.Data.{Data}
use Rattle.cfg_types.specs.declared.request.Request.{Request}
use Rattle.cfg_types.specs.declared.request.Request.TheVariants as request
use Rattle.cfg_types.specs.declared.request.http.Http.{Http}
use Rattle.cfg_types.specs.declared.request.http.MetadataToken.{MetadataToken}
use Rattle.cfg_types.specs.declared.request.http.MetadataGet.{MetadataGet}
use Rattle.cfg_types.specs.declared.request.sts.AssumeRole.{AssumeRole}
use Rattle.cfg_types.specs.declared.request.sts.AssumeRoleWithWebIdentity.{AssumeRoleWithWebIdentity}
use Rattle.cfg_types.specs.declared.request.sso.GetRoleCredentials.{GetRoleCredentials}
use Rattle.cfg_types.specs.declared.request.sso.CreateToken.{CreateToken}
use Rattle.cfg_types.specs.declared.request.sign_in.CreateOAuth2Token.{CreateOAuth2Token}
use Rattle.cfg_world.specs.declared.ask.Question.{Question}
use Rattle.cfg_world.specs.declared.ask.Question.TheVariants as question
use Rattle.cfg_lines.specs.Lines.{HasBytes, RequestHasBytes}
use Rattle.cfg_lines.specs.Members.{Row, object_with}
use Rattle.cfg_lines.specs.Questions.{question_value, request_value, http_value, metadata_token_value, metadata_get_value, assume_role_value, web_identity_value, role_credentials_value, create_token_value, sign_in_value, keys_alone, request_told, told}
use Rattle.cfg_lines.proofs.Members.{held_in, get-object_with}
use Rattle.cfg_lines.proofs.Readers.{Found, or_null, found_in, string_in, text_from, number_from, signed_from, content_from, list_from, tag_from, timeouts_from, settings_from, signer_from, read_text, read_content, read_told_text, read_told_signed, read_told_content, read_told_texts, read_told_tags, read_timeouts, read_settings, read_signer}

-- ---- what a reader finds at the names of a question

abbrev text_at : List ℕ → Found → List ℕ
text_at name f = text_from (or_null (f name))

http_in : Found → Http
http_in f = record {
  endpoint = text_at (codes "endpoint") f;
  path = text_at (codes "path") f;
  authorization = option_map content_from (f (codes "authorization"));
  timeouts = timeouts_from (or_null (f (codes "timeouts")));
}

metadata_token_in : Found → MetadataToken
metadata_token_in f = record {
  endpoint = text_at (codes "endpoint") f;
  ttl_seconds = number_from (or_null (f (codes "ttl_seconds")));
  timeouts = timeouts_from (or_null (f (codes "timeouts")));
}

metadata_get_in : Found → MetadataGet
metadata_get_in f = record {
  endpoint = text_at (codes "endpoint") f;
  path = text_at (codes "path") f;
  token = content_from (or_null (f (codes "token")));
  timeouts = timeouts_from (or_null (f (codes "timeouts")));
}

assume_role_in : Found → AssumeRole
assume_role_in f = record {
  signer = signer_from (or_null (f (codes "signer")));
  role_arn = text_at (codes "role_arn") f;
  session_name = text_at (codes "session_name") f;
  external_id = option_map text_from (f (codes "external_id"));
  policy = option_map text_from (f (codes "policy"));
  policy_arns = option_map (list_from text_from) (f (codes "policy_arns"));
  duration_seconds = option_map signed_from (f (codes "duration_seconds"));
  tags = option_map (list_from tag_from) (f (codes "tags"));
  settings = settings_from (or_null (f (codes "settings")));
}

web_identity_in : Found → AssumeRoleWithWebIdentity
web_identity_in f = record {
  role_arn = text_at (codes "role_arn") f;
  session_name = text_at (codes "session_name") f;
  token = text_at (codes "token") f;
  policy = option_map text_from (f (codes "policy"));
  policy_arns = option_map (list_from text_from) (f (codes "policy_arns"));
  settings = settings_from (or_null (f (codes "settings")));
}

role_credentials_in : Found → GetRoleCredentials
role_credentials_in f = record {
  role_name = text_at (codes "role_name") f;
  account_id = text_at (codes "account_id") f;
  access_token = text_at (codes "access_token") f;
  settings = settings_from (or_null (f (codes "settings")));
}

create_token_in : Found → CreateToken
create_token_in f = record {
  client_id = text_at (codes "client_id") f;
  client_secret = text_at (codes "client_secret") f;
  refresh_token = text_at (codes "refresh_token") f;
  settings = settings_from (or_null (f (codes "settings")));
}

sign_in_in : Found → CreateOAuth2Token
sign_in_in f = record {
  client_id = text_at (codes "client_id") f;
  refresh_token = text_at (codes "refresh_token") f;
  dpop_key = text_at (codes "dpop_key") f;
  settings = settings_from (or_null (f (codes "settings")));
}

-- the question of this kind
abbrev of_kind : List ℕ → Found → Question
of_kind kind f =
    cond (bytes_eq kind (codes "jitter")) question.Jitter
    (cond (bytes_eq kind (codes "read")) (question.Read (text_at (codes "path") f))
    (cond (bytes_eq kind (codes "write")) (question.Write (text_at (codes "path") f) (content_from (or_null (f (codes "content")))))
    (cond (bytes_eq kind (codes "run")) (question.Run (text_at (codes "command") f))
    (cond (bytes_eq kind (codes "lookup")) (question.LookUp (text_at (codes "host") f))
    (cond (bytes_eq kind (codes "http")) (question.Send (request.Http (http_in f)))
    (cond (bytes_eq kind (codes "imds-token")) (question.Send (request.MetadataToken (metadata_token_in f)))
    (cond (bytes_eq kind (codes "imds-get")) (question.Send (request.MetadataGet (metadata_get_in f)))
    (cond (bytes_eq kind (codes "assume-role")) (question.Send (request.AssumeRole (assume_role_in f)))
    (cond (bytes_eq kind (codes "web-identity")) (question.Send (request.AssumeRoleWithWebIdentity (web_identity_in f)))
    (cond (bytes_eq kind (codes "role-credentials")) (question.Send (request.GetRoleCredentials (role_credentials_in f)))
    (cond (bytes_eq kind (codes "create-token")) (question.Send (request.CreateToken (create_token_in f)))
    (cond (bytes_eq kind (codes "sign-in")) (question.Send (request.CreateOAuth2Token (sign_in_in f)))
    question.Now))))))))))))

abbrev question_at : Found → Question
question_at f = of_kind (string_in (or_null (f (codes "ask")))) f

question_in : Data → Question
question_in d = question_at (found_in d)

at_rows : (rows : List Row) → question_in (object_with rows) ≡ question_at (held_in rows)
unfolding question_in
at_rows rows = ap question_at (get-object_with rows)

-- ---- each kind, read back

read_http : (call : Http) → IfSome call.authorization IsBytes → question_in (http_value call) ≡ question.Send (request.Http call)
unfolding http_in
read_http call h = at_rows _ ∙ λ i. question.Send (request.Http (record {
  endpoint = read_text call.endpoint i;
  path = read_text call.path i;
  authorization = read_told_content call.authorization h i;
  timeouts = read_timeouts call.timeouts i;
}))

read_metadata_token : (call : MetadataToken) → question_in (metadata_token_value call) ≡ question.Send (request.MetadataToken call)
unfolding metadata_token_in
read_metadata_token call = at_rows _ ∙ λ i. question.Send (request.MetadataToken (record {
  endpoint = read_text call.endpoint i;
  ttl_seconds = call.ttl_seconds;
  timeouts = read_timeouts call.timeouts i;
}))

read_metadata_get : (call : MetadataGet) → IsBytes call.token → question_in (metadata_get_value call) ≡ question.Send (request.MetadataGet call)
unfolding metadata_get_in
read_metadata_get call h = at_rows _ ∙ λ i. question.Send (request.MetadataGet (record {
  endpoint = read_text call.endpoint i;
  path = read_text call.path i;
  token = read_content call.token h i;
  timeouts = read_timeouts call.timeouts i;
}))

read_assume_role : (call : AssumeRole) → question_in (assume_role_value call) ≡ question.Send (request.AssumeRole (record call { signer = keys_alone call.signer }))
unfolding assume_role_in
read_assume_role call = at_rows _ ∙ λ i. question.Send (request.AssumeRole (record {
  signer = read_signer call.signer i;
  role_arn = read_text call.role_arn i;
  session_name = read_text call.session_name i;
  external_id = read_told_text call.external_id i;
  policy = read_told_text call.policy i;
  policy_arns = read_told_texts call.policy_arns i;
  duration_seconds = read_told_signed call.duration_seconds i;
  tags = read_told_tags call.tags i;
  settings = read_settings call.settings i;
}))

read_web_identity : (call : AssumeRoleWithWebIdentity) → question_in (web_identity_value call) ≡ question.Send (request.AssumeRoleWithWebIdentity call)
unfolding web_identity_in
read_web_identity call = at_rows _ ∙ λ i. question.Send (request.AssumeRoleWithWebIdentity (record {
  role_arn = read_text call.role_arn i;
  session_name = read_text call.session_name i;
  token = read_text call.token i;
  policy = read_told_text call.policy i;
  policy_arns = read_told_texts call.policy_arns i;
  settings = read_settings call.settings i;
}))

read_role_credentials : (call : GetRoleCredentials) → question_in (role_credentials_value call) ≡ question.Send (request.GetRoleCredentials call)
unfolding role_credentials_in
read_role_credentials call = at_rows _ ∙ λ i. question.Send (request.GetRoleCredentials (record {
  role_name = read_text call.role_name i;
  account_id = read_text call.account_id i;
  access_token = read_text call.access_token i;
  settings = read_settings call.settings i;
}))

read_create_token : (call : CreateToken) → question_in (create_token_value call) ≡ question.Send (request.CreateToken call)
unfolding create_token_in
read_create_token call = at_rows _ ∙ λ i. question.Send (request.CreateToken (record {
  client_id = read_text call.client_id i;
  client_secret = read_text call.client_secret i;
  refresh_token = read_text call.refresh_token i;
  settings = read_settings call.settings i;
}))

read_sign_in : (call : CreateOAuth2Token) → question_in (sign_in_value call) ≡ question.Send (request.CreateOAuth2Token call)
unfolding sign_in_in
read_sign_in call = at_rows _ ∙ λ i. question.Send (request.CreateOAuth2Token (record {
  client_id = read_text call.client_id i;
  refresh_token = read_text call.refresh_token i;
  dpop_key = read_text call.dpop_key i;
  settings = read_settings call.settings i;
}))

read_request : (r : Request) → RequestHasBytes r → question_in (request_value r) ≡ question.Send (request_told r)
read_request (request.Http call) h = read_http call h
read_request (request.MetadataToken call) h = read_metadata_token call
read_request (request.MetadataGet call) h = read_metadata_get call h
read_request (request.AssumeRole call) h = read_assume_role call
read_request (request.AssumeRoleWithWebIdentity call) h = read_web_identity call
read_request (request.GetRoleCredentials call) h = read_role_credentials call
read_request (request.CreateToken call) h = read_create_token call
read_request (request.CreateOAuth2Token call) h = read_sign_in call

-- the question, as its value tells it
read_question : (asked : Question) → HasBytes asked → question_in (question_value asked) ≡ told asked
unfolding question_value
read_question question.Now h = at_rows _
read_question question.Jitter h = at_rows _
read_question (question.Read path) h = at_rows _ ∙ λ i. question.Read (read_text path i)
read_question (question.Write path bytes) h = at_rows _ ∙ λ i. question.Write (read_text path i) (read_content bytes h i)
read_question (question.Run command) h = at_rows _ ∙ λ i. question.Run (read_text command i)
read_question (question.LookUp host) h = at_rows _ ∙ λ i. question.LookUp (read_text host i)
read_question (question.Send r) h = read_request r h

-- two questions with one value are told alike
pub one_question : (one other : Question) → HasBytes one → HasBytes other → question_value one ≡ question_value other → told one ≡ told other
one_question one other h g same = sym (read_question one h) ∙ ap question_in same ∙ read_question other g
