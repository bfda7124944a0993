-- The values of questions are shallow, and have no floats.
use Rattle.std.proofs.Common.{◌≡◌, ℕ, ◌≤◌, List, [], ◌∷◌, map, Bool, true, false, codes, cond, ℤ, pos, negsuc, lit≤, refl, le_trans, arith}
use Rattle.std.specs.Str.{is_utf8}
use Rattle.hex.specs.Hex.{encode_lower}
use Rattle.serde_json.specs.Data.{Data, boolean, string, object, Items, no_members, member, depth, items_depth}
use Rattle.serde_json.specs.Read.{max_depth}
use Rattle.serde_json.specs.Written.{has_float, items_have_float}
use Rattle.cfg_types.specs.Keys.{Keys}
use Rattle.cfg_types.specs.declared.settings.Timeouts.{Timeouts}
use Rattle.cfg_types.specs.declared.settings.CallSettings.{CallSettings}
use Rattle.cfg_types.specs.declared.request.sts.Tag.{Tag}
use Rattle.cfg_types.specs.declared.request.Request.{Request}
use Rattle.cfg_types.specs.declared.request.Request.TheVariants as request
use Rattle.cfg_world.specs.declared.ask.Question.{Question}
use Rattle.cfg_world.specs.declared.ask.Question.TheVariants as question
use Rattle.cfg_lines.specs.Members.{text_value, whole, signed, content_value, list_value, items_of}
use Rattle.cfg_lines.specs.Questions.{timeouts_value, settings_value, signer_value, tag_value, request_value, question_value}
use Rattle.cfg_lines.proofs.Members.{IsPlain, ◌&◌, neither, object_plain, may_within}

text_within : (n : ℕ) (t : List ℕ) → IsPlain n (text_value t)
unfolding text_value
text_within n t = (omega arith, refl)

content_at : (b : Bool) (bytes : List ℕ) → IsPlain 2 (cond b (string bytes) (object (member (codes "hex") (string (encode_lower bytes)) no_members)))
content_at true bytes = (omega arith, refl)
content_at false bytes = (omega arith, refl)

content_within : (bytes : List ℕ) → IsPlain 2 (content_value bytes)
unfolding content_value
content_within bytes = content_at (is_utf8 bytes) bytes

abbrev ArePlainItems : ℕ → Items → Type 0
ArePlainItems n ds = (items_depth ds ≤ n) × (items_have_float ds ≡ false)

items_within : {A : Type 0} (of : A → Data) (n : ℕ) → ((a : A) → IsPlain n (of a)) → (xs : List A) → ArePlainItems n (items_of (map of xs))
items_within of n h [] = (omega arith, refl)
items_within of n h (x ∷ xs) =
    let rest = items_within of n h xs in
    let first : depth (of x) ≤ n = (h x).0 in
    let later : items_depth (items_of (map of xs)) ≤ n = rest.0 in
    (omega arith, neither (has_float (of x)) (items_have_float (items_of (map of xs))) (h x).1 rest.1)

texts_within : (xs : List (List ℕ)) → IsPlain 2 (list_value text_value xs)
texts_within xs =
    let all = items_within text_value 0 (text_within 0) xs in
    let below : items_depth (items_of (map text_value xs)) ≤ 0 = all.0 in
    (omega arith, all.1)

tag_within : (tag : Tag) → IsPlain 1 (tag_value tag)
unfolding tag_value
tag_within tag =
    let all = items_within text_value 0 (text_within 0) (tag.key ∷ tag.value ∷ []) in
    let below : items_depth (items_of (map text_value (tag.key ∷ tag.value ∷ []))) ≤ 0 = all.0 in
    (omega arith, all.1)

tags_within : (tags : List Tag) → IsPlain 2 (list_value tag_value tags)
tags_within tags =
    let all = items_within tag_value 1 tag_within tags in
    let below : items_depth (items_of (map tag_value tags)) ≤ 1 = all.0 in
    (omega arith, all.1)

number_within : (n k : ℕ) → IsPlain n (whole k)
number_within n k = (omega arith, refl)

signed_within : (n : ℕ) (z : ℤ) → IsPlain n (signed z)
signed_within n (pos k) = (omega arith, refl)
signed_within n (negsuc k) = (omega arith, refl)

truth_within : (n : ℕ) (b : Bool) → IsPlain n (boolean b)
truth_within n b = (omega arith, refl)

timeouts_within : (limits : Timeouts) → IsPlain 1 (timeouts_value limits)
unfolding timeouts_value
timeouts_within limits =
    object_plain 0 _ (
    may_within whole 0 (number_within 0) limits.connect_ms &
    may_within whole 0 (number_within 0) limits.read_ms &
    may_within whole 0 (number_within 0) limits.operation_ms &
    may_within whole 0 (number_within 0) limits.attempt_ms &
    tt)

settings_within : (settings : CallSettings) → IsPlain 2 (settings_value settings)
unfolding settings_value
settings_within settings =
    object_plain 1 _ (
    may_within text_value 1 (text_within 1) settings.region &
    may_within boolean 1 (truth_within 1) settings.use_fips &
    may_within boolean 1 (truth_within 1) settings.use_dual_stack &
    number_within 1 settings.max_attempts &
    timeouts_within settings.timeouts &
    tt)

signer_within : (keys : Keys) → IsPlain 2 (signer_value keys)
unfolding signer_value
signer_within keys =
    object_plain 1 _ (
    text_within 1 keys.access_key_id &
    text_within 1 keys.secret_access_key &
    may_within text_value 1 (text_within 1) keys.session_token &
    tt)

asks : (n : ℕ) (kind : List ℕ) → IsPlain n (string kind)
asks n kind = (omega arith, refl)

lifted : (limits : Timeouts) → IsPlain 2 (timeouts_value limits)
lifted limits = let plain = timeouts_within limits in (le_trans plain.0 (lit≤ tt), plain.1)

request_within : (r : Request) → IsPlain 3 (request_value r)
request_within (request.Http call) =
    object_plain 2 _ (
    asks 2 (codes "http") &
    text_within 2 call.endpoint &
    text_within 2 call.path &
    may_within content_value 2 content_within call.authorization &
    lifted call.timeouts &
    tt)
request_within (request.MetadataToken call) =
    object_plain 2 _ (
    asks 2 (codes "imds-token") &
    text_within 2 call.endpoint &
    number_within 2 call.ttl_seconds &
    lifted call.timeouts &
    tt)
request_within (request.MetadataGet call) =
    object_plain 2 _ (
    asks 2 (codes "imds-get") &
    text_within 2 call.endpoint &
    text_within 2 call.path &
    content_within call.token &
    lifted call.timeouts &
    tt)
request_within (request.AssumeRole call) =
    object_plain 2 _ (
    asks 2 (codes "assume-role") &
    signer_within call.signer &
    text_within 2 call.role_arn &
    text_within 2 call.session_name &
    may_within text_value 2 (text_within 2) call.external_id &
    may_within text_value 2 (text_within 2) call.policy &
    may_within (list_value text_value) 2 texts_within call.policy_arns &
    may_within signed 2 (signed_within 2) call.duration_seconds &
    may_within (list_value tag_value) 2 tags_within call.tags &
    settings_within call.settings &
    tt)
request_within (request.AssumeRoleWithWebIdentity call) =
    object_plain 2 _ (
    asks 2 (codes "web-identity") &
    text_within 2 call.role_arn &
    text_within 2 call.session_name &
    text_within 2 call.token &
    may_within text_value 2 (text_within 2) call.policy &
    may_within (list_value text_value) 2 texts_within call.policy_arns &
    settings_within call.settings &
    tt)
request_within (request.GetRoleCredentials call) =
    object_plain 2 _ (
    asks 2 (codes "role-credentials") &
    text_within 2 call.role_name &
    text_within 2 call.account_id &
    text_within 2 call.access_token &
    settings_within call.settings &
    tt)
request_within (request.CreateToken call) =
    object_plain 2 _ (
    asks 2 (codes "create-token") &
    text_within 2 call.client_id &
    text_within 2 call.client_secret &
    text_within 2 call.refresh_token &
    settings_within call.settings &
    tt)
request_within (request.CreateOAuth2Token call) =
    object_plain 2 _ (
    asks 2 (codes "sign-in") &
    text_within 2 call.client_id &
    text_within 2 call.refresh_token &
    text_within 2 call.dpop_key &
    settings_within call.settings &
    tt)

question_within : (asked : Question) → IsPlain 3 (question_value asked)
unfolding question_value
question_within question.Now = object_plain 2 _ (asks 2 (codes "now") & tt)
question_within question.Jitter = object_plain 2 _ (asks 2 (codes "jitter") & tt)
question_within (question.Read path) = object_plain 2 _ (asks 2 (codes "read") & text_within 2 path & tt)
question_within (question.Write path bytes) = object_plain 2 _ (asks 2 (codes "write") & text_within 2 path & content_within bytes & tt)
question_within (question.Run command) = object_plain 2 _ (asks 2 (codes "run") & text_within 2 command & tt)
question_within (question.LookUp host) = object_plain 2 _ (asks 2 (codes "lookup") & text_within 2 host & tt)
question_within (question.Send r) = request_within r

-- no question's value is too deep to be read, and none has a float
pub is_plain : (asked : Question) → IsPlain max_depth (question_value asked)
is_plain asked = let plain = question_within asked in (le_trans plain.0 (lit≤ tt), plain.1)
