-- A member is passed over by its line of the table.
use Rattle.std.specs.Option.{option_or}
use Rattle.std.proofs.Common.{◌≡◌, ℕ, List, [], ◌∷◌, Bool, true, false, Option, Some, None, Result, Ok, Err, option_map, refl, sym, ap, ◌∙◌}
use Rattle.std.specs.Prelude.{codes, option_and_then}
use Rattle.std.specs.List.{last_or}
use Rattle.std.specs.Result.{result_err}
use Rattle.cfg_base.specs.Gives.{◌>>=◌}
use Rattle.cfg_types.specs.Classes.{is_of_class, is_not_loaded_answer}
use Rattle.cfg_types.specs.Environment.{variable, text_read}
use Rattle.cfg_types.specs.Replies.{sts_in}
use Rattle.cfg_types.specs.declared.errors.Class.TheVariants as class
use Rattle.cfg_types.specs.declared.errors.CredentialsError.{CredentialsError}
use Rattle.cfg_types.specs.declared.errors.CredentialsError as errors
use Rattle.cfg_types.specs.Keys.{Keys}
use Rattle.cfg_types.specs.declared.errors.UnhandledCause.{UnhandledCause}
use Rattle.cfg_types.specs.declared.errors.ProfileFileError.{ProfileFileError}
use Rattle.cfg_types.specs.declared.errors.ProfileFileError.TheVariants as plan_error
use Rattle.cfg_types.specs.declared.reply.sts.StsReply.{StsReply}
use denote.Hole.Carrier as carrier
use Rattle.cfg_world.specs.declared.ask.Question.{Question}
use Rattle.cfg_world.specs.declared.ask.Question.TheVariants as question
use Rattle.cfg_world.specs.declared.ask.Answer.{Answer as Given}
use Rattle.cfg_world.specs.declared.ask.Answer.TheVariants as answer
use Rattle.cfg_world.specs.declared.leaves.NotGranted.{NotGranted}
use Rattle.cfg_world.specs.declared.leaves.NotGranted.TheVariants.{Failed, Refused}
use Rattle.cfg_world.specs.Fits.{Pair}
use Rattle.cfg_world.specs.Inquiry.{Reads}
use Rattle.cfg_world.specs.Leaves.{granted_of}
use Rattle.cfg_kept.specs.Kinds.{Value}
use Rattle.cfg_kept.specs.KeptInquiry as kept
use Rattle.cfg_kept.proofs.Splits.{lowered}
use Rattle.cfg_imds_credentials.proofs.Given.{given_is}
use Rattle.cfg_imds_credentials.proofs.Passing.{by_its_line}
use Rattle.cfg_exchange.specs.Containers.{IsContainerUri}
use Rattle.cfg_exchange.proofs.Unset.{passed_over, unset_passed}
use Rattle.cfg_providers.specs.declared.web_identity_token.WebIdentity.{WebIdentity}
use Rattle.cfg_providers.specs.CustomSources.{Answer}
use Rattle.cfg_providers.specs.EnvironmentKeys.{by_environment}
use Rattle.cfg_providers.specs.EnvironmentCauses.{environment_is_passed_over}
use Rattle.cfg_json.specs.Reading.{utf8_of}
use Rattle.cfg_providers.specs.Sts.{keys_in, or_unhandled, into_credentials}
use Rattle.cfg_providers.specs.WebIdentities.{set_or_not, identity_in, no_policies, by_identity, web_identity, why_text, why_file, why_granted, why_answer, why_entry}
use Rattle.cfg_providers.proofs.EnvironmentFailures.{environment_not_loaded}
use Rattle.cfg_providers.proofs.WebIdentityCauses.{assumed_cause}
use Rattle.cfg_providers.specs.RoleCauses.{first_failure, of_role}
use Rattle.cfg_chain.specs.declared.member.Member.{Member}
use Rattle.cfg_chain.specs.declared.member.Member.TheVariants.{Environment, Profile, WebIdentityToken, EcsContainer, Ec2InstanceMetadata}
use Rattle.cfg_chain.specs.Settings.{Setting, names_of, container_settings, chain_metadata}
use Rattle.cfg_chain.specs.Members.{member_tree}
use Rattle.cfg_chain.specs.PassedOver.{plan_is_passed_over, is_error, IsPassedOver, PassesByTable}
use Rattle.cfg_chain.specs.profile.Bases.{by_container}
use Rattle.cfg_chain.specs.profile.Plans.{Planned, plan, refusal, is_not_loaded_error}
use Rattle.cfg_chain.specs.profile.Profiles.{follows_plan, profile}
use Rattle.cfg_chain.specs.profile.Causes.{of_base}
use Rattle.cfg_chain.proofs.ProfileCauses.{plan_fails}

-- whether a cause is that nothing was loaded
abbrev is_unset : Option CredentialsError → Bool
is_unset None = false
is_unset (Some e) = is_of_class class.CredentialsNotLoaded e

by_cause : (out : Answer) → is_not_loaded_answer out ≡ is_unset (result_err out)
by_cause (Ok keys) = refl
by_cause (Err e) = refl

clash : false ≡ true → ⊥
clash h = absurd cc

-- passed over by a test of the configuration, without a question
table : (out : Answer) (part : List Pair) (passed : Bool) → is_not_loaded_answer out ≡ passed → (passed ≡ true → part ≡ []) → PassesByTable out ((part ≡ []) × (passed ≡ true))
table out part passed is empty = (λ loaded. (empty (sym is ∙ loaded), sym is ∙ loaded), λ line. is ∙ line.1)

environment_table : (s : Setting) (found : List Value) (part : List Pair) (out : Answer) → Reads (by_environment s.configuration.environment) part out → PassesByTable out (IsPassedOver s Environment found part)
environment_table s found [] out h = table out [] (environment_is_passed_over s.configuration.environment) (ap is_not_loaded_answer (sym h) ∙ environment_not_loaded s.configuration.environment) (λ _. refl)
environment_table s found (e ∷ part) out h = absurd h

-- ---- the profile

refusal_line : (e : ProfileFileError) → is_of_class class.CredentialsNotLoaded (refusal e) ≡ is_not_loaded_error e
unfolding errors.out-CredentialsError carrier.out
refusal_line (plan_error.InvalidProfile reason) = refl
refusal_line plan_error.NoProfilesDefined = refl
refusal_line (plan_error.ProfileDidNotContainCredentials name) = refl
refusal_line (plan_error.CredentialLoop profiles next) = refl
refusal_line (plan_error.MissingCredentialSource name message) = refl
refusal_line (plan_error.InvalidCredentialSource name message) = refl
refusal_line (plan_error.MissingProfile name message) = refl
refusal_line (plan_error.UnknownProvider name) = refl
refusal_line (plan_error.FeatureNotEnabled feature message) = refl
refusal_line (plan_error.MissingSsoSession name session) = refl
refusal_line (plan_error.InvalidSsoConfig name message) = refl
refusal_line plan_error.TokenProviderConfig = refl
refusal_line plan_error.OutOfMemory = refl

-- an error of a base or of a role is never passed over
plan_loaded : (base role : Option CredentialsError) → is_unset (option_or (option_map of_base base) (option_map of_role role)) ≡ false
unfolding errors.out-CredentialsError carrier.out
plan_loaded (Some e) role = refl
plan_loaded None (Some e) = refl
plan_loaded None None = refl

pub planned_line : (s : Setting) (p : Planned) (found : List Value) (part : List Pair) (out : Answer) → kept.Reads (follows_plan s p) found part out → is_not_loaded_answer out ≡ plan_is_passed_over p
planned_line s (Ok p) found part out h = let c = plan_fails s p found part out h in by_cause out ∙ ap is_unset c.cause ∙ plan_loaded (result_err c.given) (first_failure c.role_part)
planned_line s (Err e) found part out h = ap is_not_loaded_answer (sym (given_is (Err (refusal e)) out found part h).2) ∙ refusal_line e

planned_empty : (s : Setting) (p : Planned) (found : List Value) (part : List Pair) (out : Answer) → kept.Reads (follows_plan s p) found part out → plan_is_passed_over p ≡ true → part ≡ []
planned_empty s (Ok p) found part out h passed = absurd (clash passed)
planned_empty s (Err e) found part out h passed = (given_is (Err (refusal e)) out found part h).1

profile_table : (s : Setting) (found : List Value) (part : List Pair) (out : Answer) → kept.Reads (profile s) found part out → PassesByTable out (IsPassedOver s Profile found part)
unfolding profile
profile_table s found part out h =
    let p = plan s.configuration (names_of s.sources) in
    table out part (plan_is_passed_over p) (planned_line s p found part out h) (planned_empty s p found part out h)

-- ---- web identity

text_plain : (text : Option (List ℕ)) → is_unset (why_text text) ≡ false
unfolding errors.out-CredentialsError carrier.out
text_plain None = refl
text_plain (Some text) = refl

file_plain : (file : List ℕ) (given : Given) → is_unset (why_file file given) ≡ false
unfolding errors.out-CredentialsError carrier.out
file_plain file (answer.Contents bytes) = text_plain (utf8_of bytes)
file_plain file (answer.Finished f) = refl
file_plain file (answer.Moment m) = refl
file_plain file (answer.Jitter n) = refl
file_plain file answer.Written = refl
file_plain file (answer.Addresses addresses) = refl
file_plain file (answer.Replied reply) = refl
file_plain file (answer.Failed kind) = refl

unhandled_plain : (read : Result Keys UnhandledCause) → is_unset (result_err (or_unhandled read)) ≡ false
unfolding errors.out-CredentialsError carrier.out
unhandled_plain (Ok keys) = refl
unhandled_plain (Err cause) = refl

granted_plain : (given : Result StsReply NotGranted) → is_unset (why_granted given) ≡ false
unfolding errors.out-CredentialsError carrier.out into_credentials
granted_plain (Err (Failed kind)) = refl
granted_plain (Err (Refused refused)) = refl
granted_plain (Ok reply) = unhandled_plain (keys_in reply.credentials reply.arn (codes "WebIdentityToken"))

answer_plain : (q : Question) (given : Given) → is_unset (why_answer q given) ≡ false
answer_plain question.Now given = refl
answer_plain question.Jitter given = refl
answer_plain (question.Read path) given = file_plain path given
answer_plain (question.Write path bytes) given = refl
answer_plain (question.Run command) given = refl
answer_plain (question.LookUp host) given = refl
answer_plain (question.Send request) given = granted_plain (granted_of sts_in given)

last_plain : (last : Option Pair) → is_unset (option_and_then why_entry last) ≡ false
last_plain None = refl
last_plain (Some e) = answer_plain e.0 e.1

-- a variable that is not set is passed over
either_missing : (first second : List ℕ) (a b : Option (List ℕ)) (identity : List ℕ → List ℕ → WebIdentity) (e : CredentialsError) →
    (set_or_not first a >>= λ x. set_or_not second b >>= λ y. Ok (identity x y)) ≡ Err e → is_of_class class.CredentialsNotLoaded e ≡ true
unfolding errors.out-CredentialsError carrier.out
either_missing first second None b identity e h = ap (λ r. is_unset (result_err r)) (sym h)
either_missing first second (Some x) None identity e h = ap (λ r. is_unset (result_err r)) (sym h)
either_missing first second (Some x) (Some y) identity e h = cc

identity_missing : (s : Setting) (e : CredentialsError) → identity_in s.configuration.environment ≡ Err e → is_of_class class.CredentialsNotLoaded e ≡ true
unfolding identity_in
identity_missing s e h =
    either_missing (codes "AWS_WEB_IDENTITY_TOKEN_FILE") (codes "AWS_ROLE_ARN") (text_read (variable s.configuration.environment (codes "AWS_WEB_IDENTITY_TOKEN_FILE"))) (text_read (variable s.configuration.environment (codes "AWS_ROLE_ARN")))
    (λ file role. record { web_identity_token_file = file; role_arn = role; session_name = text_read (variable s.configuration.environment (codes "AWS_ROLE_SESSION_NAME")) }) e h

identity_line : (s : Setting) (i : Result WebIdentity CredentialsError) (part : List Pair) (out : Answer) → identity_in s.configuration.environment ≡ i → Reads (by_identity s.configuration no_policies i) part out →
    is_not_loaded_answer out ≡ is_error i
identity_line s (Ok identity) part out is h = by_cause out ∙ ap is_unset (assumed_cause s.configuration identity no_policies (codes "web-identity-token") part out h) ∙ last_plain (last_or None part)
identity_line s (Err e) [] out is h = ap is_not_loaded_answer (sym h) ∙ identity_missing s e is
identity_line s (Err e) (x ∷ part) out is h = absurd h

identity_empty : (s : Setting) (i : Result WebIdentity CredentialsError) (part : List Pair) (out : Answer) → Reads (by_identity s.configuration no_policies i) part out → is_error i ≡ true → part ≡ []
identity_empty s (Ok identity) part out h passed = absurd (clash passed)
identity_empty s (Err e) [] out h passed = refl
identity_empty s (Err e) (x ∷ part) out h passed = absurd h

identity_table : (s : Setting) (found : List Value) (part : List Pair) (out : Answer) → Reads (web_identity s.configuration None no_policies) part out → PassesByTable out (IsPassedOver s WebIdentityToken found part)
unfolding web_identity
identity_table s found part out h =
    let i = identity_in s.configuration.environment in
    table out part (is_error i) (identity_line s i part out refl h) (identity_empty s i part out h)

-- ---- all members

container_table : (s : Setting) (found : List Value) (part : List Pair) (out : Answer) → IsContainerUri s.configuration.environment s.container → Reads (by_container s.configuration s.container) part out → PassesByTable out (IsPassedOver s EcsContainer found part)
container_table s found part out names h =
    (passed_over s.configuration.environment (container_settings s.configuration) s.container part out names h, unset_passed s.configuration.environment (container_settings s.configuration) s.container part out names h)

pub by_table : (s : Setting) (member : Member) (found : List Value) (part : List Pair) (out : Answer) → IsContainerUri s.configuration.environment s.container → kept.Reads (member_tree s member) found part out → PassesByTable out (IsPassedOver s member found part)
unfolding member_tree
by_table s Environment found part out names h = environment_table s found part out (lowered (by_environment s.configuration.environment) found part out h).1
by_table s Profile found part out names h = profile_table s found part out h
by_table s WebIdentityToken found part out names h = identity_table s found part out (lowered (web_identity s.configuration None no_policies) found part out h).1
by_table s EcsContainer found part out names h = container_table s found part out names (lowered (by_container s.configuration s.container) found part out h).1
by_table s Ec2InstanceMetadata found part out names h = by_its_line (chain_metadata s) found part out h
