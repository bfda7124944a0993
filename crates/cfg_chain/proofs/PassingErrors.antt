-- Which errors of members are passed over.
use Rattle.std.specs.Option.{option_or}
use Rattle.std.proofs.Common.{◌≡◌, ℕ, List, Bool, true, false, Option, Some, None, Result, Ok, Err, option_map, refl, sym, ◌∙◌}
use Rattle.std.specs.Prelude.{is_ok, codes, option_and_then, if◌then◌else◌}
use Rattle.std.specs.Result.{result_err}
use denote.Hole.Carrier as carrier
use Rattle.cfg_types.specs.Replies.{sts_in}
use Rattle.cfg_types.specs.Environment.{Variables, variable, text_read}
use Rattle.cfg_types.specs.declared.errors.CredentialsError as errors
use Rattle.cfg_types.specs.Keys.{Keys}
use Rattle.cfg_types.specs.declared.errors.CredentialsError.{CredentialsError}
use Rattle.cfg_types.specs.declared.errors.ProfileFileError.{ProfileFileError}
use Rattle.cfg_types.specs.declared.errors.ProfileFileError.TheVariants as plan_error
use Rattle.cfg_types.specs.declared.errors.UnhandledCause.{UnhandledCause}
use Rattle.cfg_types.specs.declared.reply.sts.StsReply.{StsReply}
use Rattle.cfg_world.specs.declared.ask.Question.{Question}
use Rattle.cfg_world.specs.declared.ask.Question.TheVariants as question
use Rattle.cfg_world.specs.declared.ask.Answer.{Answer as Given}
use Rattle.cfg_world.specs.declared.ask.Answer.TheVariants as answer
use Rattle.cfg_world.specs.declared.leaves.NotGranted.{NotGranted}
use Rattle.cfg_world.specs.declared.leaves.NotGranted.TheVariants.{Failed, Refused}
use Rattle.cfg_world.specs.Fits.{Pair}
use Rattle.cfg_world.specs.Leaves.{granted_of}
use Rattle.cfg_providers.specs.declared.web_identity_token.WebIdentity.{WebIdentity}
use Rattle.cfg_providers.specs.CustomSources.{Answer}
use Rattle.cfg_providers.specs.EnvironmentKeys.{not_set}
use Rattle.cfg_providers.specs.Sts.{or_unhandled, into_credentials}
use Rattle.cfg_json.specs.Reading.{utf8_of}
use Rattle.cfg_providers.specs.WebIdentities.{set_or_not, identity_in, why_text, why_file, why_granted, why_answer, why_entry}
use Rattle.cfg_providers.specs.RoleCauses.{of_role}
use Rattle.cfg_base.specs.Gives.{◌>>=◌}
use Rattle.cfg_chain.specs.Settings.{Setting}
use Rattle.cfg_kept.specs.Chains.{passed}
use Rattle.cfg_chain.specs.Members.{credentials_chain}
use Rattle.cfg_meta.specs.CredentialsAnswers.{is_not_loaded}
use Rattle.cfg_chain.specs.profile.Causes.{of_base}
use Rattle.cfg_chain.specs.profile.Plans.{is_not_loaded_error, refusal}
use Rattle.cfg_chain.proofs.UsableEntries.{no_success}

-- whether an error is passed over, where there is one
abbrev pub passes : Option CredentialsError → Bool
passes None = false
passes (Some e) = is_not_loaded e

pub at_odds : {X : Type 0} (b : Bool) → b ≡ true → b ≡ false → X
at_odds b t f = no_success (sym f ∙ t)

-- ---- the answers of members

kept_error : (e : CredentialsError) (b : Bool) → (if b then Some e else None) ≡ None → b ≡ false
kept_error e true h = cc
kept_error e false h = refl

passed_error : (e f : CredentialsError) (b : Bool) → (if b then Some e else None) ≡ Some f → b ≡ true
passed_error e f true h = refl
passed_error e f false h = cc

pub decides : (s : Setting) (out : Answer) → passed (credentials_chain s) out ≡ None → passes (result_err out) ≡ false
decides s (Ok keys) h = refl
decides s (Err e) h = kept_error e (is_not_loaded e) h

pub goes_on : (s : Setting) (out : Answer) (e : CredentialsError) → passed (credentials_chain s) out ≡ Some e → passes (result_err out) ≡ true
goes_on s (Ok keys) e h = cc
goes_on s (Err f) e h = passed_error f e (is_not_loaded f) h

-- a success is not passed over
pub success_decides : {X : Type 0} (out : Answer) → is_ok out ≡ true → passes (result_err out) ≡ true → X
success_decides (Ok keys) fine h = no_success h
success_decides (Err e) fine h = no_success fine

-- ---- the environment

pub missing_passes : (name : List ℕ) → is_not_loaded (not_set name) ≡ true
unfolding errors.out-CredentialsError carrier.out
missing_passes name = refl

pub nothing_missing : (missing : Option (List ℕ)) → passes (option_map not_set missing) ≡ false → option_map not_set missing ≡ None
nothing_missing None h = refl
nothing_missing (Some name) h = at_odds (is_not_loaded (not_set name)) (missing_passes name) h

-- ---- the profile

pub refusal_passes : (e : ProfileFileError) → is_not_loaded_error e ≡ true → is_not_loaded (refusal e) ≡ true
unfolding errors.out-CredentialsError carrier.out
refusal_passes plan_error.NoProfilesDefined h = refl
refusal_passes (plan_error.ProfileDidNotContainCredentials name) h = refl
refusal_passes (plan_error.MissingProfile name message) h = refl
refusal_passes plan_error.TokenProviderConfig h = refl
refusal_passes _ h = no_success h

-- an error of a plan's base or role is not passed over
pub plan_stays : (of_the_base of_the_role : Option CredentialsError) → passes (option_or (option_map of_base of_the_base) (option_map of_role of_the_role)) ≡ false
unfolding errors.out-CredentialsError carrier.out
plan_stays None None = refl
plan_stays None (Some e) = refl
plan_stays (Some e) r = refl

-- ---- web identity

unhandled_stays : (r : Result Keys UnhandledCause) → passes (result_err (or_unhandled r)) ≡ false
unfolding errors.out-CredentialsError carrier.out
unhandled_stays (Ok keys) = refl
unhandled_stays (Err cause) = refl

granted_stays : (r : Result StsReply NotGranted) → passes (why_granted r) ≡ false
unfolding into_credentials errors.out-CredentialsError carrier.out
granted_stays (Err (Failed kind)) = refl
granted_stays (Err (Refused refusal)) = refl
granted_stays (Ok reply) = unhandled_stays _

text_stays : (text : Option (List ℕ)) → passes (why_text text) ≡ false
unfolding errors.out-CredentialsError carrier.out
text_stays (Some text) = refl
text_stays None = refl

file_stays : (file : List ℕ) (given : Given) → passes (why_file file given) ≡ false
unfolding errors.out-CredentialsError carrier.out
file_stays file (answer.Contents bytes) = text_stays (utf8_of bytes)
file_stays file _ = refl

answer_stays : (q : Question) (given : Given) → passes (why_answer q given) ≡ false
answer_stays (question.Read file) given = file_stays file given
answer_stays (question.Send request) given = granted_stays (granted_of sts_in given)
answer_stays _ given = refl

-- an error behind the variables is not passed over
pub entry_stays : (entry : Option Pair) → passes (option_and_then why_entry entry) ≡ false
entry_stays None = refl
entry_stays (Some e) = answer_stays e.0 e.1

abbrev pub identity_by : Option (List ℕ) → Option (List ℕ) → Option (List ℕ) → Result WebIdentity CredentialsError
identity_by file role session =
    set_or_not (codes "AWS_WEB_IDENTITY_TOKEN_FILE") file >>= λ f. set_or_not (codes "AWS_ROLE_ARN") role >>= λ r. Ok (record { web_identity_token_file = f; role_arn = r; session_name = session })

unset_passes : (file role session : Option (List ℕ)) → is_ok (identity_by file role session) ≡ false → passes (result_err (identity_by file role session)) ≡ true
unset_passes None role session h = missing_passes (codes "AWS_WEB_IDENTITY_TOKEN_FILE")
unset_passes (Some f) None session h = missing_passes (codes "AWS_ROLE_ARN")
unset_passes (Some f) (Some r) session h = no_success (sym h)

-- where the variables name no web identity, that is passed over
pub no_identity_passes : (env : Variables) → is_ok (identity_in env) ≡ false → passes (result_err (identity_in env)) ≡ true
unfolding identity_in
no_identity_passes env h = unset_passes (text_read (variable env (codes "AWS_WEB_IDENTITY_TOKEN_FILE"))) (text_read (variable env (codes "AWS_ROLE_ARN"))) (text_read (variable env (codes "AWS_ROLE_SESSION_NAME"))) h
