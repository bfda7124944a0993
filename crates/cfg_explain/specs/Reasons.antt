-- How a call of the default chain came to its end: who was passed over, and whose answer ended it.
use Rattle.std.specs.Prelude.{◌≡◌, ◌-◌, ℕ, List, [], ◌∷◌, ◌++◌, length, drop, map, Bool, true, false, Option, Some, None, option_to_list, slice_get, Ok, Err, codes, if◌then◌else◌}
use Rattle.std.specs.Result.{result_err}
use Rattle.cfg_types.specs.Environment.{Variables, readable}
use Rattle.cfg_types.specs.declared.errors.ConfigCause.{ConfigCause}
use Rattle.cfg_types.specs.declared.errors.ConfigCause.TheVariants as config
use Rattle.cfg_types.specs.declared.errors.CredentialsError.{CredentialsError, out-CredentialsError}
use Rattle.cfg_types.specs.declared.errors.CredentialsError.TheOpen.{CredentialsError-F, NotLoadedCause-F, ProviderCause-F}
use Rattle.cfg_types.specs.declared.errors.CredentialsError.TheVariants.{CredentialsNotLoaded}
use Rattle.cfg_types.specs.declared.errors.NotLoadedCause.{NotLoadedCause, out-NotLoadedCause}
use Rattle.cfg_types.specs.declared.errors.NotLoadedCause.TheVariants.{NotConfigured}
use Rattle.cfg_types.specs.declared.errors.ProviderAttempt.{ProviderAttempt}
use Rattle.cfg_types.specs.declared.errors.ProviderCause.{ProviderCause, out-ProviderCause}
use Rattle.cfg_world.specs.Fits.{Pair}
use Rattle.cfg_exchange.specs.Containers.{token_file}
use Rattle.cfg_kept.specs.Kinds.{Value}
use Rattle.cfg_meta.specs.CredentialsAnswers.{is_not_loaded}
use Rattle.cfg_providers.specs.CustomSources.{Answer}
use Rattle.cfg_providers.specs.EnvironmentKeys.{environment}
use Rattle.cfg_providers.specs.WebIdentities.{identity_in}
use Rattle.cfg_chain.specs.declared.member.Member.{Member}
use Rattle.cfg_chain.specs.declared.member.Member.TheVariants.{Environment, Profile, WebIdentityToken, EcsContainer, Ec2InstanceMetadata}
use Rattle.cfg_chain.specs.Callers.{Passed, IsAnsweredBy, IsAnsweredByNone}
use Rattle.cfg_chain.specs.Members.{default_members}
use Rattle.cfg_chain.specs.Settings.{ChainSetting, Services, AreServices, names_of, setting}
use Rattle.cfg_chain.specs.profile.Plans.{Planned, plan, refusal, is_not_loaded_error}
use Rattle.cfg_explain.specs.declared.reasons.PassedOver.{PassedOver}
use Rattle.cfg_explain.specs.declared.reasons.Reasons.{Reasons}

-- ---- what the chain is over

-- an error that says that nothing was loaded
abbrev pub not_loaded : Option CredentialsError → Option CredentialsError
not_loaded None = None
not_loaded (Some e) = if is_not_loaded e then Some e else None

-- why a profile is passed over: it has no plan, by an error that says so
abbrev pub without_plan : Planned → Option CredentialsError
without_plan (Ok p) = None
without_plan (Err e) = if is_not_loaded_error e then Some (refusal e) else None

abbrev pub neither_set : Option (List ℕ) → Option (List ℕ) → Option CredentialsError
neither_set (Some relative) full = None
neither_set None (Some full) = None
neither_set None None = Some (CredentialsNotLoaded NotConfigured)

-- neither of a container's addresses can be read
abbrev pub without_address : Variables → Option CredentialsError
without_address env = neither_set (readable env (codes "AWS_CONTAINER_CREDENTIALS_RELATIVE_URI")) (readable env (codes "AWS_CONTAINER_CREDENTIALS_FULL_URI"))

-- ---- what the call came to

abbrev pub is_token_fault : ConfigCause → Bool
is_token_fault config.AuthToken = true
is_token_fault _ = false

abbrev pub is_file_fault : ProviderCause-F CredentialsError NotLoadedCause ProviderCause → Bool
is_file_fault (ProviderCause-F.File path) = true
is_file_fault _ = false

abbrev pub is_token_level : CredentialsError-F CredentialsError NotLoadedCause ProviderCause → Bool
is_token_level (CredentialsError-F.InvalidConfiguration cause) = is_token_fault cause
is_token_level (CredentialsError-F.ProviderError cause) = is_file_fault (out-ProviderCause cause)
is_token_level _ = false

-- Whether the error is that of the token of a container: it is no header value, or its file cannot be read.
abbrev pub is_token_error : CredentialsError → Bool
is_token_error e = is_token_level (out-CredentialsError e)

abbrev pub is_token_answer : Answer → Bool
is_token_answer (Ok keys) = false
is_token_answer (Err e) = is_token_error e

abbrev pub is_metadata_cause : NotLoadedCause-F CredentialsError NotLoadedCause ProviderCause → Bool
is_metadata_cause NotLoadedCause-F.MetadataDisabled = true
is_metadata_cause NotLoadedCause-F.MetadataNoRole = true
is_metadata_cause NotLoadedCause-F.MetadataUnreachable = true
is_metadata_cause _ = false

abbrev pub is_metadata_level : CredentialsError-F CredentialsError NotLoadedCause ProviderCause → Bool
is_metadata_level (CredentialsError-F.CredentialsNotLoaded cause) = is_metadata_cause (out-NotLoadedCause cause)
is_metadata_level _ = false

-- whether the error says that instance metadata was not loaded
abbrev pub is_metadata_error : CredentialsError → Bool
is_metadata_error e = is_metadata_level (out-CredentialsError e)

abbrev pub attempts_of_cause : NotLoadedCause-F CredentialsError NotLoadedCause ProviderCause → List (ProviderAttempt CredentialsError)
attempts_of_cause (NotLoadedCause-F.Chain chain) = chain.attempts
attempts_of_cause _ = []

abbrev pub attempts_of_level : CredentialsError-F CredentialsError NotLoadedCause ProviderCause → List (ProviderAttempt CredentialsError)
attempts_of_level (CredentialsError-F.CredentialsNotLoaded cause) = attempts_of_cause (out-NotLoadedCause cause)
attempts_of_level _ = []

-- what an answer tells of each member: nothing, unless none was loaded
abbrev pub attempts_in : Answer → List (ProviderAttempt CredentialsError)
attempts_in (Ok keys) = []
attempts_in (Err e) = attempts_of_level (out-CredentialsError e)

abbrev pub last_attempt : Answer → Option (ProviderAttempt CredentialsError)
last_attempt out = slice_get (attempts_in out) (length (attempts_in out) - 1)

abbrev pub metadata_error : Option (ProviderAttempt CredentialsError) → Option CredentialsError
metadata_error None = None
metadata_error (Some a) = if is_metadata_error a.error then Some a.error else None

-- why instance metadata, the last member, is passed over: what the answer tells of it
abbrev pub without_metadata : Answer → Option CredentialsError
without_metadata out = metadata_error (last_attempt out)

-- ---- the members

-- Why a member is passed over by a call that came to this. What the chain is over decides it of the first three; of a
-- container too, unless its token's error ended the call; and of instance metadata the answer tells.
abbrev pub why_passed_over : ChainSetting → Answer → Member → Option CredentialsError
why_passed_over over out Environment = not_loaded (result_err (environment over.configuration.environment))
why_passed_over over out Profile = without_plan (plan over.configuration (names_of over.sources))
why_passed_over over out WebIdentityToken = result_err (identity_in over.configuration.environment)
why_passed_over over out EcsContainer = if is_token_answer out then None else without_address over.configuration.environment
why_passed_over over out Ec2InstanceMetadata = without_metadata out

-- these members were passed over too, before the others
abbrev pub behind : List PassedOver → Reasons → Reasons
behind before r = record r { passed_over = before ++ r.passed_over }

-- a member that is passed over for this error, before the others; or its answer ends the call
abbrev pub reasons_from : Member → Option CredentialsError → Reasons → Reasons
reasons_from m (Some e) others = behind (record { member = m; error = e } ∷ []) others
reasons_from m None others = record { passed_over = []; answered = Some m }

-- by these members in order
abbrev pub reasons_among : ChainSetting → Answer → List Member → Reasons
reasons_among over out [] = record { passed_over = []; answered = None }
reasons_among over out (m ∷ members) = reasons_from m (why_passed_over over out m) (reasons_among over out members)

-- Which members a call passes over that comes to this, and whose answer it is: that of the first that is not passed over,
-- and of none where all are.
abbrev pub reasons_of : ChainSetting → Answer → Reasons
reasons_of over out = reasons_among over out default_members

-- a journal without the reading of the file of a container's token, where a variable names one
abbrev pub behind_token_file : Variables → List Pair → List Pair
behind_token_file env journal = drop (length (option_to_list (token_file env))) journal

-- What the member that answered asked, of the journal of a call. Of those before it a container alone asks.
abbrev pub own_part : Variables → Member → List Pair → List Pair
own_part env Ec2InstanceMetadata journal = behind_token_file env journal
own_part env _ journal = journal

-- what is told of a member that was passed over
abbrev pub told_of : Passed → PassedOver
told_of p = record { member = p.who; error = p.error }

-- This member's answer ended a call that found these values, has this journal, and came to this outcome: it answered over
-- this part, and these are the members that were passed over before it, each with its error.
pub record IsEndedBy (over : ChainSetting) (found : List Value) (journal : List Pair) (out : Answer) (before : List PassedOver) (who : Member) : Type 0 where
  pub services : Services
  pub names : AreServices over services
  pub call : IsAnsweredBy (setting over services) default_members found journal out
  pub passed_over : map told_of call.passed_over ≡ before
  pub answered : call.who ≡ who
  pub part : call.answered ≡ own_part over.configuration.environment who journal

-- No member was loaded by such a call, and these are all, each with its error.
pub record IsEndedByNone (over : ChainSetting) (found : List Value) (journal : List Pair) (out : Answer) (all : List PassedOver) : Type 0 where
  pub services : Services
  pub names : AreServices over services
  pub call : IsAnsweredByNone (setting over services) default_members found journal out
  pub passed_over : map told_of call.passed_over ≡ all

abbrev pub IsEnded : ChainSetting → List Value → List Pair → Answer → List PassedOver → Option Member → Type 0
IsEnded over found journal out passed (Some who) = IsEndedBy over found journal out passed who
IsEnded over found journal out passed None = IsEndedByNone over found journal out passed

-- these are the reasons of such a call
abbrev pub AreReasonsOf : ChainSetting → List Value → List Pair → Answer → Reasons → Type 0
AreReasonsOf over found journal out r = IsEnded over found journal out r.passed_over r.answered
