-- Where nothing stands in the way, a call gives credentials.
use Rattle.std.proofs.Common.{◌≡◌, ◌⊎◌, inl, inr, ℕ, List, [], ◌∷◌, ◌++◌, true, false, Option, Some, None, Result, Ok, Err, refl, sym, ap, ◌∙◌, subst, append-nil}
use Rattle.std.specs.Prelude.{IsOk, is_ok, codes}
use Rattle.std.specs.List.{last_or}
use Rattle.std.specs.Result.{result_err}
use Rattle.cfg_types.specs.Environment.{Variables, readable}
use Rattle.cfg_types.specs.declared.errors.CredentialsError.{CredentialsError}
use Rattle.cfg_types.specs.declared.errors.ProviderAttempt.{ProviderAttempt}
use Rattle.cfg_world.specs.Fits.{Pair}
use Rattle.cfg_world.specs.Inquiry as low
use Rattle.cfg_world.specs.Inquiry.{Done}
use Rattle.cfg_kept.specs.Beginnings.{IsPrefix}
use Rattle.cfg_kept.specs.Kinds.{Value}
use Rattle.cfg_kept.specs.KeptInquiry.{Reads}
use Rattle.cfg_kept.proofs.Splits.{lowered}
use Rattle.cfg_exchange.specs.declared.container.ContainerUri.TheVariants as uri
use Rattle.cfg_exchange.specs.declared.container.ContainerUri.{ContainerUri}
use Rattle.cfg_exchange.specs.Containers.{token_file, IsUriBy, IsContainerUri}
use Rattle.cfg_exchange.specs.ContainerUnset.{IsTokenPart, IsUnset}
use Rattle.cfg_imds_credentials.proofs.Given.{given_is}
use Rattle.cfg_providers.specs.declared.web_identity_token.WebIdentity.{WebIdentity}
use Rattle.cfg_providers.specs.CustomSources.{Answer}
use Rattle.cfg_providers.specs.EnvironmentKeys.{environment, by_environment}
use Rattle.cfg_types.specs.Classes.{is_not_loaded_answer}
use Rattle.cfg_providers.specs.EnvironmentCauses.{missing_variable}
use Rattle.cfg_providers.specs.WebIdentities.{no_policies, identity_in, by_identity, web_identity, why_identity}
use Rattle.cfg_providers.specs.RoleCauses.{first_failure}
use Rattle.cfg_chain.specs.declared.member.Member.{Member}
use Rattle.cfg_chain.specs.declared.member.Member.TheVariants.{Environment, Profile, WebIdentityToken, EcsContainer, Ec2InstanceMetadata}
use Rattle.cfg_chain.specs.Settings.{Setting, names_of, chain_metadata}
use Rattle.cfg_kept.specs.Chains.{attempt}
use Rattle.cfg_kept.specs.ChainParts.{AreParts}
use Rattle.cfg_chain.specs.Members.{member_tree, credentials_chain}
use Rattle.cfg_chain.specs.profile.Causes.{PlannedCause}
use Rattle.cfg_chain.specs.profile.Plans.{Planned, plan, refusal}
use Rattle.cfg_chain.specs.profile.Profiles.{follows_plan, profile}
use Rattle.cfg_chain.specs.Resolves.{IsPart, Resolves}
use Rattle.cfg_chain.specs.Valid.{Contents, HoldsHeaderValue, AreOfUse, IsAddress, HasTexts, HoldsKeys, IsContainer, GivesMetadata, behind_container, GivesBehindContainer, GivesBehindProfile, GivesBehindEnvironment, IsFileBehindProfile, IsFile, IsValid}
use Rattle.cfg_chain.proofs.UsableEntries.{no_success, done_quiet, rest_of_use}
use Rattle.cfg_chain.proofs.UsableContainer.{container_succeeds}
use Rattle.cfg_chain.proofs.UsableEnvironment.{no_error, texts_cause, keys_given}
use Rattle.cfg_chain.proofs.UsableIdentities.{identity_succeeds}
use Rattle.cfg_chain.proofs.UsableProfile.{metadata_succeeds, plan_succeeds}
use Rattle.cfg_chain.proofs.UnsetContainer.{unset_passes}
use Rattle.cfg_chain.specs.profile.Bases.{by_container}
use Rattle.cfg_chain.proofs.PassedByTable.{by_table}
use Rattle.cfg_chain.proofs.PassingErrors.{passes, at_odds, decides, goes_on, success_decides, nothing_missing, refusal_passes, plan_stays, entry_stays, no_identity_passes}

told : (given : Answer) (part : List Pair) (out : Answer) → low.Reads (Done given) part out → given ≡ out
told given [] out h = h
told given (e ∷ part) out h = absurd h

-- the variables name no container
not_set : (relative full : Option (List ℕ)) (named : ContainerUri) → relative ≡ None → full ≡ None → IsUriBy relative full named → named ≡ uri.NotSet
not_set None None named none nothing h = h
not_set None (Some text) named none nothing h = cc
not_set (Some text) full named none nothing h = cc

passing_answer : (out : Answer) → passes (result_err out) ≡ true → is_not_loaded_answer out ≡ true
passing_answer (Ok keys) h = h
passing_answer (Err e) h = h

-- what holds of all that was found and asked holds behind a member that found and asked nothing
behind_quiet : (P : List Value → List Pair → Type 0) (found found_first found_then : List Value) (journal part rest : List Pair) → found ≡ found_first ++ found_then → journal ≡ part ++ rest →
    found_first ≡ [] → part ≡ [] → P found journal → P found_then rest
behind_quiet P found found_first found_then journal part rest finds parts none quiet h =
    subst (λ f. P f rest) (finds ∙ ap (λ f. f ++ found_then) none) (subst (λ j. P found j) (parts ∙ ap (λ p. p ++ rest) quiet) h)

-- what is behind a container of which the token's file at most was read
behind_token : (file : Option (List ℕ)) (journal part rest : List Pair) → journal ≡ part ++ rest → IsTokenPart file part → behind_container file journal ≡ rest
behind_token None journal part rest parts quiet = parts ∙ ap (λ p. p ++ rest) quiet
behind_token (Some path) journal part rest parts read = ap (behind_container (Some path)) (parts ∙ ap (λ p. p ++ rest) read.1)

module _ (s : Setting) (names : IsContainerUri s.configuration.environment s.container) where
  abbrev env : Variables
  env = s.configuration.environment

  abbrev the_plan : Planned
  the_plan = plan s.configuration (names_of s.sources)

  abbrev Parts : List Member → List (ProviderAttempt CredentialsError) → List Value → List Pair → Answer → Type 0
  Parts members attempts found journal out = AreParts (credentials_chain s) (IsPart s) members attempts found journal out

  rest_used : (Files : Contents → Type 0) (journal part rest : List Pair) → journal ≡ part ++ rest → AreOfUse Files journal → AreOfUse Files rest
  rest_used Files journal part rest parts uses = rest_of_use Files part rest (subst (AreOfUse Files) parts uses)

  -- ---- instance metadata

  metadata_answers : (found whole : List Value) (part journal : List Pair) (out : Answer) → GivesMetadata (chain_metadata s) whole journal → IsPrefix found whole → IsPrefix part journal →
      AreOfUse HoldsHeaderValue part → IsPart s Ec2InstanceMetadata found part out → is_ok out ≡ true
  unfolding member_tree
  metadata_answers found whole part journal out gives begins starts uses p = metadata_succeeds s (chain_metadata s) found whole part journal out begins starts p.reads uses gives

  from_metadata : (attempts : List (ProviderAttempt CredentialsError)) (found : List Value) (part : List Pair) (out : Answer) → GivesMetadata (chain_metadata s) found part → AreOfUse HoldsHeaderValue part →
      Parts (Ec2InstanceMetadata ∷ []) attempts found part out → is_ok out ≡ true
  from_metadata attempts found part out gives uses (inl h) =
      let all = h.7 ∙ ap (λ r. h.2 ++ r) h.10.1 ∙ append-nil h.2 in
      success_decides h.4 (metadata_answers h.0 found h.2 part h.4 gives (h.1, h.6) (h.3, h.7) (subst (AreOfUse HoldsHeaderValue) all uses) h.8) (goes_on s h.4 h.5 h.9)
  from_metadata attempts found part out gives uses (inr h) = metadata_answers found found part part out gives ([], sym (append-nil found)) ([], sym (append-nil part)) uses h.0

  -- ---- a container

  -- a container can be asked; or there is none, and there is instance metadata
  abbrev IsBehindIdentity : List Value → List Pair → Type 0
  IsBehindIdentity found part = IsContainer s ⊎ GivesBehindContainer s found part

  container_low : (found : List Value) (part : List Pair) (out : Answer) → IsPart s EcsContainer found part out → (found ≡ []) × low.Reads (by_container s.configuration s.container) part out
  unfolding member_tree
  container_low found part out p = lowered (by_container s.configuration s.container) found part out p.reads

  container_answers : (found : List Value) (part : List Pair) (out : Answer) → IsContainer s → AreOfUse HoldsHeaderValue part → IsPart s EcsContainer found part out → is_ok out ≡ true
  container_answers found part out can uses p = container_succeeds s can part out (container_low found part out p).1 uses

  -- a container that can be asked is not passed over
  container_passed : (whole : List Value) (part journal : List Pair) → IsBehindIdentity whole journal → IsUnset env part → GivesBehindContainer s whole journal
  container_passed whole part journal (inl can) unset =
      let none = not_set (readable env (codes "AWS_CONTAINER_CREDENTIALS_RELATIVE_URI")) (readable env (codes "AWS_CONTAINER_CREDENTIALS_FULL_URI")) s.container unset.relative unset.full names in
      absurd (subst IsAddress none can.address)
  container_passed whole part journal (inr none) unset = none

  -- and one that there is none of is
  container_decides : (found whole : List Value) (part journal : List Pair) (out : Answer) → IsBehindIdentity whole journal → AreOfUse HoldsHeaderValue part → IsPart s EcsContainer found part out → passes (result_err out) ≡ false → is_ok out ≡ true
  container_decides found whole part journal out (inl can) uses p stays = container_answers found part out can uses p
  container_decides found whole part journal out (inr none) uses p stays = at_odds (passes (result_err out)) (unset_passes s none.unset none.token part out (container_low found part out p).1 uses) stays

  from_container : (attempts : List (ProviderAttempt CredentialsError)) (found : List Value) (part : List Pair) (out : Answer) → IsBehindIdentity found part → AreOfUse HoldsHeaderValue part →
      Parts (EcsContainer ∷ Ec2InstanceMetadata ∷ []) attempts found part out → is_ok out ≡ true
  from_container attempts found part out behind uses (inl h) =
      let unset = (by_table s EcsContainer h.0 h.2 h.4 names h.8.reads).0 (passing_answer h.4 (goes_on s h.4 h.5 h.9)) in
      let gives = (container_passed found h.2 part behind unset).metadata in
      let none = (container_low h.0 h.2 h.4 h.8).0 in
      from_metadata _ h.1 h.3 out
      (subst (λ f. GivesMetadata (chain_metadata s) f h.3) (h.6 ∙ ap (λ f. f ++ h.1) none)
      (subst (λ j. GivesMetadata (chain_metadata s) found j) (behind_token (token_file env) part h.2 h.3 h.7 unset.asks) gives))
      (rest_used HoldsHeaderValue part h.2 h.3 h.7 uses) h.10
  from_container attempts found part out behind uses (inr h) = container_decides found found part part out behind uses h.0 (decides s out h.1)

  -- ---- web identity

  identity_decides : (r : Result WebIdentity CredentialsError) (part : List Pair) (out : Answer) → (is_ok r ≡ false → passes (result_err r) ≡ true) →
      low.Reads (by_identity s.configuration no_policies r) part out → passes (result_err out) ≡ false → AreOfUse (IsFileBehindProfile r) part → is_ok out ≡ true
  identity_decides (Ok identity) part out missing reads stays uses = identity_succeeds s.configuration identity no_policies (codes "web-identity-token") part out reads uses
  identity_decides (Err e) part out missing reads stays uses =
      at_odds (passes (result_err out)) (ap (λ o. passes (result_err o)) (sym (told (Err e) part out reads)) ∙ missing refl) stays

  -- it was passed over: a variable is missing, and what is read behind it is the container's
  identity_passed : (r : Result WebIdentity CredentialsError) (whole : List Value) (part rest journal : List Pair) (given : Answer) → IsOk r ⊎ IsBehindIdentity whole journal →
      result_err given ≡ why_identity r part → passes (result_err given) ≡ true → AreOfUse (IsFileBehindProfile r) rest → IsBehindIdentity whole journal × AreOfUse HoldsHeaderValue rest
  identity_passed (Ok identity) whole part rest journal given either cause passing uses = at_odds (passes (result_err given)) passing (ap passes cause ∙ entry_stays (last_or None part))
  identity_passed (Err e) whole part rest journal given (inl fine) cause passing uses = no_success fine
  identity_passed (Err e) whole part rest journal given (inr behind) cause passing uses = (behind, uses)

  identity_low : (found : List Value) (part : List Pair) (out : Answer) → IsPart s WebIdentityToken found part out → (found ≡ []) × low.Reads (by_identity s.configuration no_policies (identity_in env)) part out
  unfolding member_tree web_identity
  identity_low found part out p = lowered (web_identity s.configuration None no_policies) found part out p.reads

  from_identity : (attempts : List (ProviderAttempt CredentialsError)) (found : List Value) (part : List Pair) (out : Answer) → GivesBehindProfile s found part → AreOfUse (IsFileBehindProfile (identity_in env)) part →
      Parts (WebIdentityToken ∷ EcsContainer ∷ Ec2InstanceMetadata ∷ []) attempts found part out → is_ok out ≡ true
  from_identity attempts found part out given uses (inl h) =
      let passing = goes_on s h.4 h.5 h.9 in
      let left = rest_used (IsFileBehindProfile (identity_in env)) part h.2 h.3 h.7 uses in
      let passed = identity_passed (identity_in env) found h.2 h.3 part h.4 given h.8.cause passing left in
      let line = (by_table s WebIdentityToken h.0 h.2 h.4 names h.8.reads).0 (passing_answer h.4 passing) in
      from_container _ h.1 h.3 out (behind_quiet IsBehindIdentity found h.0 h.1 part h.2 h.3 h.6 h.7 (identity_low h.0 h.2 h.4 h.8).0 line.0 passed.0) passed.1 h.10
  from_identity attempts found part out given uses (inr h) =
      identity_decides (identity_in env) part out (no_identity_passes env) (identity_low found part out h.0).1 (decides s out h.1) uses

  -- ---- the profile

  plan_decides : (p : Planned) (found : List Value) (part : List Pair) (out : Answer) → GivesBehindEnvironment s p found part →
      Reads (follows_plan s p) found part out → passes (result_err out) ≡ false → AreOfUse (IsFile env p) part → is_ok out ≡ true
  plan_decides (Ok p) found part out given reads stays uses = plan_succeeds s p found part out reads uses given
  plan_decides (Err e) found part out given reads stays uses =
      at_odds (passes (result_err out)) (ap (λ o. passes (result_err o)) (sym (given_is (Err (refusal e)) out found part reads).2) ∙ refusal_passes e given.0) stays

  -- it was passed over: there is no plan, and it found and asked nothing; what is read behind it is not the profile's
  plan_passed : (p : Planned) (found whole : List Value) (part rest journal : List Pair) (out : Answer) → GivesBehindEnvironment s p whole journal → PlannedCause s p found part out → passes (result_err out) ≡ true →
      AreOfUse (IsFile env p) rest → GivesBehindProfile s whole journal × AreOfUse (IsFileBehindProfile (identity_in env)) rest × (found ≡ []) × (part ≡ [])
  plan_passed (Ok p) found whole part rest journal out given cause passing uses = at_odds (passes (result_err out)) passing (ap passes cause.cause ∙ plan_stays (result_err cause.given) (first_failure cause.role_part))
  plan_passed (Err e) found whole part rest journal out given cause passing uses = (given.1, uses, cause.0, cause.1)

  profile_answers : (found : List Value) (part : List Pair) (out : Answer) → GivesBehindEnvironment s the_plan found part → AreOfUse (IsFile env the_plan) part →
      IsPart s Profile found part out → passes (result_err out) ≡ false → is_ok out ≡ true
  unfolding member_tree profile
  profile_answers found part out given uses p stays = plan_decides the_plan found part out given p.reads stays uses

  from_profile : (attempts : List (ProviderAttempt CredentialsError)) (found : List Value) (part : List Pair) (out : Answer) → GivesBehindEnvironment s the_plan found part → AreOfUse (IsFile env the_plan) part →
      Parts (Profile ∷ WebIdentityToken ∷ EcsContainer ∷ Ec2InstanceMetadata ∷ []) attempts found part out → is_ok out ≡ true
  from_profile attempts found part out given uses (inl h) =
      let left = rest_used (IsFile env the_plan) part h.2 h.3 h.7 uses in
      let passed = plan_passed the_plan h.0 found h.2 h.3 part h.4 given h.8.cause (goes_on s h.4 h.5 h.9) left in
      from_identity _ h.1 h.3 out (behind_quiet (GivesBehindProfile s) found h.0 h.1 part h.2 h.3 h.6 h.7 passed.2 passed.3 passed.0) passed.1 h.10
  from_profile attempts found part out given uses (inr h) = profile_answers found part out given uses h.0 (decides s out h.1)

  -- ---- the environment

  environment_low : (found : List Value) (part : List Pair) (out : Answer) → IsPart s Environment found part out → (found ≡ []) × low.Reads (by_environment env) part out
  unfolding member_tree
  environment_low found part out p = lowered (by_environment env) found part out p.reads

  environment_told : (found : List Value) (part : List Pair) (out : Answer) → IsPart s Environment found part out → environment env ≡ out
  environment_told found part out p = told (environment env) part out (environment_low found part out p).1

  environment_answers : (out : Answer) → HasTexts env → environment env ≡ out → passes (result_err out) ≡ false → is_ok out ≡ true
  environment_answers out texts is stays =
      let cause = ap result_err (sym is) ∙ texts_cause env texts in
      no_error out (cause ∙ nothing_missing (missing_variable env) (ap passes (sym cause) ∙ stays))

  environment_passed : (found : List Value) (journal : List Pair) (given : Answer) → HoldsKeys env ⊎ GivesBehindEnvironment s the_plan found journal → environment env ≡ given → passes (result_err given) ≡ true →
      GivesBehindEnvironment s the_plan found journal
  environment_passed found journal given (inl keys) is passing = success_decides given (ap is_ok (sym is) ∙ keys_given env keys) passing
  environment_passed found journal given (inr behind) is passing = behind

  from_environment : (found : List Value) (journal : List Pair) (out : Answer) → IsValid s found journal →
      Parts (Environment ∷ Profile ∷ WebIdentityToken ∷ EcsContainer ∷ Ec2InstanceMetadata ∷ []) [] found journal out → is_ok out ≡ true
  from_environment found journal out valid (inl h) =
      let none = environment_low h.0 h.2 h.4 h.8 in
      let behind = environment_passed found journal h.4 valid.given (environment_told h.0 h.2 h.4 h.8) (goes_on s h.4 h.5 h.9) in
      from_profile (attempt (credentials_chain s) Environment h.5 ∷ []) h.1 h.3 out
      (behind_quiet (GivesBehindEnvironment s the_plan) found h.0 h.1 journal h.2 h.3 h.6 h.7 none.0 (done_quiet (environment env) h.2 h.4 none.1) behind)
      (rest_used (IsFile env the_plan) journal h.2 h.3 h.7 valid.answers) h.10
  from_environment found journal out valid (inr h) = environment_answers out valid.texts (environment_told found journal out h.0) (decides s out h.1)

pub valid_loaded : (s : Setting) (found : List Value) (journal : List Pair) (out : Answer) → IsContainerUri s.configuration.environment s.container → Resolves s found journal out → IsValid s found journal → is_ok out ≡ true
valid_loaded s found journal out names resolves valid = from_environment s names found journal out valid resolves
