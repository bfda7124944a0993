-- The members of a chain that has nothing but the instance metadata service.
use Rattle.std.proofs.Common.{◌≡◌, ◌+◌, ℕ, List, [], ◌∷◌, ◌++◌, Bool, true, false, Option, Some, None, refl, sym, ap, ◌∙◌, subst, append-nil}
use Rattle.std.specs.Prelude.{Result, Ok, Err, codes, not, ◌&&◌, ◌||◌, is_none, if◌then◌else◌, ◌==◌}
use Rattle.std.specs.FinMap.{get, len}
use Rattle.std.specs.Str.{bytes_eq}
use denote.Hole.Carrier as carrier
use Rattle.cfg_types.specs.Keys.{Keys}
use Rattle.cfg_types.specs.Classes.{is_not_loaded_answer}
use Rattle.cfg_types.specs.Environment.{Variables, read_value, text_read, variable, readable}
use Rattle.cfg_types.specs.declared.errors.CredentialsError as errors
use Rattle.cfg_types.specs.declared.errors.CredentialsError.{CredentialsError}
use Rattle.cfg_types.specs.declared.errors.CredentialsError.TheVariants.{CredentialsNotLoaded}
use Rattle.cfg_types.specs.declared.errors.NotLoadedCause.TheVariants.{NotSet, NotConfigured}
use Rattle.cfg_types.specs.declared.errors.ProfileFileError.{ProfileFileError}
use Rattle.cfg_types.specs.declared.errors.ProfileFileError.TheVariants.{NoProfilesDefined}
use Rattle.cfg_types.specs.declared.errors.ProviderAttempt.{ProviderAttempt}
use Rattle.cfg_world.specs.Fits.{Pair}
use Rattle.cfg_world.specs.Inquiry.{after, if_ok}
use Rattle.cfg_kept.specs.Chains.{passed, attempt, go_on, chain}
use Rattle.cfg_kept.specs.Kinds.{Value, States}
use Rattle.cfg_kept.specs.KeptInquiry.{Gives, Runs, lift, onwards}
use Rattle.cfg_kept.proofs.Splits.{split_runs}
use Rattle.cfg_exchange.specs.Containers.{token_by, token_text, auth_token, container_target, IsUriBy, IsContainerUri, with_token, container}
use Rattle.cfg_exchange.specs.declared.container.ContainerUri.{ContainerUri}
use Rattle.cfg_exchange.specs.declared.container.ContainerUri.TheVariants as uri
use Rattle.cfg_profile.specs.Plans.{no_section, missing_profile, IsChainAt}
use Rattle.cfg_base.specs.Gives.{◌>>=◌}
use Rattle.cfg_base.specs.TextMap.{Named}
use Rattle.cfg_profile.specs.SectionParts.{SectionParts}
use Rattle.cfg_profile.specs.Selected.{selected_name}
use Rattle.cfg_profile.specs.declared.sections.ProfileSource.{ProfileSource}
use Rattle.cfg_profile.specs.declared.sections.ProfileSource.TheVariants.{Sections, Refused}
use Rattle.cfg_profile.proofs.PlanLaws.{the_plan}
use Rattle.cfg_providers.specs.CustomSources.{Answer}
use Rattle.cfg_providers.specs.EnvironmentKeys.{usable, is_not_unicode, environment}
use Rattle.cfg_providers.specs.EnvironmentCauses.{is_missing, needs_older_secret}
use Rattle.cfg_providers.specs.WebIdentities.{set_or_not, needed, identity_in, by_identity, no_policies, web_identity}
use Rattle.cfg_providers.specs.declared.web_identity_token.WebIdentity.{WebIdentity}
use Rattle.cfg_providers.proofs.EnvironmentFailures.{environment_not_loaded}
use Rattle.cfg_chain.specs.declared.member.Member.{Member}
use Rattle.cfg_chain.specs.declared.member.Member.TheVariants.{Environment, Profile, WebIdentityToken, EcsContainer, Ec2InstanceMetadata}
use Rattle.cfg_chain.specs.Members.{member_tree, credentials_chain}
use Rattle.cfg_chain.specs.Settings.{Setting, names_of, container_settings}
use Rattle.cfg_chain.specs.profile.Plans.{profile_plan, plan_in, plan, is_not_loaded_error, refusal}
use Rattle.cfg_chain.specs.profile.Profiles.{follows_plan, profile}
use Rattle.cfg_chain.proofs.PassedByTable.{planned_line}
use Rattle.cfg_endpoint.specs.Calls.{HasNoSections}
use Rattle.cfg_endpoint.proofs.Roles.{gives_run}

-- ---- variables

pub unread : (env : Variables) (name : List ℕ) → get env name ≡ None → readable env name ≡ None
unread env name none = ap (λ o. text_read (read_value o)) none

module _ (env : Variables) where
  environment_passes : get env (codes "AWS_ACCESS_KEY_ID") ≡ None → is_not_loaded_answer (environment env) ≡ true
  environment_passes none =
      let missing : is_missing env (codes "AWS_ACCESS_KEY_ID") ≡ true = ap (λ o. is_none (usable (read_value o)) && not (is_not_unicode (read_value o))) none in
      environment_not_loaded env ∙ ap (λ b. b || (needs_older_secret env && is_missing env (codes "SECRET_ACCESS_KEY"))) missing

  -- no web identity
  record Without : Type 0 where
    fault : CredentialsError
    is : identity_in env ≡ Err fault
    passes : is_not_loaded_answer (Err fault) ≡ true

  abbrev identity_by : Result (List ℕ) CredentialsError → Result WebIdentity CredentialsError
  identity_by o = do
    file ← o
    role ← needed (codes "AWS_ROLE_ARN") (variable env (codes "AWS_ROLE_ARN"))
    Ok (record { web_identity_token_file = file; role_arn = role; session_name = text_read (variable env (codes "AWS_ROLE_SESSION_NAME")) })

  no_identity : get env (codes "AWS_WEB_IDENTITY_TOKEN_FILE") ≡ None → Without
  unfolding errors.out-CredentialsError carrier.out identity_in
  no_identity none = record {
    fault = CredentialsNotLoaded (NotSet (codes "AWS_WEB_IDENTITY_TOKEN_FILE"));
    is = ap (λ (o : Option (List ℕ)). identity_by (set_or_not (codes "AWS_WEB_IDENTITY_TOKEN_FILE") o)) (unread env (codes "AWS_WEB_IDENTITY_TOKEN_FILE") none);
    passes = refl;
  }

  pub no_container : ((name : List ℕ) → get env name ≡ None) → (named : ContainerUri) → IsContainerUri env named → named ≡ uri.NotSet
  no_container none named h =
      subst (λ o. IsUriBy o None named) (unread env (codes "AWS_CONTAINER_CREDENTIALS_RELATIVE_URI") (none (codes "AWS_CONTAINER_CREDENTIALS_RELATIVE_URI")))
      (subst (λ o. IsUriBy (readable env (codes "AWS_CONTAINER_CREDENTIALS_RELATIVE_URI")) o named) (unread env (codes "AWS_CONTAINER_CREDENTIALS_FULL_URI") (none (codes "AWS_CONTAINER_CREDENTIALS_FULL_URI"))) h)

-- ---- sections

section_passes : (profiles : Named SectionParts) (name : List ℕ) → is_not_loaded_error (no_section profiles name) ≡ true
unfolding missing_profile
section_passes profiles name = by_test ((len profiles == 0) || bytes_eq name (codes "default"))
  where
    by_test : (b : Bool) → is_not_loaded_error (if b then NoProfilesDefined else missing_profile name (codes "the root profile")) ≡ true
    by_test true = refl
    by_test false = refl

no_plan : (profiles : ProfileSource) (name : List ℕ) (sources : List (List ℕ)) → HasNoSections profiles → (e : ProfileFileError) × (plan_in profiles name sources ≡ Err e) × (is_not_loaded_error e ≡ true)
unfolding profile_plan
no_plan (Refused reason) name sources h = absurd h
no_plan (Sections sets) name sources h =
    let e = no_section sets.profiles name in
    (e, (the_plan sets name sources).only (Err e) (record { resolved = Err e; chain = subst (λ o. IsChainAt sets name o (Err e)) (sym (h name)) refl; plan = refl }), section_passes sets.profiles name)

-- ---- members that are passed over

module _ (s : Setting) where
  -- nothing is found or asked, and the answer is that nothing was loaded
  abbrev PassesBy : Member → Type 0
  PassesBy member = (e : CredentialsError) × (member_tree s member ≡ Gives (Err e)) × (passed (credentials_chain s) (Err e) ≡ Some e)

  passes_by : (e : CredentialsError) → is_not_loaded_answer (Err e) ≡ true → passed (credentials_chain s) (Err e) ≡ Some e
  passes_by e h = ap (λ b. if b then Some e else None) h

  abbrev Attempts : Type 0
  Attempts = List (ProviderAttempt CredentialsError)

  passes_on : (member : Member) (members : List Member) (attempts : Attempts) (p : PassesBy member) → chain (credentials_chain s) (member ∷ members) attempts ≡ chain (credentials_chain s) members (attempts ++ attempt (credentials_chain s) member p.0 ∷ [])
  unfolding chain
  passes_on member members attempts p =
      ap (λ t. onwards t (λ out. go_on (credentials_chain s) (chain (credentials_chain s) members) member attempts out (passed (credentials_chain s) out))) p.1
      ∙ ap (λ o. go_on (credentials_chain s) (chain (credentials_chain s) members) member attempts (Err p.0) o) p.2

  not_loaded_is : (o : Answer) → is_not_loaded_answer o ≡ true → (e : CredentialsError) × (o ≡ Err e) × (is_not_loaded_answer (Err e) ≡ true)
  not_loaded_is (Ok keys) h = absurd cc
  not_loaded_is (Err e) h = (e, refl, h)

  environment_by : get s.configuration.environment (codes "AWS_ACCESS_KEY_ID") ≡ None → PassesBy Environment
  unfolding member_tree
  environment_by none = let n = not_loaded_is (environment s.configuration.environment) (environment_passes s.configuration.environment none) in (n.0, ap Gives n.1, passes_by n.0 n.2)

  profile_by : HasNoSections s.configuration.profiles → PassesBy Profile
  unfolding member_tree profile plan
  profile_by h =
      let p = no_plan s.configuration.profiles (selected_name s.configuration) (names_of s.sources) h in
      (refusal p.0, ap (follows_plan s) p.1, passes_by (refusal p.0) (planned_line s (Err p.0) [] [] (Err (refusal p.0)) (refl, refl) ∙ p.2))

  identity_by_name : get s.configuration.environment (codes "AWS_WEB_IDENTITY_TOKEN_FILE") ≡ None → PassesBy WebIdentityToken
  unfolding member_tree web_identity
  identity_by_name none =
      let w = no_identity s.configuration.environment none in
      (w.fault, ap (λ r. lift (by_identity s.configuration no_policies r)) w.is, passes_by w.fault w.passes)

  -- a container without a token
  pub container_without : get s.configuration.environment (codes "AWS_CONTAINER_AUTHORIZATION_TOKEN_FILE") ≡ None → get s.configuration.environment (codes "AWS_CONTAINER_AUTHORIZATION_TOKEN") ≡ None → (named : ContainerUri) → s.container ≡ named →
      member_tree s EcsContainer ≡ lift (with_token (container_settings s.configuration) named None)
  unfolding member_tree container auth_token
  container_without no_file no_text named h =
      let env = s.configuration.environment in
      let settings = container_settings s.configuration in
      ap (λ c. lift (container env settings c)) h
      ∙ ap (λ o. lift (after (token_by o (token_text env)) (if_ok (with_token settings named)))) (unread env (codes "AWS_CONTAINER_AUTHORIZATION_TOKEN_FILE") no_file)
      ∙ ap (λ o. lift (after (token_by None o) (if_ok (with_token settings named)))) (unread env (codes "AWS_CONTAINER_AUTHORIZATION_TOKEN") no_text)

  container_by : ((name : List ℕ) → get s.configuration.environment name ≡ None) → s.container ≡ uri.NotSet → PassesBy EcsContainer
  unfolding container_target errors.out-CredentialsError carrier.out
  container_by none h = (CredentialsNotLoaded NotConfigured, container_without (none (codes "AWS_CONTAINER_AUTHORIZATION_TOKEN_FILE")) (none (codes "AWS_CONTAINER_AUTHORIZATION_TOKEN")) uri.NotSet h, refl)

  -- what is left behind the environment, the profile and the web identity
  pub behind_three : get s.configuration.environment (codes "AWS_ACCESS_KEY_ID") ≡ None → get s.configuration.environment (codes "AWS_WEB_IDENTITY_TOKEN_FILE") ≡ None → HasNoSections s.configuration.profiles → (members : List Member) →
      (attempts : Attempts) × (chain (credentials_chain s) (Environment ∷ Profile ∷ WebIdentityToken ∷ members) [] ≡ chain (credentials_chain s) members attempts)
  behind_three no_key no_file sections members =
      let a = environment_by no_key in
      let b = profile_by sections in
      let c = identity_by_name no_file in
      let one : Attempts = [] ++ attempt (credentials_chain s) Environment a.0 ∷ [] in
      let two : Attempts = one ++ attempt (credentials_chain s) Profile b.0 ∷ [] in (
        two ++ attempt (credentials_chain s) WebIdentityToken c.0 ∷ [],
        passes_on Environment (Profile ∷ WebIdentityToken ∷ members) [] a ∙ passes_on Profile (WebIdentityToken ∷ members) one b ∙ passes_on WebIdentityToken members two c,
      )

  -- what is left is the instance metadata service
  pub last_member : ((name : List ℕ) → get s.configuration.environment name ≡ None) → HasNoSections s.configuration.profiles → s.container ≡ uri.NotSet →
      (attempts : Attempts) × (chain (credentials_chain s) (Environment ∷ Profile ∷ WebIdentityToken ∷ EcsContainer ∷ Ec2InstanceMetadata ∷ []) [] ≡ chain (credentials_chain s) (Ec2InstanceMetadata ∷ []) attempts)
  last_member none sections unset =
      let t = behind_three (none (codes "AWS_ACCESS_KEY_ID")) (none (codes "AWS_WEB_IDENTITY_TOKEN_FILE")) sections (EcsContainer ∷ Ec2InstanceMetadata ∷ []) in
      let d = container_by none unset in
      (t.0 ++ attempt (credentials_chain s) EcsContainer d.0 ∷ [], t.1 ∙ passes_on EcsContainer (Ec2InstanceMetadata ∷ []) t.0 d)

  -- where the first of the members gives keys, they are the chain's
  pub first_gives : (member : Member) (members : List Member) (attempts : Attempts) (old : States) (found : List Value) (part : List Pair) (out : Answer) (new : Option States) → Runs (chain (credentials_chain s) (member ∷ members) attempts) (Some old) found part out new →
      ((f : List Value) (p : List Pair) (o : Answer) (k : Option States) → Runs (member_tree s member) (Some old) f p o k → (rest : List Pair) → part ≡ p ++ rest → (keys : Keys) × (o ≡ Ok keys)) →
      (f : List Value) × Runs (member_tree s member) (Some old) f part out new
  unfolding chain
  first_gives member members attempts old found part out new runs gives =
      let r = split_runs (member_tree s member) (λ out. go_on (credentials_chain s) (chain (credentials_chain s) members) member attempts out (passed (credentials_chain s) out)) (Some old) new found part out runs in
      let g = gives r.found_first r.part r.middle r.kept r.first r.rest r.parts in
      let behind : Runs (Gives (Ok g.0)) r.kept r.found_then r.rest out new = subst (λ m. Runs (go_on (credentials_chain s) (chain (credentials_chain s) members) member attempts m (passed (credentials_chain s) m)) r.kept r.found_then r.rest out new) g.1 r.then in
      let end = gives_run (Ok g.0) r.kept new r.found_then r.rest out behind in
      let whole : part ≡ r.part = r.parts ∙ ap (λ t. r.part ++ t) end.1 ∙ append-nil r.part in (
        r.found_first,
        subst (λ j. Runs (member_tree s member) (Some old) r.found_first j out new) (sym whole)
            (subst (λ k. Runs (member_tree s member) (Some old) r.found_first r.part out k) end.3
            (subst (λ o. Runs (member_tree s member) (Some old) r.found_first r.part o r.kept) (g.1 ∙ end.2) r.first)),
      )
