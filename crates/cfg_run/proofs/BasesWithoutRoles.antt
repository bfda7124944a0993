-- No base of a plan asks for a role.
use Rattle.cfg_types.specs.declared.errors.CredentialsError.{CredentialsError}
use Rattle.cfg_types.specs.declared.errors.imds.ImdsError.{ImdsError}
use Rattle.cfg_types.specs.declared.request.Request.{Request}
use Rattle.cfg_types.specs.declared.request.Request.TheVariants as request
use Rattle.cfg_world.specs.declared.ask.Question.{Question}
use Rattle.cfg_world.specs.declared.ask.Question.TheVariants.{Send, Now}
use Rattle.cfg_world.specs.declared.ask.Answer.{Answer as Given}
use Rattle.cfg_world.specs.Inquiry.{Inquiry, Done, after}
use Rattle.cfg_exchange.specs.declared.container.ContainerSettings.{ContainerSettings}
use Rattle.cfg_exchange.specs.declared.container.ContainerUri.{ContainerUri}
use Rattle.cfg_exchange.specs.declared.container.ContainerUri.TheVariants as uri
use Rattle.cfg_exchange.specs.declared.full_uri.FullUri.{FullUri}
use Rattle.cfg_exchange.specs.declared.full_uri.FullUri.TheVariants.{Unreadable, Hostless, Schemeless, Secure, AtAddress, AtName}
use Rattle.cfg_exchange.specs.declared.reading.ReplyKind.{ReplyKind}
use Rattle.cfg_exchange.specs.declared.reading.ReplyKind.TheVariants as kind
use Rattle.cfg_exchange.specs.declared.target.Target.{Target}
use Rattle.cfg_exchange.specs.Attempts.{asked, attempts}
use Rattle.cfg_exchange.specs.Classifiers.{credentials_repeats, is_repeated}
use Rattle.cfg_exchange.specs.Targets.{at_name, full_target}
use Rattle.cfg_exchange.specs.Containers.{token_file, token_text, token_by, auth_token, or_full_uri, container_target, answer_keys, attempt_limit, credentials_request, credentials_attempts, fetched_keys, with_token, container}
use Rattle.cfg_imds.specs.Clients.{ClientRules, place_of, settle, fetch, usable_error}
use Rattle.cfg_imds.specs.Fetches.{fetched, fetch_at}
use Rattle.cfg_imds.specs.Requests.{Service, token_request, get_request, tries, token_attempts, get_attempts}
use Rattle.cfg_imds.specs.Settles.{has_time_left, kept_value, renewal, renew, settle_at}
use Rattle.cfg_imds.specs.Tokens.{Token}
use Rattle.cfg_kept.specs.declared.place.Place.{Place}
use Rattle.cfg_kept.specs.Kinds.{MetadataTokenOf, MetadataTokenAt, token_in}
use Rattle.cfg_kept.specs.KeptInquiry.{KeptInquiry, Gives, lift}
use Rattle.cfg_kept.specs.MetadataHoldings.{token_holding}
use Rattle.cfg_kept.specs.RoleDocuments.{RoleKeys}
use Rattle.cfg_imds_credentials.specs.Metadata.{unless_fault, token_and_text, metadata_get, listing_path, listed, listing, path_of_role, documented, document, dated_keys, jittered, extended, dated, retrieves_at, retrieves, unless_disabled, settled, metadata}
use Rattle.cfg_imds_credentials.specs.Settings.{MetadataSetting}
use Rattle.cfg_profile.specs.Configuration.{Configuration}
use Rattle.cfg_providers.specs.declared.web_identity_token.SessionPolicies.{SessionPolicies}
use Rattle.cfg_providers.specs.declared.web_identity_token.WebIdentity.{WebIdentity}
use Rattle.cfg_providers.specs.CustomSources.{Answer}
use Rattle.cfg_providers.specs.SessionNames.{session_name}
use Rattle.cfg_providers.specs.WebIdentities as identities
use Rattle.std.proofs.Common.{◌≡◌, ℕ, zero, suc, List, Bool, true, false, Option, Some, None, Result, Ok, Err, refl}
use Rattle.std.specs.Prelude.{◌-◌, codes, if◌then◌else◌}
use Rattle.cfg_types.specs.Environment.{Variables}
use Rattle.cfg_world.specs.Fits.{Pair}
use Rattle.cfg_world.specs.Leaves.{clock, moment_of, reading_file, looking_up, running, assuming_by_web_identity}
use Rattle.cfg_providers.specs.EnvironmentKeys.{by_environment}
use Rattle.cfg_providers.specs.CustomSources.{last_named}
use Rattle.cfg_providers.specs.Processes.{credential_process}
use Rattle.cfg_providers.specs.WebIdentities.{no_policies, identity_token, with_name, assumes_by_web_identity}
use Rattle.cfg_profile.specs.declared.chain.BaseProvider.{BaseProvider}
use Rattle.cfg_profile.specs.declared.chain.BaseProvider.TheVariants as base
use Rattle.cfg_profile.specs.NamedSources.{is_alike}
use Rattle.cfg_login.specs.declared.asked_by.AskedBy.TheVariants as by
use Rattle.cfg_chain.specs.Settings.{Setting, container_settings, named_metadata}
use Rattle.cfg_chain.specs.profile.Bases.{by_container, unknown_source, built_in_source, source_or, named_source, profile_session, signed_on, base_tree, in_base, based}
use Rattle.cfg_run.specs.Roles.{signer_in}
use Rattle.cfg_run.proofs.NeverForRole.{NeverForRole, onwards_without, after_without, bound_without, asked_bound_without, holding_without}
use Rattle.cfg_run.proofs.SectionsWithoutRoles.{sso_without, sign_in_without}

-- ---- attempts

either_without : {R : Type 0} (b : Bool) (p q : Inquiry R) → NeverForRole (lift p) → NeverForRole (lift q) → NeverForRole (lift (if b then p else q))
either_without true p q n m = n
either_without false p q n m = m

attempts_without : (more : ℕ) (q : Question) (repeats : Given → Bool) → signer_in q ≡ None → NeverForRole (lift (attempts more q repeats))
unfolding attempts asked
attempts_without zero q repeats n = (n, λ a. tt)
attempts_without (suc more) q repeats n = (n, λ a. either_without (repeats a) (attempts more q repeats) (Done (q, a)) (attempts_without more q repeats n) tt)

-- ---- sessions of roles

name_without : (base : List ℕ) (name : Option (List ℕ)) → NeverForRole (lift (session_name base name))
unfolding session_name clock
name_without base (Some name) = tt
name_without base None = (refl, λ a. tt)

-- ---- web identity

module _ (conf : Configuration) (policies : SessionPolicies) where
  with_token_without : (identity : WebIdentity) (name : List ℕ) (token : Result (List ℕ) CredentialsError) → NeverForRole (lift (identities.with_token conf identity policies name token))
  unfolding identities.with_token assuming_by_web_identity
  with_token_without identity name (Ok token) = (refl, λ a. tt)
  with_token_without identity name (Err e) = tt

  file_without : (file : List ℕ) → NeverForRole (lift (identity_token file))
  unfolding identity_token reading_file
  file_without file = (refl, λ a. tt)

  identity_without : (base : List ℕ) (identity : WebIdentity) → NeverForRole (lift (assumes_by_web_identity conf base identity policies))
  unfolding assumes_by_web_identity
  identity_without base identity =
      after_without (session_name base identity.session_name) (with_name conf identity policies) (name_without base identity.session_name) (λ name.
      after_without (identity_token identity.web_identity_token_file) (identities.with_token conf identity policies name) (file_without identity.web_identity_token_file) (with_token_without identity name))

-- ---- a container

token_by_without : (file text : Option (List ℕ)) → NeverForRole (lift (token_by file text))
unfolding reading_file
token_by_without (Some path) text = (refl, λ a. tt)
token_by_without None text = tt

named_without : (dns : Bool) (target : Target) (host : List ℕ) → NeverForRole (lift (at_name dns target host))
unfolding looking_up
named_without true target host = (refl, λ a. tt)
named_without false target host = tt

full_without : (dns : Bool) (named : FullUri) → NeverForRole (lift (full_target dns named))
unfolding full_target
full_without dns Unreadable = tt
full_without dns Hostless = tt
full_without dns Schemeless = tt
full_without dns (Secure target) = tt
full_without dns (AtAddress target address) = tt
full_without dns (AtName target host) = named_without dns target host

target_without : (dns : Bool) (named : ContainerUri) → NeverForRole (lift (container_target dns named))
unfolding container_target
target_without dns uri.NotSet = tt
target_without dns (uri.Relative target) = tt
target_without dns (uri.NoRelative text) = tt
target_without dns (uri.Full text named) = after_without (full_target dns named) (λ checked. Done (or_full_uri text checked)) (full_without dns named) (λ checked. tt)

keys_without : (settings : ContainerSettings) (token : Option (List ℕ)) (target : Target) → NeverForRole (lift (fetched_keys settings token target))
unfolding fetched_keys
keys_without settings token target =
    let call = credentials_request settings token target in
    after_without (credentials_attempts settings call) (λ last. Done (answer_keys last.1))
    (attempts_without (attempt_limit settings.sleep - 1) (Send (request.Http call)) (is_repeated kind.Document credentials_repeats) refl) (λ last. tt)

container_without : (env : Variables) (settings : ContainerSettings) (place : ContainerUri) → NeverForRole (lift (container env settings place))
unfolding container auth_token
container_without env settings place =
    asked_bound_without (auth_token env) (with_token settings place) (token_by_without (token_file env) (token_text env)) (λ token.
    asked_bound_without (container_target settings.dns place) (fetched_keys settings token) (target_without settings.dns place) (keys_without settings token))

-- ---- instance metadata

tries_without : (s : Service) (k : ReplyKind) (r : Request) → signer_in (Send r) ≡ None → NeverForRole (lift (tries s k r))
unfolding tries
tries_without s k r n = attempts_without (s.settings.max_attempts - 1) (Send r) (is_repeated k s.repeats) n

renew_without : (s : Service) (endpoint : List ℕ) → NeverForRole (lift (renew s endpoint))
unfolding renew asked
renew_without s endpoint =
    after_without (token_attempts s endpoint) (λ reply. after (asked Now) (λ reading. Done (renewal reply reading)))
    (tries_without s kind.MetadataToken (token_request s.settings endpoint) refl) (λ reply. (refl, λ a. tt))

settle_without : (s : Service) (endpoint : List ℕ) (kept : Option Token) → NeverForRole (lift (settle_at s endpoint kept))
unfolding settle_at clock
settle_without s endpoint kept =
    (refl, λ a. either_without (has_time_left kept (moment_of a)) (Done (Ok (kept_value kept), kept)) (renew s endpoint) tt (renew_without s endpoint))

fetch_without : (s : Service) (endpoint path token : List ℕ) → NeverForRole (lift (fetch_at s endpoint path token))
unfolding fetch_at
fetch_without s endpoint path token =
    after_without (get_attempts s endpoint path token) (λ last. Done (fetched last))
    (tries_without s kind.MetadataText (get_request s.settings endpoint path token) refl) (λ last. tt)

module _ (client : ClientRules) (place : Place) where
  holding_of_token : NeverForRole (token_holding client place)
  unfolding token_holding
  holding_of_token =
      holding_without (MetadataTokenOf place) (MetadataTokenAt place) (λ found. settle client (token_in found)) (λ found. settle_without client.service (place_of client.endpoint) (token_in found))

  text_without : (path : List ℕ) → NeverForRole (token_and_text client place path)
  unfolding token_and_text
  text_without path = bound_without (token_holding client place) (λ token. lift (fetch client path token)) holding_of_token (fetch_without client.service (place_of client.endpoint) path)

  unless_without : (fault : Option ImdsError) (asks : KeptInquiry (Result Pair ImdsError)) → NeverForRole asks → NeverForRole (unless_fault fault asks)
  unless_without (Some e) asks n = tt
  unless_without None asks n = n

  get_without : (path : List ℕ) → NeverForRole (metadata_get client place path)
  unfolding metadata_get
  get_without path = unless_without (usable_error client path) (token_and_text client place path) (text_without path)

  path_without : (role : Option (List ℕ)) → NeverForRole (path_of_role client place role)
  unfolding path_of_role listing
  path_without (Some role) = tt
  path_without None = onwards_without (metadata_get client place listing_path) (λ got. Gives (listed got)) (get_without listing_path) (λ got. tt)

  dated_without : (role : RoleKeys) → NeverForRole (lift (dated role))
  unfolding dated extended jittered asked
  dated_without role = (refl, λ a. either_without _ (jittered role (Now, a)) (Done (dated_keys role (Now, a) None)) (refl, λ b. tt) tt)

  at_path_without : (path : List ℕ) → NeverForRole (retrieves_at client place path)
  unfolding retrieves_at document
  at_path_without path =
      bound_without (document client place path) (λ role. lift (dated role))
      (onwards_without (metadata_get client place path) (λ got. Gives (documented got)) (get_without path) (λ got. tt)) dated_without

  retrieves_without : (role : Option (List ℕ)) → NeverForRole (retrieves client place role)
  unfolding retrieves
  retrieves_without role = bound_without (path_of_role client place role) (retrieves_at client place) (path_without role) at_path_without

  settled_without : (answer : Answer) → NeverForRole (settled place answer)
  settled_without (Ok keys) = tt
  settled_without (Err e) = λ found. tt

choice_without : {R : Type 0} (b : Bool) (p q : KeptInquiry R) → NeverForRole p → NeverForRole q → NeverForRole (if b then p else q)
choice_without true p q n m = n
choice_without false p q n m = m

metadata_without : (s : MetadataSetting) → NeverForRole (metadata s)
unfolding metadata unless_disabled
metadata_without s =
    onwards_without (unless_disabled s) (settled s.place) (choice_without s.disabled _ (retrieves s.client s.place s.role) tt (retrieves_without s.client s.place s.role)) (settled_without s.client s.place)

-- ---- the bases of plans

process_without : (command : List ℕ) (account : Option (List ℕ)) → NeverForRole (lift (credential_process command account))
unfolding credential_process running
process_without command account = (refl, λ a. tt)

built_in_without : (s : Setting) (name : List ℕ) → NeverForRole (built_in_source s name)
unfolding built_in_source
built_in_without s name =
    choice_without (is_alike name (codes "Environment")) (lift (by_environment s.configuration.environment)) _ tt
    (choice_without (is_alike name (codes "EcsContainer")) (lift (by_container s.configuration s.container)) _ (container_without s.configuration.environment (container_settings s.configuration) s.container)
    (choice_without (is_alike name (codes "Ec2InstanceMetadata")) (metadata (named_metadata s)) (Gives (unknown_source name)) (metadata_without (named_metadata s)) tt))

source_without : (s : Setting) (name : List ℕ) (own : Option Answer) → NeverForRole (source_or (built_in_source s name) own)
source_without s name (Some answer) = tt
source_without s name None = built_in_without s name

base_without : (s : Setting) (b : BaseProvider) → NeverForRole (base_tree s b)
unfolding base_tree named_source
base_without s (base.AccessKey keys) = tt
base_without s (base.NamedSource name) = source_without s name (last_named name s.sources)
base_without s (base.WebIdentityTokenRole arn file session) =
    identity_without s.configuration no_policies profile_session (record { web_identity_token_file = file; role_arn = arn; session_name = session })
base_without s (base.CredentialProcess command account) = process_without command account
base_without s (base.Sso session region url (Some account) (Some role)) = sso_without s.configuration (signed_on session region url account role)
base_without s (base.Sso session region url (Some account) None) = tt
base_without s (base.Sso session region url None (Some role)) = tt
base_without s (base.Sso session region url None None) = tt
base_without s (base.LoginSession session) = sign_in_without s.configuration session by.Profile

pub based_without : (s : Setting) (b : BaseProvider) → NeverForRole (based s b)
unfolding based
based_without s b = onwards_without (base_tree s b) (λ given. Gives (in_base given)) (base_without s b) (λ given. tt)
