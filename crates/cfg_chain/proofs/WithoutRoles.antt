-- What never asks IAM Identity Center for the credentials of a role.
use Rattle.std.proofs.Common.{◌≡◌, ℕ, zero, suc, List, [], ◌∷◌, Bool, true, false, Option, Some, None, Result, Ok, Err, refl}
use Rattle.std.specs.Prelude.{◌-◌, if◌then◌else◌}
use Rattle.cfg_types.specs.Environment.{Variables}
use Rattle.cfg_types.specs.Keys.{Keys}
use Rattle.cfg_types.specs.declared.errors.CredentialsError.{CredentialsError}
use Rattle.cfg_types.specs.declared.errors.imds.ImdsError.{ImdsError}
use Rattle.cfg_types.specs.declared.request.Request.{Request}
use Rattle.cfg_types.specs.declared.request.Request.TheVariants as request
use Rattle.cfg_types.specs.declared.settings.CallSettings.{CallSettings}
use Rattle.cfg_world.specs.declared.ask.Question.{Question}
use Rattle.cfg_world.specs.declared.ask.Question.TheVariants.{Send, Now}
use Rattle.cfg_world.specs.declared.ask.Answer.{Answer as Given}
use Rattle.cfg_world.specs.Fits.{Pair}
use Rattle.cfg_world.specs.Inquiry.{Inquiry, Done, after}
use Rattle.cfg_world.specs.Leaves.{clock, moment_of, reading_file, looking_up, assuming, assuming_by_web_identity}
use Rattle.cfg_exchange.specs.declared.container.ContainerSettings.{ContainerSettings}
use Rattle.cfg_exchange.specs.declared.container.ContainerUri.{ContainerUri}
use Rattle.cfg_exchange.specs.declared.container.ContainerUri.TheVariants as uri
use Rattle.cfg_exchange.specs.declared.full_uri.FullUri.{FullUri}
use Rattle.cfg_exchange.specs.declared.full_uri.FullUri.TheVariants.{Unreadable, Hostless, Schemeless, Secure, AtAddress, AtName}
use Rattle.cfg_exchange.specs.declared.reading.ReplyKind.{ReplyKind}
use Rattle.cfg_exchange.specs.declared.reading.ReplyKind.TheVariants as kind
use Rattle.cfg_exchange.specs.declared.target.Target.{Target}
use Rattle.cfg_exchange.specs.Attempts.{asked, attempts}
use Rattle.cfg_exchange.specs.Classifiers.{credentials_repeats, is_repeated}
use Rattle.cfg_exchange.specs.Targets.{at_name, full_target}
use Rattle.cfg_exchange.specs.Containers.{token_file, token_text, token_by, auth_token, or_full_uri, container_target, answer_keys, attempt_limit, credentials_request, credentials_attempts, fetched_keys, with_token, container}
use Rattle.cfg_imds.specs.Clients.{ClientRules, place_of, settle, fetch, usable_error}
use Rattle.cfg_imds.specs.Fetches.{fetched, fetch_at}
use Rattle.cfg_imds.specs.Requests.{Service, token_request, get_request, tries, token_attempts, get_attempts}
use Rattle.cfg_imds.specs.Settles.{has_time_left, kept_value, renewal, renew, settle_at}
use Rattle.cfg_imds.specs.Tokens.{Token}
use Rattle.cfg_kept.specs.declared.place.Place.{Place}
use Rattle.cfg_kept.specs.Kinds.{MetadataTokenOf, MetadataTokenAt, token_in}
use Rattle.cfg_kept.specs.KeptInquiry.{KeptInquiry, Gives, lift}
use Rattle.cfg_kept.specs.MetadataHoldings.{token_holding}
use Rattle.cfg_kept.specs.RoleDocuments.{RoleKeys}
use Rattle.cfg_imds_credentials.specs.Metadata.{unless_fault, token_and_text, metadata_get, listing_path, listed, listing, path_of_role, documented, document, dated_keys, jittered, extended, dated, retrieves_at, retrieves, unless_disabled, settled, metadata}
use Rattle.cfg_imds_credentials.specs.Settings.{MetadataSetting}
use Rattle.cfg_profile.specs.declared.chain.RoleArn.{RoleArn}
use Rattle.cfg_profile.specs.Configuration.{Configuration}
use Rattle.cfg_profile.specs.Settings.{settings_of}
use Rattle.cfg_providers.specs.declared.web_identity_token.SessionPolicies.{SessionPolicies}
use Rattle.cfg_providers.specs.declared.web_identity_token.StaticConfiguration.{StaticConfiguration}
use Rattle.cfg_providers.specs.declared.web_identity_token.WebIdentity.{WebIdentity}
use Rattle.cfg_providers.specs.AssumeRole.{role_session, exchange, assumes, assumes_roles}
use Rattle.cfg_providers.specs.CustomSources.{Answer}
use Rattle.cfg_providers.specs.SessionNames.{session_name}
use Rattle.cfg_providers.specs.WebIdentities as identities
use Rattle.cfg_providers.specs.WebIdentities.{identity_of, identity_token, with_name, assumes_by_web_identity, by_identity, web_identity}
use Rattle.cfg_sso.specs.RoleRequests.{is_role_request}
use Rattle.cfg_sso.proofs.NoRoleAsked.{NeverAsks, onwards_without, after_without, bound_without, asked_bound_without, holding_without}
use Rattle.cfg_chain.specs.profile.Profiles.{marked, assumed}

-- ---- attempts

either_without : {R : Type 0} (b : Bool) (p q : Inquiry R) → NeverAsks (lift p) → NeverAsks (lift q) → NeverAsks (lift (if b then p else q))
either_without true p q n m = n
either_without false p q n m = m

attempts_without : (more : ℕ) (q : Question) (repeats : Given → Bool) → is_role_request q ≡ false → NeverAsks (lift (attempts more q repeats))
unfolding attempts asked
attempts_without zero q repeats n = (n, λ a. tt)
attempts_without (suc more) q repeats n = (n, λ a. either_without (repeats a) (attempts more q repeats) (Done (q, a)) (attempts_without more q repeats n) tt)

-- ---- sessions of roles

name_without : (base : List ℕ) (name : Option (List ℕ)) → NeverAsks (lift (session_name base name))
unfolding session_name clock
name_without base (Some name) = tt
name_without base None = (refl, λ a. tt)

exchange_without : (settings : CallSettings) (role : RoleArn) (signer : Keys) (name : List ℕ) → NeverAsks (lift (exchange settings role signer name))
unfolding assuming
exchange_without settings role signer name = (refl, λ a. tt)

assumes_without : (settings : CallSettings) (signer : Keys) (role : RoleArn) → NeverAsks (lift (assumes settings signer role))
unfolding assumes
assumes_without settings signer role = after_without (session_name role_session role.session_name) (exchange settings role signer) (name_without role_session role.session_name) (exchange_without settings role signer)

roles_without : (settings : CallSettings) (roles : List RoleArn) (signer : Keys) → NeverAsks (lift (assumes_roles settings roles signer))
unfolding assumes_roles
roles_without settings [] signer = tt
roles_without settings (role ∷ roles) signer = asked_bound_without (assumes settings signer role) (assumes_roles settings roles) (assumes_without settings signer role) (λ keys. roles_without settings roles keys)

pub last_role_without : (conf : Configuration) (roles : List RoleArn) (keys : Keys) → NeverAsks (lift (assumed conf roles keys))
unfolding assumed
last_role_without conf roles keys = after_without (assumes_roles (settings_of conf) roles keys) (λ last. Done (marked last)) (roles_without (settings_of conf) roles keys) (λ last. tt)

-- ---- web identity

module _ (conf : Configuration) (policies : SessionPolicies) where
  with_token_without : (identity : WebIdentity) (name : List ℕ) (token : Result (List ℕ) CredentialsError) → NeverAsks (lift (identities.with_token conf identity policies name token))
  unfolding identities.with_token assuming_by_web_identity
  with_token_without identity name (Ok token) = (refl, λ a. tt)
  with_token_without identity name (Err e) = tt

  file_without : (file : List ℕ) → NeverAsks (lift (identity_token file))
  unfolding identity_token reading_file
  file_without file = (refl, λ a. tt)

  pub assumed_without : (base : List ℕ) (identity : WebIdentity) → NeverAsks (lift (assumes_by_web_identity conf base identity policies))
  unfolding assumes_by_web_identity
  assumed_without base identity =
      after_without (session_name base identity.session_name) (with_name conf identity policies) (name_without base identity.session_name) (λ name.
      after_without (identity_token identity.web_identity_token_file) (identities.with_token conf identity policies name) (file_without identity.web_identity_token_file) (with_token_without identity name))

  identity_without : (identity : Result WebIdentity CredentialsError) → NeverAsks (lift (by_identity conf policies identity))
  identity_without (Ok identity) = assumed_without _ identity
  identity_without (Err e) = tt

pub web_identity_without : (conf : Configuration) (given : Option StaticConfiguration) (policies : SessionPolicies) → NeverAsks (lift (web_identity conf given policies))
unfolding web_identity
web_identity_without conf given policies = identity_without conf policies (identity_of conf.environment given)

-- ---- a container

token_by_without : (file text : Option (List ℕ)) → NeverAsks (lift (token_by file text))
unfolding reading_file
token_by_without (Some path) text = (refl, λ a. tt)
token_by_without None text = tt

named_without : (dns : Bool) (target : Target) (host : List ℕ) → NeverAsks (lift (at_name dns target host))
unfolding looking_up
named_without true target host = (refl, λ a. tt)
named_without false target host = tt

full_without : (dns : Bool) (named : FullUri) → NeverAsks (lift (full_target dns named))
unfolding full_target
full_without dns Unreadable = tt
full_without dns Hostless = tt
full_without dns Schemeless = tt
full_without dns (Secure target) = tt
full_without dns (AtAddress target address) = tt
full_without dns (AtName target host) = named_without dns target host

target_without : (dns : Bool) (named : ContainerUri) → NeverAsks (lift (container_target dns named))
unfolding container_target
target_without dns uri.NotSet = tt
target_without dns (uri.Relative target) = tt
target_without dns (uri.NoRelative text) = tt
target_without dns (uri.Full text named) = after_without (full_target dns named) (λ checked. Done (or_full_uri text checked)) (full_without dns named) (λ checked. tt)

keys_without : (settings : ContainerSettings) (token : Option (List ℕ)) (target : Target) → NeverAsks (lift (fetched_keys settings token target))
unfolding fetched_keys
keys_without settings token target =
    let call = credentials_request settings token target in
    after_without (credentials_attempts settings call) (λ last. Done (answer_keys last.1))
    (attempts_without (attempt_limit settings.sleep - 1) (Send (request.Http call)) (is_repeated kind.Document credentials_repeats) refl) (λ last. tt)

pub container_without : (env : Variables) (settings : ContainerSettings) (place : ContainerUri) → NeverAsks (lift (container env settings place))
unfolding container auth_token
container_without env settings place =
    asked_bound_without (auth_token env) (with_token settings place) (token_by_without (token_file env) (token_text env)) (λ token.
    asked_bound_without (container_target settings.dns place) (fetched_keys settings token) (target_without settings.dns place) (keys_without settings token))

-- ---- instance metadata

tries_without : (s : Service) (k : ReplyKind) (r : Request) → is_role_request (Send r) ≡ false → NeverAsks (lift (tries s k r))
unfolding tries
tries_without s k r n = attempts_without (s.settings.max_attempts - 1) (Send r) (is_repeated k s.repeats) n

renew_without : (s : Service) (endpoint : List ℕ) → NeverAsks (lift (renew s endpoint))
unfolding renew asked
renew_without s endpoint =
    after_without (token_attempts s endpoint) (λ reply. after (asked Now) (λ reading. Done (renewal reply reading)))
    (tries_without s kind.MetadataToken (token_request s.settings endpoint) refl) (λ reply. (refl, λ a. tt))

settle_without : (s : Service) (endpoint : List ℕ) (kept : Option Token) → NeverAsks (lift (settle_at s endpoint kept))
unfolding settle_at clock
settle_without s endpoint kept =
    (refl, λ a. either_without (has_time_left kept (moment_of a)) (Done (Ok (kept_value kept), kept)) (renew s endpoint) tt (renew_without s endpoint))

fetch_without : (s : Service) (endpoint path token : List ℕ) → NeverAsks (lift (fetch_at s endpoint path token))
unfolding fetch_at
fetch_without s endpoint path token =
    after_without (get_attempts s endpoint path token) (λ last. Done (fetched last))
    (tries_without s kind.MetadataText (get_request s.settings endpoint path token) refl) (λ last. tt)

module _ (client : ClientRules) (place : Place) where
  holding_of_token : NeverAsks (token_holding client place)
  unfolding token_holding
  holding_of_token =
      holding_without (MetadataTokenOf place) (MetadataTokenAt place) (λ found. settle client (token_in found)) (λ found. settle_without client.service (place_of client.endpoint) (token_in found))

  text_without : (path : List ℕ) → NeverAsks (token_and_text client place path)
  unfolding token_and_text
  text_without path = bound_without (token_holding client place) (λ token. lift (fetch client path token)) holding_of_token (fetch_without client.service (place_of client.endpoint) path)

  unless_without : (fault : Option ImdsError) (asks : KeptInquiry (Result Pair ImdsError)) → NeverAsks asks → NeverAsks (unless_fault fault asks)
  unless_without (Some e) asks n = tt
  unless_without None asks n = n

  get_without : (path : List ℕ) → NeverAsks (metadata_get client place path)
  unfolding metadata_get
  get_without path = unless_without (usable_error client path) (token_and_text client place path) (text_without path)

  path_without : (role : Option (List ℕ)) → NeverAsks (path_of_role client place role)
  unfolding path_of_role listing
  path_without (Some role) = tt
  path_without None = onwards_without (metadata_get client place listing_path) (λ got. Gives (listed got)) (get_without listing_path) (λ got. tt)

  dated_without : (role : RoleKeys) → NeverAsks (lift (dated role))
  unfolding dated extended jittered asked
  dated_without role = (refl, λ a. either_without _ (jittered role (Now, a)) (Done (dated_keys role (Now, a) None)) (refl, λ b. tt) tt)

  at_path_without : (path : List ℕ) → NeverAsks (retrieves_at client place path)
  unfolding retrieves_at document
  at_path_without path =
      bound_without (document client place path) (λ role. lift (dated role))
      (onwards_without (metadata_get client place path) (λ got. Gives (documented got)) (get_without path) (λ got. tt)) dated_without

  retrieves_without : (role : Option (List ℕ)) → NeverAsks (retrieves client place role)
  unfolding retrieves
  retrieves_without role = bound_without (path_of_role client place role) (retrieves_at client place) (path_without role) at_path_without

  settled_without : (answer : Answer) → NeverAsks (settled place answer)
  settled_without (Ok keys) = tt
  settled_without (Err e) = λ found. tt

pub choice_without : {R : Type 0} (b : Bool) (p q : KeptInquiry R) → NeverAsks p → NeverAsks q → NeverAsks (if b then p else q)
choice_without true p q n m = n
choice_without false p q n m = m

pub metadata_without : (s : MetadataSetting) → NeverAsks (metadata s)
unfolding metadata unless_disabled
metadata_without s =
    onwards_without (unless_disabled s) (settled s.place) (choice_without s.disabled _ (retrieves s.client s.place s.role) tt (retrieves_without s.client s.place s.role)) (settled_without s.client s.place)
