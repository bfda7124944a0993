-- What looks at no sign-in session.
use Rattle.std.proofs.Common.{◌≡◌, ℕ, List, [], ◌∷◌, Bool, true, false, Option, Some, None, Result, Ok, Err, refl, inl, inr}
use Rattle.std.specs.Prelude.{◌⊎◌, codes, if◌then◌else◌}
use Rattle.cfg_types.specs.Keys.{Keys}
use Rattle.cfg_types.specs.declared.errors.CredentialsError.{CredentialsError}
use Rattle.cfg_types.specs.declared.errors.ProviderAttempt.{ProviderAttempt}
use Rattle.cfg_types.specs.declared.errors.imds.ImdsError.{ImdsError}
use Rattle.cfg_world.specs.Fits.{Pair}
use Rattle.cfg_imds.specs.Clients.{ClientRules, settle, fetch, usable_error}
use Rattle.cfg_kept.specs.declared.place.Place.{Place}
use Rattle.cfg_kept.specs.Chains.{passed, go_on, chain}
use Rattle.cfg_kept.specs.Kinds.{MetadataTokenOf, MetadataTokenAt, token_in}
use Rattle.cfg_kept.specs.KeptInquiry.{KeptInquiry, Gives, lift, onwards_if_ok}
use Rattle.cfg_kept.specs.MetadataHoldings.{token_holding}
use Rattle.cfg_kept.specs.SsoHoldings.{sso_spot}
use Rattle.cfg_imds_credentials.specs.Metadata.{unless_fault, token_and_text, metadata_get, listing_path, listed, listing, path_of_role, documented, document, dated, retrieves_at, retrieves, unless_disabled, settled, metadata}
use Rattle.cfg_imds_credentials.specs.Settings.{MetadataSetting}
use Rattle.cfg_profile.specs.Configuration.{Configuration}
use Rattle.cfg_profile.specs.Settings.{settings_of}
use Rattle.cfg_profile.specs.declared.chain.BaseProvider.{BaseProvider}
use Rattle.cfg_profile.specs.declared.chain.BaseProvider.TheVariants as base
use Rattle.cfg_profile.specs.declared.chain.ProfileChain.{ProfileChain}
use Rattle.cfg_profile.specs.NamedSources.{is_alike}
use Rattle.cfg_providers.specs.CustomSources.{Answer, last_named}
use Rattle.cfg_providers.specs.EnvironmentKeys.{by_environment}
use Rattle.cfg_providers.specs.Processes.{credential_process}
use Rattle.cfg_providers.specs.WebIdentities.{no_policies, assumes_by_web_identity, web_identity}
use Rattle.cfg_token.specs.declared.token_key.TokenKey.{TokenKey}
use Rattle.cfg_token.specs.SsoTokens.{sso_rules}
use Rattle.cfg_login.specs.FoundSessions.{is_session_spot}
use Rattle.cfg_login.proofs.OtherSpots.{NeverFinds, lift_elsewhere, onwards_elsewhere, if_ok_elsewhere, bound_elsewhere, holding_elsewhere, section_elsewhere}
use Rattle.cfg_sso.specs.declared.config.SsoProviderConfig.{SsoProviderConfig}
use Rattle.cfg_sso.specs.SsoCredentials.{behind_token, sso_credentials}
use Rattle.cfg_sso.specs.Tokens.{section_of, of_section, session_token, url_token, sso_key, token_by, sso_token}
use Rattle.cfg_chain.specs.declared.member.Member.{Member}
use Rattle.cfg_chain.specs.declared.member.Member.TheVariants.{Environment, Profile, WebIdentityToken, EcsContainer, Ec2InstanceMetadata}
use Rattle.cfg_chain.specs.Members.{member_tree, credentials_chain, default_members, default_chain}
use Rattle.cfg_chain.specs.Sessions.{IsSession, IsNoSession, PlansNoSession}
use Rattle.cfg_chain.specs.Settings.{Setting, chain_metadata, named_metadata}
use Rattle.cfg_chain.specs.profile.Bases.{by_container, unknown_source, built_in_source, source_or, named_source, profile_session, signed_on, base_tree, in_base, based}
use Rattle.cfg_chain.specs.profile.Plans.{Planned}
use Rattle.cfg_chain.specs.profile.Profiles.{assumed, follows_planned, follows_plan, profile}

abbrev pub Elsewhere : {R : Type 0} → KeptInquiry R → Type 0
Elsewhere tree = NeverFinds is_session_spot tree

-- ---- instance metadata

module _ (client : ClientRules) (place : Place) where
  settles_elsewhere : Elsewhere (token_holding client place)
  unfolding token_holding
  settles_elsewhere = holding_elsewhere is_session_spot (MetadataTokenOf place) (MetadataTokenAt place) (λ found. settle client (token_in found)) refl

  text_elsewhere : (path : List ℕ) → Elsewhere (token_and_text client place path)
  unfolding token_and_text
  text_elsewhere path =
      bound_elsewhere is_session_spot (token_holding client place) (λ token. lift (fetch client path token)) settles_elsewhere (λ token. lift_elsewhere is_session_spot (fetch client path token))

  unless_elsewhere : (fault : Option ImdsError) (asks : KeptInquiry (Result Pair ImdsError)) → Elsewhere asks → Elsewhere (unless_fault fault asks)
  unless_elsewhere (Some e) asks n = tt
  unless_elsewhere None asks n = n

  get_elsewhere : (path : List ℕ) → Elsewhere (metadata_get client place path)
  unfolding metadata_get
  get_elsewhere path = unless_elsewhere (usable_error client path) (token_and_text client place path) (text_elsewhere path)

  path_elsewhere : (role : Option (List ℕ)) → Elsewhere (path_of_role client place role)
  unfolding path_of_role listing
  path_elsewhere (Some role) = tt
  path_elsewhere None = onwards_elsewhere is_session_spot (metadata_get client place listing_path) (λ got. Gives (listed got)) (get_elsewhere listing_path) (λ got. tt)

  at_path_elsewhere : (path : List ℕ) → Elsewhere (retrieves_at client place path)
  unfolding retrieves_at document
  at_path_elsewhere path =
      bound_elsewhere is_session_spot (document client place path) (λ role. lift (dated role))
      (onwards_elsewhere is_session_spot (metadata_get client place path) (λ got. Gives (documented got)) (get_elsewhere path) (λ got. tt)) (λ role. lift_elsewhere is_session_spot (dated role))

  retrieves_elsewhere : (role : Option (List ℕ)) → Elsewhere (retrieves client place role)
  unfolding retrieves
  retrieves_elsewhere role = bound_elsewhere is_session_spot (path_of_role client place role) (retrieves_at client place) (path_elsewhere role) at_path_elsewhere

  settled_elsewhere : (answer : Answer) → Elsewhere (settled place answer)
  settled_elsewhere (Ok keys) = tt
  settled_elsewhere (Err e) = (refl, λ found. tt)

either_elsewhere : {R : Type 0} (b : Bool) (p q : KeptInquiry R) → Elsewhere p → Elsewhere q → Elsewhere (if b then p else q)
either_elsewhere true p q n m = n
either_elsewhere false p q n m = m

pub metadata_elsewhere : (s : MetadataSetting) → Elsewhere (metadata s)
unfolding metadata unless_disabled
metadata_elsewhere s =
    onwards_elsewhere is_session_spot (unless_disabled s) (settled s.place) (either_elsewhere s.disabled _ (retrieves s.client s.place s.role) tt (retrieves_elsewhere s.client s.place s.role)) (settled_elsewhere s.client s.place)

-- ---- IAM Identity Center

token_elsewhere : (conf : Configuration) (url : List ℕ) (key : Option TokenKey) → Elsewhere (token_by conf url key)
unfolding session_token
token_elsewhere conf url None = lift_elsewhere is_session_spot (url_token conf.environment url)
token_elsewhere conf url (Some key) =
    onwards_elsewhere is_session_spot (section_of conf key) (λ given. Gives (of_section given)) (section_elsewhere is_session_spot sso_rules sso_spot key conf.environment (settings_of conf) refl) (λ given. tt)

pub sign_on_elsewhere : (conf : Configuration) (sso : SsoProviderConfig) → Elsewhere (sso_credentials conf sso)
unfolding sso_credentials sso_token
sign_on_elsewhere conf sso =
    onwards_elsewhere is_session_spot (sso_token conf sso) (λ token. lift (behind_token conf sso token)) (token_elsewhere conf sso.start_url (sso_key sso)) (λ token. lift_elsewhere is_session_spot (behind_token conf sso token))

-- ---- bases

built_in_elsewhere : (s : Setting) (name : List ℕ) → Elsewhere (built_in_source s name)
unfolding built_in_source
built_in_elsewhere s name =
    either_elsewhere (is_alike name (codes "Environment")) (lift (by_environment s.configuration.environment)) _ tt
    (either_elsewhere (is_alike name (codes "EcsContainer")) (lift (by_container s.configuration s.container)) _ (lift_elsewhere is_session_spot (by_container s.configuration s.container))
    (either_elsewhere (is_alike name (codes "Ec2InstanceMetadata")) (metadata (named_metadata s)) (Gives (unknown_source name)) (metadata_elsewhere (named_metadata s)) tt))

source_elsewhere : (s : Setting) (name : List ℕ) (own : Option Answer) → Elsewhere (source_or (built_in_source s name) own)
source_elsewhere s name (Some answer) = tt
source_elsewhere s name None = built_in_elsewhere s name

base_session : (s : Setting) (b : BaseProvider) → (Elsewhere (base_tree s b) × IsNoSession b) ⊎ ((session : List ℕ) × IsSession b session)
unfolding base_tree named_source
base_session s (base.AccessKey keys) = inl (tt, tt)
base_session s (base.NamedSource name) = inl (source_elsewhere s name (last_named name s.sources), tt)
base_session s (base.WebIdentityTokenRole arn file session) =
    inl (lift_elsewhere is_session_spot (assumes_by_web_identity s.configuration profile_session (record { web_identity_token_file = file; role_arn = arn; session_name = session }) no_policies), tt)
base_session s (base.CredentialProcess command account) = inl (lift_elsewhere is_session_spot (credential_process command account), tt)
base_session s (base.Sso session region url (Some account) (Some role)) = inl (sign_on_elsewhere s.configuration (signed_on session region url account role), tt)
base_session s (base.Sso session region url (Some account) None) = inl (tt, tt)
base_session s (base.Sso session region url None (Some role)) = inl (tt, tt)
base_session s (base.Sso session region url None None) = inl (tt, tt)
base_session s (base.LoginSession session) = inr (session, refl)

-- a plan looks at no session, or it begins with one
pub planned_session : (s : Setting) (planned : Planned) →
    (Elsewhere (follows_plan s planned) × PlansNoSession planned) ⊎ ((p : ProfileChain) × (session : List ℕ) × (planned ≡ Ok p) × IsSession p.base session)
unfolding follows_planned based
planned_session s (Err e) = inl (tt, tt)
planned_session s (Ok p) =
    let next : Keys → KeptInquiry Answer = λ keys. lift (assumed s.configuration p.roles keys) in
    elim (base_session s p.base) [
      | inl n ↦ inl (
        onwards_elsewhere is_session_spot (based s p.base) (onwards_if_ok next)
            (onwards_elsewhere is_session_spot (base_tree s p.base) (λ given. Gives (in_base given)) n.0 (λ given. tt))
            (λ given. if_ok_elsewhere is_session_spot next given (λ keys. lift_elsewhere is_session_spot (assumed s.configuration p.roles keys))),
        n.1,
      )
      | inr k ↦ inr (p, k.0, refl, k.1)
    ]

-- ---- the chain

module _ (s : Setting) where
  abbrev Attempts : Type 0
  Attempts = List (ProviderAttempt CredentialsError)

  on_elsewhere : (members : List Member) (member : Member) (attempts : Attempts) (out : Answer) (o : Option CredentialsError) → ((more : Attempts) → Elsewhere (chain (credentials_chain s) members more)) →
      Elsewhere (go_on (credentials_chain s) (chain (credentials_chain s) members) member attempts out o)
  on_elsewhere members member attempts out (Some e) others = others _
  on_elsewhere members member attempts out None others = tt

  members_elsewhere : (members : List Member) → ((m : Member) → Elsewhere (member_tree s m)) → (attempts : Attempts) → Elsewhere (chain (credentials_chain s) members attempts)
  unfolding chain
  members_elsewhere [] all attempts = tt
  members_elsewhere (member ∷ members) all attempts =
      onwards_elsewhere is_session_spot (member_tree s member) (λ out. go_on (credentials_chain s) (chain (credentials_chain s) members) member attempts out (passed (credentials_chain s) out)) (all member)
      (λ out. on_elsewhere members member attempts out (passed (credentials_chain s) out) (members_elsewhere members all))

  member_elsewhere : Elsewhere (profile s) → (m : Member) → Elsewhere (member_tree s m)
  unfolding member_tree
  member_elsewhere n Environment = tt
  member_elsewhere n Profile = n
  member_elsewhere n WebIdentityToken = lift_elsewhere is_session_spot (web_identity s.configuration None no_policies)
  member_elsewhere n EcsContainer = lift_elsewhere is_session_spot (by_container s.configuration s.container)
  member_elsewhere n Ec2InstanceMetadata = metadata_elsewhere (chain_metadata s)

  pub chain_elsewhere : Elsewhere (profile s) → Elsewhere (default_chain s)
  chain_elsewhere n = members_elsewhere default_members (member_elsewhere n) []
