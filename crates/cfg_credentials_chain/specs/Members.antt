-- Members of chains of credentials providers.
use Rattle.std.specs.Prelude.{◌≡◌, ℕ, List, Option, Some, None, Ok}
use Rattle.cfg_types.specs.Keys.{Keys}
use Rattle.cfg_types.specs.Environment.{Variables}
use Rattle.cfg_exchange.specs.declared.container.ContainerUri.{ContainerUri}
use Rattle.cfg_exchange.specs.Containers.{IsContainerUri}
use Rattle.cfg_kept.specs.declared.place.Place.TheVariants.{Chain}
use Rattle.cfg_kept.specs.Kinds.{States, place_states}
use Rattle.cfg_kept.specs.KeptInquiry.{KeptInquiry, Gives, lift}
use Rattle.cfg_imds_credentials.specs.Metadata.{metadata}
use Rattle.cfg_imds_credentials.specs.Settings.{MetadataSetting}
use Rattle.cfg_providers.specs.ContainerSetups.{ContainerSetup, asks_container}
use Rattle.cfg_providers.specs.CustomSources.{Answer}
use Rattle.cfg_providers.specs.EnvironmentKeys.{by_environment}
use Rattle.cfg_providers.specs.Processes.{credential_process}
use Rattle.cfg_providers.specs.ProcessSetups.{ProcessSetup}
use Rattle.cfg_providers.specs.WebIdentities.{web_identity}
use Rattle.cfg_providers.specs.WebIdentitySetups.{WebIdentitySetup}
use Rattle.cfg_login.specs.declared.asked_by.AskedBy.TheVariants.{Caller}
use Rattle.cfg_login.specs.SignIns.{sign_in_credentials}
use Rattle.cfg_login.specs.SignInSetups.{SignInSetup}
use Rattle.cfg_sso.specs.SsoCredentials.{sso_credentials}
use Rattle.cfg_sso.specs.SsoSetups.{SsoSetup}
use Rattle.cfg_sso.specs.Tokens.{sso_key}
use Rattle.cfg_token.specs.declared.token_key.TokenKey.{TokenKey}
use Rattle.cfg_token.specs.declared.token_key.TokenKey.TheVariants.{Login}
use Rattle.cfg_chain.specs.Settings.{ChainSetting, Services, AreServices, setting}
use Rattle.cfg_chain.specs.profile.Plans.{key_of}
use Rattle.cfg_chain.specs.profile.Profiles.{profile}
use Rattle.cfg_assume_role.specs.declared.call.RoleCall.{RoleCall}
use Rattle.cfg_assume_role.specs.Bases as base
use Rattle.cfg_assume_role.specs.Bases.{Base, IsBaseTree, base_key}
use Rattle.cfg_assume_role.specs.Roles.{role_tree}

-- A member, as contracts see it: each provider by what it was set to, credentials, or a caller's own
-- source by what it answers and what it falls back on.
pub data Asked : Type 0 where
  OfEnvironment : (variables : Variables) → Asked
  OfProcess : (process : ProcessSetup) → Asked
  OfWebIdentity : (identity : WebIdentitySetup) → Asked
  OfContainer : (container : ContainerSetup) → Asked
  OfMetadata : (metadata : MetadataSetting) → Asked
  OfSession : (session : SsoSetup) → Asked
  OfSignIn : (session : SignInSetup) → Asked
  OfProfile : (over : ChainSetting) → Asked
  ByDefault : (over : ChainSetting) → Asked
  ForRole : (call : RoleCall) → (base : Base) → Asked
  Given : (keys : Keys) → Asked
  ByCaller : (answer : Answer) → (fallback : Option Keys) → Asked

-- The tree of a member: what it asks, finds and leaves and, over the answers and the found values, its
-- outcome. That of a container is at what its variables name, and that of a profile or a default chain over the
-- services that its configuration names: there is one answer.
abbrev pub IsMemberTree : Asked → KeptInquiry Answer → Type 0
IsMemberTree (OfEnvironment env) tree = tree ≡ lift (by_environment env)
IsMemberTree (OfProcess p) tree = tree ≡ lift (credential_process p.command p.account_id)
IsMemberTree (OfWebIdentity w) tree = tree ≡ lift (web_identity w.configuration w.given w.policies)
IsMemberTree (OfContainer c) tree = (named : ContainerUri) × IsContainerUri c.configuration.environment named × (tree ≡ lift (asks_container c named))
IsMemberTree (OfMetadata m) tree = tree ≡ metadata m
IsMemberTree (OfSession s) tree = tree ≡ sso_credentials s.configuration s.sso
IsMemberTree (OfSignIn s) tree = tree ≡ sign_in_credentials s.configuration s.session Caller
IsMemberTree (OfProfile over) tree = (services : Services) × AreServices over services × (tree ≡ profile (setting over services))
IsMemberTree (ByDefault over) tree = IsBaseTree (base.ByDefault over) tree
IsMemberTree (ForRole call b) tree = (signer : KeptInquiry Answer) × IsBaseTree b signer × (tree ≡ role_tree call signer)
IsMemberTree (Given keys) tree = tree ≡ Gives (Ok keys)
IsMemberTree (ByCaller answer fallback) tree = tree ≡ Gives answer

-- whose token it needs
abbrev pub needed_key : Asked → Option TokenKey
needed_key (OfSession s) = sso_key s.sso
needed_key (OfSignIn s) = Some (Login s.session)
needed_key (OfProfile over) = key_of over.configuration
needed_key (ByDefault over) = key_of over.configuration
needed_key (ForRole call b) = base_key b
needed_key _ = None

-- what it falls back on, by what is kept of it: the keys that were last retrieved from instance metadata,
-- or those of a caller's own source
abbrev pub fallback_of : Asked → States → Option Keys
fallback_of (OfMetadata m) states = (place_states states m.place).retrieved
fallback_of (ByDefault over) states = (place_states states Chain).retrieved
fallback_of (ByCaller answer fallback) states = fallback
fallback_of _ states = None

-- ---- by name

-- a name, and what stands under it
abbrev pub NamedAsked : Type 0
NamedAsked = List ℕ × Asked

abbrev pub needed_in : NamedAsked → Option TokenKey
needed_in m = needed_key m.1

abbrev pub fallback_in : NamedAsked → States → Option Keys
fallback_in m states = fallback_of m.1 states

-- the name under which the chain tells of it
abbrev pub name_in : NamedAsked → List ℕ
name_in m = m.0

-- The tree is that of the member.
abbrev pub IsNamedTree : NamedAsked → KeptInquiry Answer → Type 0
IsNamedTree m tree = IsMemberTree m.1 tree
