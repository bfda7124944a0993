-- What each member of the default chain asks and reads.
use Rattle.std.specs.Prelude.{ℕ, List, [], ◌∷◌, None, codes}
use Rattle.cfg_types.specs.Keys.{Keys}
use Rattle.cfg_types.specs.declared.errors.CredentialsError.{CredentialsError}
use Rattle.cfg_kept.specs.KeptInquiry.{KeptInquiry, lift}
use Rattle.cfg_imds_credentials.specs.Metadata.{metadata}
use Rattle.cfg_providers.specs.CustomSources.{Answer}
use Rattle.cfg_providers.specs.EnvironmentKeys.{by_environment}
use Rattle.cfg_providers.specs.WebIdentities.{no_policies, web_identity}
use Rattle.cfg_chain.specs.declared.member.Member.{Member}
use Rattle.cfg_chain.specs.declared.member.Member.TheVariants.{Environment, Profile, WebIdentityToken, EcsContainer, Ec2InstanceMetadata}
use Rattle.cfg_meta.specs.CredentialsAnswers.{is_not_loaded, none_loaded}
use Rattle.cfg_chain.specs.Settings.{Setting, chain_metadata}
use Rattle.cfg_kept.specs.Chains.{Chain, chain}
use Rattle.cfg_chain.specs.profile.Bases.{by_container}
use Rattle.cfg_chain.specs.profile.Profiles.{profile}

-- the name under which the chain tells of a member
abbrev pub name_of : Member → List ℕ
name_of Environment = codes "Environment"
name_of Profile = codes "Profile"
name_of WebIdentityToken = codes "WebIdentityToken"
name_of EcsContainer = codes "EcsContainer"
name_of Ec2InstanceMetadata = codes "Ec2InstanceMetadata"

-- What a member asks, finds and leaves and, over the answers and the found values, its outcome.
unfoldable pub member_tree : Setting → Member → KeptInquiry Answer
member_tree s Environment = lift (by_environment s.configuration.environment)
member_tree s Profile = profile s
member_tree s WebIdentityToken = lift (web_identity s.configuration None no_policies)
member_tree s EcsContainer = lift (by_container s.configuration s.container)
member_tree s Ec2InstanceMetadata = metadata (chain_metadata s)

-- a chain of credentials providers, over this setting
abbrev pub credentials_chain : Setting → Chain Member Keys CredentialsError
credentials_chain s = record { name_of = name_of; tree = member_tree s; is_not_loaded = is_not_loaded; none_loaded = none_loaded }

-- the members of the default chain, in its order
abbrev pub default_members : List Member
default_members = Environment ∷ Profile ∷ WebIdentityToken ∷ EcsContainer ∷ Ec2InstanceMetadata ∷ []

-- these members, in order
abbrev pub members_tree : Setting → List Member → KeptInquiry Answer
members_tree s members = chain (credentials_chain s) members []

-- the default chain
abbrev pub default_chain : Setting → KeptInquiry Answer
default_chain s = members_tree s default_members
