-- Which bases of plans ask IAM Identity Center for the credentials of a role: that role alone.
use Rattle.std.proofs.Common.{ℕ, List, Option, Some, None, Ok, Err, refl, inl, inr}
use Rattle.std.specs.Prelude.{◌⊎◌, codes}
use Rattle.cfg_types.specs.Keys.{Keys}
use Rattle.cfg_world.specs.Leaves.{running}
use Rattle.cfg_kept.specs.KeptInquiry.{KeptInquiry, Gives, lift, onwards_if_ok}
use Rattle.cfg_kept.specs.LoginHoldings.{login_spot}
use Rattle.cfg_login_token.specs.LoginTokens.{login_rules}
use Rattle.cfg_imds_credentials.specs.Metadata.{metadata}
use Rattle.cfg_profile.specs.Configuration.{Configuration}
use Rattle.cfg_profile.specs.Settings.{settings_of}
use Rattle.cfg_profile.specs.declared.chain.BaseProvider.{BaseProvider}
use Rattle.cfg_profile.specs.declared.chain.BaseProvider.TheVariants as base
use Rattle.cfg_profile.specs.NamedSources.{is_alike}
use Rattle.cfg_providers.specs.CustomSources.{Answer, last_named}
use Rattle.cfg_providers.specs.EnvironmentKeys.{by_environment}
use Rattle.cfg_providers.specs.Processes.{credential_process}
use Rattle.cfg_providers.specs.WebIdentities.{no_policies}
use Rattle.cfg_token.specs.declared.token_key.TokenKey.TheVariants.{Login}
use Rattle.cfg_login.specs.declared.asked_by.AskedBy.{AskedBy}
use Rattle.cfg_login.specs.declared.asked_by.AskedBy.TheVariants as by
use Rattle.cfg_login.specs.SignIns.{section_of, credentials_in, sign_in_credentials}
use Rattle.cfg_sso.specs.declared.config.SsoProviderConfig.{SsoProviderConfig}
use Rattle.cfg_sso.proofs.NoRoleAsked.{NeverAsks, onwards_without, if_ok_without}
use Rattle.cfg_sso.proofs.SectionHoldings.{holding_asks_none}
use Rattle.cfg_chain.specs.Settings.{Setting, container_settings, named_metadata}
use Rattle.cfg_chain.specs.SignOns.{IsSignOn, PlansSignOn}
use Rattle.cfg_chain.specs.profile.Bases.{by_container, unknown_source, built_in_source, source_or, named_source, profile_session, signed_on, base_tree, in_base, based}
use Rattle.cfg_chain.specs.profile.Plans.{Planned}
use Rattle.cfg_chain.specs.profile.Profiles.{assumed, follows_planned, follows_plan}
use Rattle.cfg_chain.proofs.WithoutRoles.{choice_without, assumed_without, container_without, metadata_without, last_role_without}

pub sign_in_without : (conf : Configuration) (session : List ℕ) (who : AskedBy) → NeverAsks (sign_in_credentials conf session who)
unfolding sign_in_credentials
sign_in_without conf session who =
    onwards_without (section_of conf session) (λ given. Gives (credentials_in who given))
    (holding_asks_none login_rules (λ k t f. refl) login_spot (Login session) conf.environment (settings_of conf)) (λ given. tt)

pub process_without : (command : List ℕ) (account : Option (List ℕ)) → NeverAsks (lift (credential_process command account))
unfolding credential_process running
process_without command account = (refl, λ a. tt)

built_in_without : (s : Setting) (name : List ℕ) → NeverAsks (built_in_source s name)
unfolding built_in_source
built_in_without s name =
    choice_without (is_alike name (codes "Environment")) (lift (by_environment s.configuration.environment)) _ tt
    (choice_without (is_alike name (codes "EcsContainer")) (lift (by_container s.configuration s.container)) _ (container_without s.configuration.environment (container_settings s.configuration) s.container)
    (choice_without (is_alike name (codes "Ec2InstanceMetadata")) (metadata (named_metadata s)) (Gives (unknown_source name)) (metadata_without (named_metadata s)) tt))

source_without : (s : Setting) (name : List ℕ) (own : Option Answer) → NeverAsks (source_or (built_in_source s name) own)
source_without s name (Some answer) = tt
source_without s name None = built_in_without s name

base_kind : (s : Setting) (b : BaseProvider) → NeverAsks (base_tree s b) ⊎ ((sso : SsoProviderConfig) × IsSignOn b sso)
unfolding base_tree named_source
base_kind s (base.AccessKey keys) = inl tt
base_kind s (base.NamedSource name) = inl (source_without s name (last_named name s.sources))
base_kind s (base.WebIdentityTokenRole arn file session) =
    inl (assumed_without s.configuration no_policies profile_session (record { web_identity_token_file = file; role_arn = arn; session_name = session }))
base_kind s (base.CredentialProcess command account) = inl (process_without command account)
base_kind s (base.Sso session region url (Some account) (Some role)) = inr (signed_on session region url account role, refl)
base_kind s (base.Sso session region url (Some account) None) = inl tt
base_kind s (base.Sso session region url None (Some role)) = inl tt
base_kind s (base.Sso session region url None None) = inl tt
base_kind s (base.LoginSession session) = inl (sign_in_without s.configuration session by.Profile)

-- a plan never asks for a role's credentials, or it begins with this role
pub planned_kind : (s : Setting) (planned : Planned) → NeverAsks (follows_plan s planned) ⊎ ((sso : SsoProviderConfig) × PlansSignOn planned sso)
unfolding follows_planned based
planned_kind s (Err e) = inl tt
planned_kind s (Ok p) =
    let next : Keys → KeptInquiry Answer = λ keys. lift (assumed s.configuration p.roles keys) in
    elim (base_kind s p.base) [
      | inl n ↦ inl (
          onwards_without (based s p.base) (onwards_if_ok next) (onwards_without (base_tree s p.base) (λ given. Gives (in_base given)) n (λ given. tt))
          (λ given. if_ok_without next given (last_role_without s.configuration p.roles)))
      | inr k ↦ inr k
    ]
