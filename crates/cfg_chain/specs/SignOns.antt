-- What a call asks IAM Identity Center for.
use Rattle.std.specs.Prelude.{◌≡◌, ◌++◌, ◌⊎◌, List, Some, Ok, Err}
use Rattle.cfg_world.specs.Fits.{Pair}
use Rattle.cfg_kept.specs.Kinds.{Value}
use Rattle.cfg_profile.specs.declared.chain.BaseProvider.{BaseProvider}
use Rattle.cfg_profile.specs.declared.chain.BaseProvider.TheVariants as base
use Rattle.cfg_profile.specs.Configuration.{Configuration}
use Rattle.cfg_sso.specs.declared.config.SsoProviderConfig.{SsoProviderConfig}
use Rattle.cfg_sso.specs.RoleRequests.{AsksNoRole, SendsOnce}
use Rattle.cfg_chain.specs.Settings.{ChainSetting, names_of}
use Rattle.cfg_chain.specs.profile.Plans.{Planned, plan}
use Rattle.cfg_chain.specs.profile.Bases.{signed_on}

-- The base is this role of an account, of IAM Identity Center.
abbrev pub IsSignOn : BaseProvider → SsoProviderConfig → Type 0
IsSignOn (base.Sso session region url (Some account) (Some role)) sso = sso ≡ signed_on session region url account role
IsSignOn _ sso = ⊥

-- There is a plan, and its base is this role.
abbrev pub PlansSignOn : Planned → SsoProviderConfig → Type 0
PlansSignOn (Ok p) sso = IsSignOn p.base sso
PlansSignOn (Err e) sso = ⊥

-- The journal begins with the part of a token, and one `GetRoleCredentials` with it, which ends after the last
-- reading of the clock in this part. Behind them there is no other such request.
pub record AsksOnce (conf : Configuration) (sso : SsoProviderConfig) (found : List Value) (journal : List Pair) : Type 0 where
  pub found_first : List Value
  pub found_then : List Value
  pub part : List Pair
  pub rest : List Pair
  pub finds : found ≡ found_first ++ found_then
  pub parts : journal ≡ part ++ rest
  pub sends : SendsOnce conf sso found_first part
  pub alone : AsksNoRole rest

-- The plan of the selected profile begins with a role, and this role is asked for once.
pub record AsksForRole (over : ChainSetting) (found : List Value) (journal : List Pair) : Type 0 where
  pub sso : SsoProviderConfig
  pub plans : PlansSignOn (plan over.configuration (names_of over.sources)) sso
  pub asks : AsksOnce over.configuration sso found journal

-- So it is, or there is no such request at all.
abbrev pub SignsOn : ChainSetting → List Value → List Pair → Type 0
SignsOn over found journal = AsksForRole over found journal ⊎ AsksNoRole journal
