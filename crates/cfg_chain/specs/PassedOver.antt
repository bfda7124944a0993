-- Which members of the default chain are passed over: a line for each.
use Rattle.std.specs.Prelude.{◌≡◌, ◌↔◌, List, [], true, false, Bool, Result, Ok, Err}
use Rattle.cfg_world.specs.Fits.{Pair}
use Rattle.cfg_exchange.specs.ContainerUnset.{IsUnset}
use Rattle.cfg_kept.specs.Kinds.{Value}
use Rattle.cfg_imds_credentials.specs.PassedOver as metadata
use Rattle.cfg_types.specs.Classes.{is_not_loaded_answer}
use Rattle.cfg_providers.specs.EnvironmentCauses.{environment_is_passed_over}
use Rattle.cfg_providers.specs.CustomSources.{Answer}
use Rattle.cfg_providers.specs.WebIdentities.{identity_in}
use Rattle.cfg_chain.specs.declared.member.Member.{Member}
use Rattle.cfg_chain.specs.declared.member.Member.TheVariants.{Environment, Profile, WebIdentityToken, EcsContainer, Ec2InstanceMetadata}
use Rattle.cfg_chain.specs.Settings.{Setting, names_of, chain_metadata}
use Rattle.cfg_chain.specs.profile.Plans.{Planned, plan, is_not_loaded_error}

-- the profile is passed over exactly where it or one on its path is not there, where it has no credentials or a
-- token in their place, or where it lacks the region or the start URL of IAM Identity Center
abbrev pub plan_is_passed_over : Planned → Bool
plan_is_passed_over (Ok p) = false
plan_is_passed_over (Err e) = is_not_loaded_error e

-- a result that is an error
abbrev pub is_error : {A E : Type 0} → Result A E → Bool
is_error (Ok x) = false
is_error (Err e) = true

-- The table of the members that are passed over: the environment without keys, the profile without a
-- plan that is there, web identity where a variable is missing, each without a question; a
-- container without an address, whose token's file at most was read; and instance metadata that is
-- switched off, that names no role, or whose token request could not be sent, with nothing retrieved kept.
abbrev pub IsPassedOver : Setting → Member → List Value → List Pair → Type 0
IsPassedOver s Environment found part = (part ≡ []) × (environment_is_passed_over s.configuration.environment ≡ true)
IsPassedOver s Profile found part = (part ≡ []) × (plan_is_passed_over (plan s.configuration (names_of s.sources)) ≡ true)
IsPassedOver s WebIdentityToken found part = (part ≡ []) × (is_error (identity_in s.configuration.environment) ≡ true)
IsPassedOver s EcsContainer found part = IsUnset s.configuration.environment part
IsPassedOver s Ec2InstanceMetadata found part = metadata.IsPassedOver (chain_metadata s) found part

-- An answer says that nothing was loaded exactly where this line of the table holds.
abbrev pub PassesByTable : Answer → Type 0 → Type 0
PassesByTable out line = (is_not_loaded_answer out ≡ true) ↔ line
