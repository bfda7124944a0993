-- Why a member gives no credentials.
use Rattle.std.specs.Prelude.{◌≡◌, List, [], ◌++◌, Ok}
use Rattle.std.specs.Result.{result_err}
use Rattle.cfg_world.specs.Fits.{Pair}
use Rattle.cfg_exchange.specs.declared.container.ContainerUri.{ContainerUri}
use Rattle.cfg_exchange.specs.Containers.{IsContainerUri}
use Rattle.cfg_exchange.specs.ContainerCauses.{why_container}
use Rattle.cfg_kept.specs.Kinds.{Value, States}
use Rattle.cfg_imds_credentials.specs.Causes.{CauseMetadata}
use Rattle.cfg_providers.specs.ContainerSetups.{settings_in}
use Rattle.cfg_providers.specs.CustomSources.{Answer}
use Rattle.cfg_providers.specs.EnvironmentCauses.{why_environment}
use Rattle.cfg_providers.specs.Processes.{why_process}
use Rattle.cfg_providers.specs.WebIdentities.{why_web_identity}
use Rattle.cfg_login.specs.declared.asked_by.AskedBy.TheVariants.{Caller}
use Rattle.cfg_login.specs.SignInCauses.{SignInCause}
use Rattle.cfg_sso.specs.SsoCauses.{SsoCause}
use Rattle.cfg_chain.specs.Provides.{IsCall}
use Rattle.cfg_chain.specs.profile.Provides.{IsProfileCall}
use Rattle.cfg_assume_role.specs.Causes.{RoleCause}
use Rattle.cfg_meta.specs.MemberParts.{Keeping}
use Rattle.cfg_credentials_chain.specs.Members.{Asked, OfEnvironment, OfProcess, OfWebIdentity, OfContainer, OfMetadata, OfSession, OfSignIn, OfProfile, ByDefault, ForRole, Given, ByCaller}

-- The answer of a member has its cause, by the rule of its provider: a line for each. From these kept
-- states to those it found these values, and this is its part of the journal.
abbrev pub MemberCause : Asked → States → States → List Value → List Pair → Answer → Type 0
MemberCause (OfEnvironment env) old new found part out = (part ≡ []) × (result_err out ≡ why_environment env)
MemberCause (OfProcess p) old new found part out = result_err out ≡ why_process p.account_id part
MemberCause (OfWebIdentity w) old new found part out = result_err out ≡ why_web_identity w.configuration w.given part
MemberCause (OfContainer c) old new found part out =
    (named : ContainerUri) × IsContainerUri c.configuration.environment named × (result_err out ≡ why_container c.configuration.environment (settings_in c) named part)
MemberCause (OfMetadata m) old new found part out = CauseMetadata m found part out
MemberCause (OfSession s) old new found part out = SsoCause s.configuration s.sso found part out
MemberCause (OfSignIn s) old new found part out = SignInCause s.configuration s.session Caller found part out
MemberCause (OfProfile over) old new found part out = IsProfileCall over old new found part out
MemberCause (ByDefault over) old new found part out = IsCall over old new found part out
MemberCause (ForRole call b) old new found part out = RoleCause call b old new found part out
MemberCause (Given keys) old new found part out = (part ≡ []) × (out ≡ Ok keys)
MemberCause (ByCaller answer fallback) old new found part out = (part ≡ []) × (out ≡ answer)

-- The part of a member, from what was kept of it to what is, has its cause.
pub record HasCause (member : Asked) (old new : Keeping) (part : List Pair) (out : Answer) : Type 0 where
  pub found : List Value
  pub finds : new.found ≡ old.found ++ found
  pub cause : MemberCause member old.states new.states found part out
