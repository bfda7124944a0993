-- Each provider follows its member's tree.
use Rattle.std.proofs.Common.{inr, refl, sym, ap, Ok}
use Rattle.cfg_kept.proofs.HoldingSteps.{holds_said}
use Rattle.cfg_imds_credentials.specs.Metadata.{metadata}
use Rattle.cfg_providers.specs.EnvironmentKeys.{by_environment}
use Rattle.cfg_providers.specs.Processes.{credential_process}
use Rattle.cfg_providers.specs.WebIdentities.{web_identity}
use Rattle.cfg_login.specs.declared.asked_by.AskedBy.TheVariants.{Caller}
use Rattle.cfg_login.specs.SignIns.{sign_in_credentials}
use Rattle.cfg_sso.specs.SsoCredentials.{sso_credentials}
use Rattle.cfg_credentials_chain.specs.Members.{OfEnvironment, OfProcess, OfWebIdentity, OfMetadata, OfSession, OfSignIn}
use Rattle.cfg_credentials_chain.specs.Views.{metadata_of}
use Rattle.cfg_credentials_chain.proofs.MemberFollows.{asks, keeps, asks_named, by_profile, by_default, for_role}
use Rattle.cfg_credentials_chain.proofs.member.Member.follow.Goals as goal

pub returns-in-Environment-clause-follows : goal.returns-in-Environment-clause-follows
returns-in-Environment-clause-follows g c = rw (c.in-Environment.is) (asks g.A.Asking (OfEnvironment c.in-Environment.provider) (by_environment c.in-Environment.provider) refl _ _ _ _ c.follow.ensures)

pub returns-in-Process-clause-follows : goal.returns-in-Process-clause-follows
returns-in-Process-clause-follows g c = rw (c.in-Process.is) (asks g.A.Asking (OfProcess c.in-Process.provider) (credential_process c.in-Process.provider.command c.in-Process.provider.account_id) refl _ _ _ _ c.follow-in-Process.ensures)

pub returns-in-WebIdentity-clause-follows : goal.returns-in-WebIdentity-clause-follows
returns-in-WebIdentity-clause-follows g c = rw (c.in-WebIdentity.is) (asks g.A.Asking (OfWebIdentity c.in-WebIdentity.provider) (web_identity c.in-WebIdentity.provider.configuration c.in-WebIdentity.provider.given c.in-WebIdentity.provider.policies) refl _ _ _ _ c.follow-in-WebIdentity.ensures)

pub returns-in-Ecs-clause-follows : goal.returns-in-Ecs-clause-follows
returns-in-Ecs-clause-follows g c = rw (c.in-Ecs.is) (asks_named g.A.Asking c.in-Ecs.provider _ _ _ _ c.follow-in-Ecs.ensures)

pub returns-in-Imds-clause-follows : goal.returns-in-Imds-clause-follows
returns-in-Imds-clause-follows g c = rw (c.in-Imds.is) (keeps g.A.Asking (OfMetadata (metadata_of (λ b. (goal.ClassifyRetry-dyn g (b.vtable, b.value)).repeated b.value) c.in-Imds.provider)) (metadata (metadata_of (λ b. (goal.ClassifyRetry-dyn g (b.vtable, b.value)).repeated b.value) c.in-Imds.provider)) refl _ _ _ _ _ c.follow-in-Imds.ensures.follows)

pub returns-in-Sso-clause-follows : goal.returns-in-Sso-clause-follows
returns-in-Sso-clause-follows g c = rw (c.in-Sso.is) (keeps g.A.Asking (OfSession c.in-Sso.provider) (sso_credentials c.in-Sso.provider.configuration c.in-Sso.provider.sso) refl _ _ _ _ _ c.follow-in-Sso.ensures.follows)

pub returns-in-Login-clause-follows : goal.returns-in-Login-clause-follows
returns-in-Login-clause-follows g c = rw (c.in-Login.is) (keeps g.A.Asking (OfSignIn c.in-Login.provider) (sign_in_credentials c.in-Login.provider.configuration c.in-Login.provider.session Caller) refl _ _ _ _ _ c.follow-in-Login.ensures.follows)

pub returns-in-Profile-clause-follows : goal.returns-in-Profile-clause-follows
returns-in-Profile-clause-follows g c = rw (c.in-Profile.is) (by_profile g.A.Asking _ _ _ _ _ _ c.follow-in-Profile.ensures.follows)

pub returns-in-Default-clause-follows : goal.returns-in-Default-clause-follows
returns-in-Default-clause-follows g c = rw (c.in-Default.is) (by_default g.A.Asking _ _ _ _ _ _ c.follow-in-Default.ensures.follows)

pub returns-in-AssumeRole-clause-follows : goal.returns-in-AssumeRole-clause-follows
returns-in-AssumeRole-clause-follows g c = rw (c.in-AssumeRole.is) (for_role g.A.Asking c.in-AssumeRole.provider.call _ _ _ _ _ _ c.follow-in-AssumeRole.ensures.follows)

pub returns-in_ok-credentials-in-Fixed-clause-follows : goal.returns-in_ok-credentials-in-Fixed-clause-follows
returns-in_ok-credentials-in-Fixed-clause-follows g c = rw (c.in-Fixed.is) (inr (_, refl, holds_said (ap (λ x. Ok x) (sym c.in_ok-credentials-in-Fixed.ensures))))

pub returns-in_ok-answer-in-Custom-clause-follows : goal.returns-in_ok-answer-in-Custom-clause-follows
returns-in_ok-answer-in-Custom-clause-follows g c = rw (c.in-Custom.is) (inr (_, refl, holds_said (sym c.in_ok-answer-in-Custom.ensures)))
