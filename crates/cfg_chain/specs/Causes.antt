-- Which answer of a member comes where.
use Rattle.std.specs.Prelude.{◌≡◌, List, None}
use Rattle.std.specs.Result.{result_err}
use Rattle.cfg_world.specs.Fits.{Pair}
use Rattle.cfg_kept.specs.Kinds.{Value}
use Rattle.cfg_imds_credentials.specs.Causes.{CauseMetadata}
use Rattle.cfg_providers.specs.CustomSources.{Answer}
use Rattle.cfg_providers.specs.EnvironmentCauses.{why_environment}
use Rattle.cfg_providers.specs.WebIdentities.{why_web_identity}
use Rattle.cfg_chain.specs.declared.member.Member.{Member}
use Rattle.cfg_chain.specs.declared.member.Member.TheVariants.{Environment, Profile, WebIdentityToken, EcsContainer, Ec2InstanceMetadata}
use Rattle.cfg_chain.specs.Settings.{Setting, chain_metadata}
use Rattle.cfg_chain.specs.profile.Causes.{ProfileCause, why_by_container}

-- The answer of a member has its cause, by the rule of its provider: a line for each.
abbrev pub Cause : Setting → Member → List Value → List Pair → Answer → Type 0
Cause s Environment found part out = result_err out ≡ why_environment s.configuration.environment
Cause s Profile found part out = ProfileCause s found part out
Cause s WebIdentityToken found part out = result_err out ≡ why_web_identity s.configuration None part
Cause s EcsContainer found part out = result_err out ≡ why_by_container s part
Cause s Ec2InstanceMetadata found part out = CauseMetadata (chain_metadata s) found part out
