-- Credentials by the selected profile.
use Rattle.std.specs.Prelude.{List, [], ◌∷◌, ◌++◌, Ok, Err}
use Rattle.cfg_types.specs.Keys.{Keys}
use Rattle.cfg_types.specs.declared.credentials.AwsCredentialFeature.TheVariants.{CredentialsProfile}
use Rattle.cfg_world.specs.Inquiry.{Inquiry, Done, after}
use Rattle.cfg_kept.specs.KeptInquiry.{KeptInquiry, Gives, lift, ◌>>=◌}
use Rattle.cfg_profile.specs.declared.chain.ProfileChain.{ProfileChain}
use Rattle.cfg_profile.specs.declared.chain.RoleArn.{RoleArn}
use Rattle.cfg_profile.specs.Configuration.{Configuration}
use Rattle.cfg_profile.specs.Settings.{settings_of}
use Rattle.cfg_providers.specs.AssumeRole.{assumes_roles}
use Rattle.cfg_providers.specs.CustomSources.{Answer}
use Rattle.cfg_chain.specs.Settings.{Setting, names_of}
use Rattle.cfg_chain.specs.profile.Plans.{Planned, plan, refusal}
use Rattle.cfg_chain.specs.profile.Bases.{based}

-- credentials of a profile, marked as such
abbrev pub by_profile : Keys → Keys
by_profile keys = record keys { features = keys.features ++ CredentialsProfile ∷ [] }

unfoldable pub marked : Answer → Answer
marked (Ok keys) = Ok (by_profile keys)
marked (Err e) = Err e

-- the credentials of the last of these roles, the first of them assumed with these credentials
unfoldable pub assumed : Configuration → List RoleArn → Keys → Inquiry Answer
assumed conf roles keys = after (assumes_roles (settings_of conf) roles keys) (λ last. Done (marked last))

-- the first credentials, and then the roles
unfoldable pub follows_planned : Setting → ProfileChain → KeptInquiry Answer
follows_planned s p = based s p.base >>= λ keys. lift (assumed s.configuration p.roles keys)

abbrev pub follows_plan : Setting → Planned → KeptInquiry Answer
follows_plan s (Err e) = Gives (Err (refusal e))
follows_plan s (Ok p) = follows_planned s p

-- the questions of the plan's base and of its roles, and what is read over their answers
unfoldable pub profile : Setting → KeptInquiry Answer
profile s = follows_plan s (plan s.configuration (names_of s.sources))
