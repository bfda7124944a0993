-- Roles that are assumed one after another, each with the credentials of the step before.
use Rattle.std.specs.Prelude.{ℕ, List, [], ◌∷◌, None, Result, Ok, Err, codes}
use Rattle.cfg_types.specs.Keys.{Keys}
use Rattle.cfg_types.specs.declared.errors.CredentialsError.{CredentialsError}
use Rattle.cfg_types.specs.declared.errors.CredentialsError.TheVariants.{ProviderError}
use Rattle.cfg_types.specs.declared.errors.ProviderCause.TheVariants as cause
use Rattle.cfg_types.specs.declared.reply.sts.StsReply.{StsReply}
use Rattle.cfg_types.specs.declared.request.sts.AssumeRole.{AssumeRole}
use Rattle.cfg_types.specs.declared.settings.CallSettings.{CallSettings}
use Rattle.cfg_world.specs.Inquiry.{Inquiry, Done, after, ◌>>=◌}
use Rattle.cfg_world.specs.declared.leaves.NotGranted.{NotGranted}
use Rattle.cfg_world.specs.declared.leaves.NotGranted.TheVariants.{Failed, Refused}
use Rattle.cfg_world.specs.Leaves.{assuming}
use Rattle.cfg_profile.specs.declared.chain.RoleArn.{RoleArn}
use Rattle.cfg_providers.specs.SessionNames.{session_name}
use Rattle.cfg_providers.specs.Sts.{into_credentials}

-- what the names begin with of sessions that were given none
abbrev pub role_session : List ℕ
role_session = codes "assume-role-from-profile"

-- the request for a role's session of this name
abbrev pub request : CallSettings → RoleArn → Keys → List ℕ → AssumeRole
request settings role signer name = record {
  signer = signer;
  role_arn = role.role_arn;
  session_name = name;
  external_id = role.external_id;
  policy = None;
  policy_arns = None;
  duration_seconds = None;
  tags = None;
  settings = settings;
}

-- what a reply gives, or why it gives nothing
abbrev pub granted : Result StsReply NotGranted → Result Keys CredentialsError
granted (Err (Failed kind)) = Err (ProviderError (cause.Sent kind))
granted (Err (Refused refusal)) = Err (ProviderError (cause.Refused refusal))
granted (Ok reply) = into_credentials reply (codes "AssumeRoleProvider")

-- an error of a role's exchange is told as such
abbrev pub in_role : Result Keys CredentialsError → Result Keys CredentialsError
in_role (Ok keys) = Ok keys
in_role (Err e) = Err (ProviderError (cause.Role e))

-- one request for a role, and what its reply gives
abbrev pub exchange : CallSettings → RoleArn → Keys → List ℕ → Inquiry (Result Keys CredentialsError)
exchange settings role signer name = after (assuming (request settings role signer name)) (λ answer. Done (in_role (granted answer)))

-- one role, assumed with these credentials
unfoldable pub assumes : CallSettings → Keys → RoleArn → Inquiry (Result Keys CredentialsError)
assumes settings signer role = after (session_name role_session role.session_name) (exchange settings role signer)

-- these roles, one after another, the first of them with these credentials
unfoldable pub assumes_roles : CallSettings → List RoleArn → Keys → Inquiry (Result Keys CredentialsError)
assumes_roles settings [] signer = Done (Ok signer)
assumes_roles settings (role ∷ roles) signer = assumes settings signer role >>= assumes_roles settings roles
