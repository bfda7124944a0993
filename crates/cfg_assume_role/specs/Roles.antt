-- One exchange for a role's session, signed by the credentials of a base.
use Rattle.std.specs.Prelude.{[], ◌∷◌, ◌++◌, Bool, true, false, Result, Ok, Err, codes, if◌then◌else◌}
use Rattle.cfg_types.specs.Keys.{Keys}
use Rattle.cfg_types.specs.declared.credentials.AwsCredentialFeature.TheVariants.{CredentialsStsAssumeRole}
use Rattle.cfg_types.specs.declared.errors.CredentialsError.{CredentialsError}
use Rattle.cfg_types.specs.declared.errors.CredentialsError.TheVariants.{InvalidConfiguration, ProviderError}
use Rattle.cfg_types.specs.declared.errors.ConfigCause.TheVariants as config
use Rattle.cfg_types.specs.declared.errors.ProviderCause.TheVariants as cause
use Rattle.cfg_types.specs.declared.reply.Refusal.{Refusal}
use Rattle.cfg_types.specs.declared.reply.RefusalKind.{RefusalKind}
use Rattle.cfg_types.specs.declared.reply.RefusalKind.TheVariants.{RegionDisabled, MalformedPolicyDocument}
use Rattle.cfg_types.specs.declared.reply.sts.StsReply.{StsReply}
use Rattle.cfg_types.specs.declared.request.sts.AssumeRole.{AssumeRole}
use Rattle.cfg_world.specs.Inquiry.{Inquiry, Done, after}
use Rattle.cfg_world.specs.declared.leaves.NotGranted.{NotGranted}
use Rattle.cfg_world.specs.declared.leaves.NotGranted.TheVariants.{Failed, Refused}
use Rattle.cfg_world.specs.Leaves.{assuming}
use Rattle.cfg_kept.specs.KeptInquiry.{KeptInquiry, lift, onwards}
use Rattle.cfg_profile.specs.Settings.{settings_of}
use Rattle.cfg_providers.specs.CustomSources.{Answer}
use Rattle.cfg_providers.specs.Sts.{into_credentials}
use Rattle.cfg_assume_role.specs.declared.call.RoleCall.{RoleCall}

-- the request for a role's session, signed by these credentials
abbrev pub request : RoleCall → Keys → AssumeRole
request call signer = record {
  signer = signer;
  role_arn = call.session.role_arn;
  session_name = call.session_name;
  external_id = call.session.external_id;
  policy = call.session.policy;
  policy_arns = call.session.policy_arns;
  duration_seconds = call.session.duration_seconds;
  tags = call.session.tags;
  settings = settings_of call.config;
}

-- credentials of a role, marked as such
abbrev pub by_role : Keys → Keys
by_role keys = record keys { features = keys.features ++ CredentialsStsAssumeRole ∷ [] }

abbrev pub marked : Answer → Answer
marked (Ok keys) = Ok (by_role keys)
marked (Err e) = Err e

-- the refusals that are faults of the configuration
abbrev pub is_fault : RefusalKind → Bool
is_fault RegionDisabled = true
is_fault MalformedPolicyDocument = true
is_fault _ = false

-- what a refusal is told as
abbrev pub refused : Refusal → CredentialsError
refused refusal = if is_fault refusal.kind then InvalidConfiguration (config.AssumeRole refusal.kind) else ProviderError (cause.Refused refusal)

-- what a reply gives, or why it gives nothing
unfoldable pub granted : Result StsReply NotGranted → Answer
granted (Err (Failed kind)) = Err (ProviderError (cause.Sent kind))
granted (Err (Refused refusal)) = Err (refused refusal)
granted (Ok reply) = marked (into_credentials reply (codes "AssumeRoleProvider"))

-- one request, and what its reply gives
unfoldable pub exchange : RoleCall → Keys → Inquiry Answer
exchange call signer = after (assuming (request call signer)) (λ answer. Done (granted answer))

-- an error of the base, whatever it is, is told as such
abbrev pub of_base : CredentialsError → CredentialsError
of_base e = ProviderError (cause.Base e)

-- one request signed by what the base gave, and nothing where it gave an error
unfoldable pub behind_base : RoleCall → Answer → Inquiry Answer
behind_base call (Ok signer) = exchange call signer
behind_base call (Err e) = Done (Err (of_base e))

-- the tree of the provider: that of its base, and then the exchange
unfoldable pub role_tree : RoleCall → KeptInquiry Answer → KeptInquiry Answer
role_tree call base = onwards base (λ given. lift (behind_base call given))
