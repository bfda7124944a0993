-- Why a role's provider gives no credentials.
use Rattle.std.specs.Prelude.{◌≡◌, List, [], ◌∷◌, ◌++◌, Option, Some, Result, Ok, Err, codes}
use Rattle.std.specs.Result.{result_err}
use Rattle.cfg_types.specs.Replies.{sts_in}
use Rattle.cfg_types.specs.declared.errors.CredentialsError.{CredentialsError}
use Rattle.cfg_types.specs.declared.errors.CredentialsError.TheVariants.{ProviderError}
use Rattle.cfg_types.specs.declared.errors.ProviderCause.TheVariants as cause
use Rattle.cfg_types.specs.declared.reply.sts.StsReply.{StsReply}
use Rattle.cfg_types.specs.declared.request.Request.TheVariants as request
use Rattle.cfg_world.specs.declared.ask.Question.TheVariants as question
use Rattle.cfg_world.specs.declared.ask.Answer.{Answer as Given}
use Rattle.cfg_world.specs.declared.leaves.NotGranted.{NotGranted}
use Rattle.cfg_world.specs.declared.leaves.NotGranted.TheVariants.{Failed, Refused}
use Rattle.cfg_world.specs.Fits.{Pair}
use Rattle.cfg_world.specs.Leaves.{granted_of}
use Rattle.cfg_kept.specs.Kinds.{Value, States}
use Rattle.cfg_providers.specs.CustomSources.{Answer}
use Rattle.cfg_providers.specs.Sts.{into_credentials}
use Rattle.cfg_assume_role.specs.declared.call.RoleCall.{RoleCall}
use Rattle.cfg_assume_role.specs.Roles.{request as request_of, refused, of_base}
use Rattle.cfg_assume_role.specs.Bases.{Base, IsBaseCall}

-- Why a request was not granted, or its reply gives no credentials.
abbrev pub why_granted : Result StsReply NotGranted → Option CredentialsError
why_granted (Err (Failed kind)) = Some (ProviderError (cause.Sent kind))
why_granted (Err (Refused refusal)) = Some (refused refusal)
why_granted (Ok reply) = result_err (into_credentials reply (codes "AssumeRoleProvider"))

-- Behind a base that gave an error nothing is asked, and that error is told. Behind credentials the part
-- is one `AssumeRole` that they signed, and why there are no others is what its answer shows.
abbrev pub IsBehind : RoleCall → Answer → List Pair → Answer → Type 0
IsBehind call (Err e) part out = (part ≡ []) × (result_err out ≡ Some (of_base e))
IsBehind call (Ok signer) part out = (given : Given) × (part ≡ (question.Send (request.AssumeRole (request_of call signer)), given) ∷ []) × (result_err out ≡ why_granted (granted_of sts_in given))

-- The part of a call is that of its base, and then that of the exchange. The answer is an error exactly
-- where the base gives one, or else the exchange gives nothing, and tells of that.
pub record RoleCause (call : RoleCall) (base : Base) (old new : States) (found : List Value) (part : List Pair) (out : Answer) : Type 0 where
  pub base_part : List Pair
  pub role_part : List Pair
  pub parts : part ≡ base_part ++ role_part
  pub given : Answer
  pub base_call : IsBaseCall base old new found base_part given
  pub behind : IsBehind call given role_part out
