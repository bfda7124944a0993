-- Why a role's provider gives no credentials, by what its base gave and by its last entry.
use Rattle.std.proofs.Common.{◌≡◌, List, [], ◌∷◌, Result, Ok, Err, refl, sym, ap, ◌∙◌}
use Rattle.std.specs.Result.{result_err}
use Rattle.cfg_types.specs.Keys.{Keys}
use Rattle.cfg_types.specs.Replies.{sts_in}
use Rattle.cfg_types.specs.declared.reply.sts.StsReply.{StsReply}
use Rattle.cfg_world.specs.declared.leaves.NotGranted.{NotGranted}
use Rattle.cfg_world.specs.declared.leaves.NotGranted.TheVariants.{Failed, Refused}
use Rattle.cfg_world.specs.Fits.{Pair}
use Rattle.cfg_world.specs.Inquiry.{Reads}
use Rattle.cfg_world.specs.Leaves.{assuming, granted_of}
use Rattle.cfg_providers.specs.CustomSources.{Answer}
use Rattle.cfg_assume_role.specs.declared.call.RoleCall.{RoleCall}
use Rattle.cfg_assume_role.specs.Roles.{marked, granted, exchange, behind_base}
use Rattle.cfg_assume_role.specs.Causes.{why_granted, IsBehind}

reply_cause : (r : Answer) → result_err (marked r) ≡ result_err r
reply_cause (Ok keys) = refl
reply_cause (Err e) = refl

granted_cause : (given : Result StsReply NotGranted) → result_err (granted given) ≡ why_granted given
unfolding granted
granted_cause (Err (Failed kind)) = refl
granted_cause (Err (Refused refusal)) = refl
granted_cause (Ok reply) = reply_cause _

exchange_cause : (call : RoleCall) (signer : Keys) (part : List Pair) (out : Answer) → Reads (exchange call signer) part out → IsBehind call (Ok signer) part out
unfolding exchange assuming
exchange_cause call signer [] out h = absurd h
exchange_cause call signer (e ∷ []) out h = (e.1, ap (λ q. (q, e.1) ∷ []) h.0, ap result_err (sym h.1) ∙ granted_cause (granted_of sts_in e.1))
exchange_cause call signer (e ∷ f ∷ part) out h = absurd h.1

pub behind_cause : (call : RoleCall) (given : Answer) (part : List Pair) (out : Answer) → Reads (behind_base call given) part out → IsBehind call given part out
unfolding behind_base
behind_cause call (Ok signer) part out h = exchange_cause call signer part out h
behind_cause call (Err e) [] out h = (refl, ap result_err (sym h))
behind_cause call (Err e) (x ∷ part) out h = absurd h
