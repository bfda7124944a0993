-- Where the `Http` requests of a role's call go.
use Rattle.std.proofs.Common.{◌≡◌, inl, inr, List, [], Bool, true, false, Option, Some, None, Result, Ok, Err, refl, ap, subst, ◌∙◌}
use Rattle.std.specs.Result.{result_err}
use denote.Hole.Carrier as carrier
use Rattle.cfg_types.specs.Classes.{is_not_loaded_answer, is_of_class}
use Rattle.cfg_types.specs.Keys.{Keys}
use Rattle.cfg_types.specs.Replies.{sts_in}
use Rattle.cfg_types.specs.declared.errors.Class.TheVariants as class
use Rattle.cfg_types.specs.declared.errors.CredentialsError as errors
use Rattle.cfg_types.specs.declared.errors.CredentialsError.{CredentialsError}
use Rattle.cfg_types.specs.declared.errors.CredentialsError.TheVariants.{InvalidConfiguration, ProviderError}
use Rattle.cfg_types.specs.declared.errors.ConfigCause.TheVariants as config
use Rattle.cfg_types.specs.declared.errors.ProviderCause.TheVariants as cause
use Rattle.cfg_types.specs.declared.errors.UnhandledCause.{UnhandledCause}
use Rattle.cfg_types.specs.declared.reply.Refusal.{Refusal}
use Rattle.cfg_types.specs.declared.reply.sts.StsReply.{StsReply}
use Rattle.std.specs.Prelude.{codes, if◌then◌else◌}
use Rattle.cfg_world.specs.declared.devices.Devices.{Ghosts}
use Rattle.cfg_world.specs.declared.leaves.NotGranted.{NotGranted}
use Rattle.cfg_world.specs.declared.leaves.NotGranted.TheVariants.{Failed, Refused}
use Rattle.cfg_world.specs.Fits.{Pair}
use Rattle.cfg_world.specs.Held.{Held}
use Rattle.cfg_world.specs.Leaves.{assuming, granted_of}
use Rattle.cfg_exchange.specs.SafeJournals.{AsksNoHttp}
use Rattle.cfg_world.specs.Gains.{Gains}
use Rattle.cfg_exchange.proofs.NoHttp.{NeverAsksHttp, begun_without}
use Rattle.cfg_world.proofs.Gains.{grew_by_nothing}
use Rattle.cfg_kept.specs.Kinds.{Value, States}
use Rattle.cfg_kept.specs.KeptInquiry.{KeptInquiry, Gives, Begins, Reads, lift}
use Rattle.cfg_kept.proofs.Splits.{split_onwards, lowered}
use Rattle.cfg_kept.proofs.Told.{run_begins}
use Rattle.cfg_providers.specs.CustomSources.{Answer}
use Rattle.cfg_providers.specs.EnvironmentKeys.{environment}
use Rattle.cfg_providers.specs.Sts.{keys_in, or_unhandled, into_credentials}
use Rattle.cfg_chain.specs.Settings.{setting}
use Rattle.cfg_chain.proofs.ContainerTargets.{begun_lowered}
use Rattle.cfg_chain.proofs.SafeCalls.{asked_behind}
use Rattle.cfg_assume_role.specs.declared.call.RoleCall.{RoleCall}
use Rattle.cfg_assume_role.specs.Bases.{Base, ByDefault, ByEnvironment, ByKeys, BySource, IsBaseTree}
use Rattle.cfg_assume_role.specs.Causes.{why_granted, IsBehind}
use Rattle.cfg_assume_role.specs.Provides.{Provides, Interrupted}
use Rattle.cfg_assume_role.specs.Roles.{is_fault, exchange, of_base, behind_base, role_tree}
use Rattle.cfg_assume_role.specs.SafeCalls.{BaseAsksSafely}
use Rattle.cfg_assume_role.proofs.RoleCauses.{behind_cause}

module _ (call : RoleCall) where
  behind_without : (given : Answer) → NeverAsksHttp (behind_base call given)
  unfolding behind_base exchange assuming
  behind_without (Ok signer) = (refl, λ a. tt)
  behind_without (Err e) = tt

  -- a base that gives this at once
  gives_without : (answer : Answer) (tree : KeptInquiry Answer) → tree ≡ Gives answer → (old new : Option States) (found : List Value) (part : List Pair) → Begins (role_tree call tree) old found part new → AsksNoHttp part
  unfolding role_tree
  gives_without answer tree is old new found part h =
      begun_without (behind_base call answer) part (behind_without answer)
      (begun_lowered (behind_base call answer) old new found part (subst (λ t. Begins (role_tree call t) old found part new) is h))

  pub base_safely : (b : Base) (tree : KeptInquiry Answer) → IsBaseTree b tree → (old new : Option States) (found : List Value) (part : List Pair) → Begins (role_tree call tree) old found part new → BaseAsksSafely b part
  unfolding role_tree
  base_safely (ByDefault over) tree is old new found part h =
      asked_behind (setting over is.0) is.1.container (behind_base call) behind_without old new found part (subst (λ t. Begins (role_tree call t) old found part new) is.2 h)
  base_safely (ByEnvironment env) tree is old new found part h = gives_without (environment env) tree is old new found part h
  base_safely (ByKeys keys) tree is old new found part h = gives_without (Ok keys) tree is old new found part h
  base_safely (BySource answer) tree is old new found part h = gives_without answer tree is old new found part h

-- ---- no call of a role is passed over

abbrev is_unset : Option CredentialsError → Bool
is_unset None = false
is_unset (Some e) = is_of_class class.CredentialsNotLoaded e

by_cause : (out : Answer) → is_not_loaded_answer out ≡ is_unset (result_err out)
by_cause (Ok keys) = refl
by_cause (Err e) = refl

unhandled_loaded : (read : Result Keys UnhandledCause) → is_unset (result_err (or_unhandled read)) ≡ false
unfolding errors.out-CredentialsError carrier.out
unhandled_loaded (Ok keys) = refl
unhandled_loaded (Err cause) = refl

refused_loaded : (refusal : Refusal) (fault : Bool) → is_unset (Some (if fault then InvalidConfiguration (config.AssumeRole refusal.kind) else ProviderError (cause.Refused refusal))) ≡ false
unfolding errors.out-CredentialsError carrier.out
refused_loaded refusal true = refl
refused_loaded refusal false = refl

granted_loaded : (given : Result StsReply NotGranted) → is_unset (why_granted given) ≡ false
unfolding errors.out-CredentialsError carrier.out into_credentials
granted_loaded (Err (Failed kind)) = refl
granted_loaded (Err (Refused refusal)) = refused_loaded refusal (is_fault refusal.kind)
granted_loaded (Ok reply) = unhandled_loaded (keys_in reply.credentials reply.arn (codes "AssumeRoleProvider"))

base_loaded : (e : CredentialsError) → is_unset (Some (of_base e)) ≡ false
unfolding errors.out-CredentialsError carrier.out
base_loaded e = refl

behind_loaded : (call : RoleCall) (given : Answer) (part : List Pair) (out : Answer) → IsBehind call given part out → is_unset (result_err out) ≡ false
behind_loaded call (Ok signer) part out h = ap is_unset h.2 ∙ granted_loaded (granted_of sts_in h.0)
behind_loaded call (Err e) part out h = ap is_unset h.1 ∙ base_loaded e

pub role_loaded : (call : RoleCall) (tree : KeptInquiry Answer) (found : List Value) (part : List Pair) (out : Answer) → Reads (role_tree call tree) found part out → is_not_loaded_answer out ≡ false
unfolding role_tree
role_loaded call tree found part out h =
    let s = split_onwards tree (λ given. lift (behind_base call given)) found part out h in
    by_cause out ∙ behind_loaded call s.middle s.rest out (behind_cause call s.middle s.rest out (lowered (behind_base call s.middle) s.found_then s.rest out s.then).1)

-- ---- a call

module _ {D : Type 0} (d : Ghosts D) (call : RoleCall) (b : Base) (old new : States) (found : List Value) (before later : Held D) where
  nothing_asked : (b : Base) → BaseAsksSafely b []
  nothing_asked (ByDefault over) = inr tt
  nothing_asked (ByEnvironment env) = tt
  nothing_asked (ByKeys keys) = tt
  nothing_asked (BySource answer) = tt

  abbrev Grew : Type 0
  Grew = Gains before.journal later.journal (BaseAsksSafely b)

  pub answered : (out : Answer) → Provides d call b old new found before later out → Grew
  answered out h =
      let c = h.is_call in
      record {
        part = h.part;
        grows = h.grows.journal;
        said = base_safely call b c.tree c.is_tree None None found h.part (run_begins (role_tree call c.tree) None None found h.part out c.reads);
      }

  pub interrupted : Interrupted d call b old new found before later → Grew
  interrupted (inl h) = grew_by_nothing (BaseAsksSafely b) before.journal later.journal (ap (λ x. x.journal) h.0) (nothing_asked b)
  interrupted (inr h) = record {
    part = h.part;
    grows = h.stays.journal;
    said = base_safely call b h.tree h.is_tree (Some old) (Some new) found h.part h.begins;
  }
