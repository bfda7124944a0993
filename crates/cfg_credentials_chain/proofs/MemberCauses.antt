-- Each answer of a member has its cause.
use Rattle.std.proofs.Common.{◌≡◌, List, [], ◌∷◌, Some, Ok, refl, sym, ap, ◌∙◌, subst}
use Rattle.std.specs.Result.{result_err}
use Rattle.cfg_types.specs.Environment.{Variables}
use Rattle.cfg_world.specs.Fits.{Pair}
use Rattle.cfg_world.specs.Inquiry as low
use Rattle.cfg_world.specs.Inquiry.{Inquiry}
use Rattle.cfg_exchange.proofs.Causes.{has_cause}
use Rattle.cfg_kept.specs.Kinds.{Value, States}
use Rattle.cfg_kept.specs.KeptInquiry.{KeptInquiry, Gives, Reads, Runs, lift, found_by}
use Rattle.cfg_kept.proofs.Splits.{lowered_run}
use Rattle.cfg_kept.proofs.Told.{told_back}
use Rattle.cfg_meta.specs.MemberParts.{Keeping, IsMemberPart}
use Rattle.cfg_imds_credentials.proofs.Given.{run_reads}
use Rattle.cfg_imds_credentials.proofs.Reasons as metadata
use Rattle.cfg_providers.specs.ContainerSetups.{settings_in, asks_container}
use Rattle.cfg_providers.specs.CustomSources.{Answer}
use Rattle.cfg_providers.specs.EnvironmentKeys.{by_environment}
use Rattle.cfg_providers.specs.EnvironmentCauses.{why_environment}
use Rattle.cfg_providers.specs.Processes.{credential_process}
use Rattle.cfg_providers.specs.WebIdentities.{web_identity}
use Rattle.cfg_providers.proofs.EnvironmentFailures.{environment_cause}
use Rattle.cfg_providers.proofs.ProcessCauses.{process_cause}
use Rattle.cfg_providers.proofs.WebIdentityCauses.{web_identity_cause}
use Rattle.cfg_login.specs.declared.asked_by.AskedBy.TheVariants.{Caller}
use Rattle.cfg_login.proofs.SignInCauses.{sign_in_cause}
use Rattle.cfg_sso.proofs.SsoCauses.{sso_cause}
use Rattle.cfg_chain.proofs.Calls.{is_call}
use Rattle.cfg_chain.proofs.ProfileCalls.{profile_call_from}
use Rattle.cfg_assume_role.proofs.Calls.{is_call_from}
use Rattle.cfg_credentials_chain.specs.Causes.{MemberCause, HasCause}
use Rattle.cfg_credentials_chain.specs.Members.{Asked, OfEnvironment, OfProcess, OfWebIdentity, OfContainer, OfMetadata, OfSession, OfSignIn, OfProfile, ByDefault, ForRole, Given, ByCaller, IsMemberTree}

environment_fails : (env : Variables) (part : List Pair) (out : Answer) → low.Reads (by_environment env) part out → (part ≡ []) × (result_err out ≡ why_environment env)
environment_fails env [] out h = (refl, ap result_err (sym h) ∙ environment_cause env)
environment_fails env (e ∷ part) out h = absurd h

module _ (old new : States) (found : List Value) (part : List Pair) (out : Answer) where
  abbrev RunsTo : KeptInquiry Answer → Type 0
  RunsTo tree = Runs tree (Some old) found part out (Some new)

  -- a run of a tree that only asks
  asked_only : (q : Inquiry Answer) (tree : KeptInquiry Answer) → tree ≡ lift q → RunsTo tree → low.Reads q part out
  asked_only q tree is runs = (lowered_run q (Some old) (Some new) found part out (subst RunsTo is runs)).2

  read_by : (p tree : KeptInquiry Answer) → tree ≡ p → RunsTo tree → Reads p found part out
  read_by p tree is runs = run_reads p (Some old) (Some new) found part out (subst RunsTo is runs)

said_run : (said : Answer) (old new : States) (found : List Value) (part : List Pair) (out : Answer) → Runs (Gives said) (Some old) found part out (Some new) → (part ≡ []) × (out ≡ said)
said_run said old new [] [] out h = (refl, sym h.0)
said_run said old new [] (e ∷ part) out h = absurd h
said_run said old new (f ∷ found) part out h = absurd h

said_at_once : (said : Answer) (tree : KeptInquiry Answer) (old new : States) (found : List Value) (part : List Pair) (out : Answer) → tree ≡ Gives said → Runs tree (Some old) found part out (Some new) → (part ≡ []) × (out ≡ said)
said_at_once said tree old new found part out is runs = said_run said old new found part out (subst (λ t. Runs t (Some old) found part out (Some new)) is runs)

pub member_cause : (m : Asked) (tree : KeptInquiry Answer) (old new : States) (found : List Value) (part : List Pair) (out : Answer) →
    IsMemberTree m tree → Runs tree (Some old) found part out (Some new) → MemberCause m old new found part out
member_cause (OfEnvironment env) tree old new found part out is runs = environment_fails env part out (asked_only old new found part out (by_environment env) tree is runs)
member_cause (OfProcess p) tree old new found part out is runs =
    process_cause p.command p.account_id part out (asked_only old new found part out (credential_process p.command p.account_id) tree is runs)
member_cause (OfWebIdentity w) tree old new found part out is runs =
    web_identity_cause w.configuration w.given w.policies part out (asked_only old new found part out (web_identity w.configuration w.given w.policies) tree is runs)
member_cause (OfContainer c) tree old new found part out is runs =
    (is.0, is.1, has_cause c.configuration.environment (settings_in c) is.0 part out (asked_only old new found part out (asks_container c is.0) tree is.2 runs))
member_cause (OfMetadata m) tree old new found part out is runs = metadata.has_cause m found part out (read_by old new found part out _ tree is runs)
member_cause (OfSession s) tree old new found part out is runs = sso_cause s.configuration s.sso found part out (read_by old new found part out _ tree is runs)
member_cause (OfSignIn s) tree old new found part out is runs = sign_in_cause s.configuration s.session Caller found part out (read_by old new found part out _ tree is runs)
member_cause (OfProfile over) tree old new found part out is runs =
    profile_call_from over is.0 old old new [] found found part out is.1 refl refl refl (subst (λ t. Runs t (Some old) found part out (Some new)) is.2 runs)
member_cause (ByDefault over) tree old new found part out is runs =
    is_call over is.0 old new found part out is.1 (subst (λ t. Runs t (Some old) found part out (Some new)) is.2 runs)
member_cause (ForRole call b) tree old new found part out is runs =
    (is_call_from call b is.0 old old new [] found found part out is.1 refl refl refl (subst (λ t. Runs t (Some old) found part out (Some new)) is.2 runs)).cause
member_cause (Given keys) tree old new found part out is runs = said_at_once (Ok keys) tree old new found part out is runs
member_cause (ByCaller answer fallback) tree old new found part out is runs = said_at_once answer tree old new found part out is runs

pub part_cause : (m : Asked) (old new : Keeping) (part : List Pair) (out : Answer) → IsMemberPart (IsMemberTree m) old new part out → HasCause m old new part out
part_cause m old new part out p =
    let found = found_by p.tree old.states part in
    record {
      found = found;
      finds = p.finds;
      cause = member_cause m p.tree old.states new.states found part out p.is_its (told_back p.tree old.states (Some new.states) found part out (refl, ap Some p.keeps, p.reads));
    }
