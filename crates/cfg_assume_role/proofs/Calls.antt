-- A call that follows the provider's tree provides what its part reads.
use Rattle.std.proofs.Common.{◌≡◌, List, [], ◌∷◌, ◌++◌, Some, Ok, refl, sym, ap, ◌∙◌, subst, append-nil}
use Rattle.cfg_world.specs.Fits.{Pair}
use Rattle.cfg_kept.specs.Kinds.{Value, States}
use Rattle.cfg_kept.specs.KeptInquiry.{KeptInquiry, Gives, Runs, Begins, Reads, lift, kept_after}
use Rattle.cfg_kept.proofs.Told.{told}
use Rattle.cfg_kept.proofs.Splits.{split_runs, lowered_run}
use Rattle.cfg_providers.specs.CustomSources.{Answer}
use Rattle.cfg_providers.specs.EnvironmentKeys.{environment}
use Rattle.cfg_chain.proofs.Calls.{is_call, some_is}
use Rattle.cfg_assume_role.specs.declared.call.RoleCall.{RoleCall}
use Rattle.cfg_assume_role.specs.Roles.{behind_base, role_tree}
use Rattle.cfg_assume_role.specs.Bases.{Base, ByDefault, ByEnvironment, ByKeys, BySource, IsBaseTree, IsQuiet, IsBaseCall}
use Rattle.cfg_assume_role.specs.Causes.{RoleCause}
use Rattle.cfg_assume_role.specs.Provides.{IsRoleCall}
use Rattle.cfg_assume_role.proofs.RoleCauses.{behind_cause}

gives_quiet : (answer : Answer) (old new : States) (found : List Value) (part : List Pair) (given : Answer) → Runs (Gives answer) (Some old) found part given (Some new) → IsQuiet answer old new found part given
gives_quiet answer old new [] [] given h = (refl, refl, some_is old new h.1, h.0)
gives_quiet answer old new [] (e ∷ part) given h = absurd h
gives_quiet answer old new (f ∷ found) part given h = absurd h

quiet : (answer : Answer) (tree : KeptInquiry Answer) (old new : States) (found : List Value) (part : List Pair) (given : Answer) →
    tree ≡ Gives answer → Runs tree (Some old) found part given (Some new) → IsQuiet answer old new found part given
quiet answer tree old new found part given is runs = gives_quiet answer old new found part given (subst (λ t. Runs t (Some old) found part given (Some new)) is runs)

-- a run of a base's tree is a call of the base
base_call : (b : Base) (tree : KeptInquiry Answer) (old new : States) (found : List Value) (part : List Pair) (given : Answer) →
    IsBaseTree b tree → Runs tree (Some old) found part given (Some new) → IsBaseCall b old new found part given
base_call (ByDefault over) tree old new found part given is runs = is_call over is.0 old new found part given is.1 (subst (λ t. Runs t (Some old) found part given (Some new)) is.2 runs)
base_call (ByEnvironment env) tree old new found part given is runs = quiet (environment env) tree old new found part given is runs
base_call (ByKeys keys) tree old new found part given is runs = quiet (Ok keys) tree old new found part given is runs
base_call (BySource answer) tree old new found part given is runs = quiet answer tree old new found part given is runs

module _ (call : RoleCall) (b : Base) (tree : KeptInquiry Answer) where
  role_cause : (old new : States) (found : List Value) (part : List Pair) (out : Answer) → IsBaseTree b tree →
      Runs (role_tree call tree) (Some old) found part out (Some new) → RoleCause call b old new found part out
  unfolding role_tree
  role_cause old new found part out is runs =
      let s = split_runs tree (λ g. lift (behind_base call g)) (Some old) (Some new) found part out runs in
      let l = lowered_run (behind_base call s.middle) s.kept (Some new) s.found_then s.rest out s.then in
      record {
        base_part = s.part;
        role_part = s.rest;
        parts = s.parts;
        given = s.middle;
        base_call = base_call b tree old new found s.part s.middle is
            (subst (λ f. Runs tree (Some old) f s.part s.middle (Some new)) (sym (s.finds ∙ ap (λ t. s.found_first ++ t) l.0 ∙ append-nil s.found_first))
            (subst (λ k. Runs tree (Some old) s.found_first s.part s.middle k) l.1 s.first));
        behind = behind_cause call s.middle s.rest out l.2;
      }

  is_role_call : (old new : States) (found : List Value) (part : List Pair) (out : Answer) → IsBaseTree b tree →
      Runs (role_tree call tree) (Some old) found part out (Some new) → IsRoleCall call b old new found part out
  is_role_call old new found part out is runs =
      let t = told (role_tree call tree) old (Some new) found part out runs in
      record {
        tree = tree;
        is_tree = is;
        finds = t.0;
        reads = subst (λ f. Reads (role_tree call tree) f part out) (sym t.0) t.2;
        keeps = some_is new (kept_after (role_tree call tree) old part) t.1;
        cause = role_cause old new found part out is runs;
      }

  -- the same where the list of the values that were found was emptied before
  pub is_call_from : (old cleared new : States) (earlier found more : List Value) (part : List Pair) (out : Answer) → IsBaseTree b tree →
      earlier ≡ [] → cleared ≡ old → more ≡ earlier ++ found → Runs (role_tree call tree) (Some cleared) found part out (Some new) → IsRoleCall call b old new more part out
  is_call_from old cleared new earlier found more part out is none same list runs =
      subst (λ k. IsRoleCall call b k new more part out) same
      (subst (λ f. IsRoleCall call b cleared new f part out) (sym (list ∙ ap (λ t. t ++ found) none)) (is_role_call cleared new found part out is runs))

pub begins_from : (call : RoleCall) (tree : KeptInquiry Answer) (old cleared new : States) (earlier found more : List Value) (part : List Pair) →
    earlier ≡ [] → cleared ≡ old → more ≡ earlier ++ found → Begins (role_tree call tree) (Some cleared) found part (Some new) → Begins (role_tree call tree) (Some old) more part (Some new)
begins_from call tree old cleared new earlier found more part none same list begins =
    subst (λ k. Begins (role_tree call tree) (Some k) more part (Some new)) same
    (subst (λ f. Begins (role_tree call tree) (Some cleared) f part (Some new)) (sym (list ∙ ap (λ t. t ++ found) none)) begins)
