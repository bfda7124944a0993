-- A run of a tree over a world is a call.
use Rattle.std.proofs.Common.{◌≡◌, List, [], ◌++◌, Some, sym, ap, ◌∙◌, subst}
use Rattle.cfg_world.specs.Fits.{Pair}
use Rattle.cfg_kept.specs.Kinds.{Value, States}
use Rattle.cfg_kept.specs.KeptInquiry.{KeptInquiry, Reads, Runs, Begins, kept_after}
use Rattle.cfg_kept.proofs.Told.{told}
use Rattle.cfg_meta.proofs.MemberSteps.{some_is}
use Rattle.cfg_sso.specs.BearerTokens.{Bearer}
use Rattle.cfg_token_chain.specs.Provides.{IsTokenCall}

module _ (tree : KeptInquiry Bearer) where
  is_call : {Cause : List Value → List Pair → Bearer → Type 0} → ((found : List Value) (part : List Pair) (out : Bearer) → Reads tree found part out → Cause found part out) →
      (old new : States) (found : List Value) (part : List Pair) (out : Bearer) → Runs tree (Some old) found part out (Some new) → IsTokenCall tree Cause old new found part out
  is_call why old new found part out runs =
      let t = told tree old (Some new) found part out runs in
      let reads = subst (λ f. Reads tree f part out) (sym t.0) t.2 in
      record { finds = t.0; reads = reads; keeps = some_is new (kept_after tree old part) t.1; cause = why found part out reads }

  -- where the list of the values that were found was emptied before
  pub call_from : {Cause : List Value → List Pair → Bearer → Type 0} → ((found : List Value) (part : List Pair) (out : Bearer) → Reads tree found part out → Cause found part out) →
      (old cleared new : States) (earlier found more : List Value) (part : List Pair) (out : Bearer) → earlier ≡ [] → cleared ≡ old → more ≡ earlier ++ found → Runs tree (Some cleared) found part out (Some new) →
      IsTokenCall tree Cause old new more part out
  call_from {Cause} why old cleared new earlier found more part out none same list runs =
      subst (λ k. IsTokenCall tree Cause k new more part out) same
      (subst (λ f. IsTokenCall tree Cause cleared new f part out) (sym (list ∙ ap (λ t. t ++ found) none)) (is_call why cleared new found part out runs))

  pub begins_from : (old cleared new : States) (earlier found more : List Value) (part : List Pair) → earlier ≡ [] → cleared ≡ old → more ≡ earlier ++ found → Begins tree (Some cleared) found part (Some new) → Begins tree (Some old) more part (Some new)
  begins_from old cleared new earlier found more part none same list begins =
      subst (λ k. Begins tree (Some k) more part (Some new)) same
      (subst (λ f. Begins tree (Some cleared) f part (Some new)) (sym (list ∙ ap (λ t. t ++ found) none)) begins)
