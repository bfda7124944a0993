-- Of one tree there is one call over answers that agree, and what has begun is a prefix of it.
use Rattle.std.proofs.Common.{◌≡◌, List, Some, ap, subst}
use Rattle.cfg_world.specs.Agreeing.{AnswerAlike}
use Rattle.cfg_world.specs.Fits.{Pair}
use Rattle.cfg_kept.specs.Beginnings.{GoesOn}
use Rattle.cfg_kept.specs.Kinds.{Value, States}
use Rattle.cfg_kept.specs.KeptInquiry.{KeptInquiry, Reads, Runs, Begins}
use Rattle.cfg_kept.proofs.Agreeing.{one_run}
use Rattle.cfg_kept.proofs.Beginnings.{begins_whole}
use Rattle.cfg_kept.proofs.Told.{told_back}
use Rattle.cfg_meta.proofs.MemberSteps.{some_is}
use Rattle.cfg_sso.specs.BearerTokens.{Bearer}
use Rattle.cfg_token_chain.specs.Provides.{IsTokenCall}

module _ (tree : KeptInquiry Bearer) (Cause : List Value → List Pair → Bearer → Type 0) where
  runs_call : (old new : States) (found : List Value) (part : List Pair) (out : Bearer) → IsTokenCall tree Cause old new found part out → Runs tree (Some old) found part out (Some new)
  runs_call old new found part out c = told_back tree old (Some new) found part out (c.finds, ap Some c.keeps, subst (λ f. Reads tree f part out) c.finds c.reads)

  pub one_token : (old new newer : States) (found more : List Value) (one other : List Pair) (x y : Bearer) →
      IsTokenCall tree Cause old new found one x → IsTokenCall tree Cause old newer more other y → AnswerAlike one other →
      (one ≡ other) × (found ≡ more) × (x ≡ y) × (new ≡ newer)
  one_token old new newer found more one other x y h k alike =
      let r = one_run tree old found more one other x y (Some new) (Some newer) (runs_call old new found one x h) (runs_call old newer more other y k) alike in
      (r.0, r.1, r.2, some_is new newer r.3)

  pub token_prefix : (old new newer : States) (found more : List Value) (one other : List Pair) (x : Bearer) →
      Begins tree (Some old) found one (Some new) → IsTokenCall tree Cause old newer more other x → AnswerAlike one other → GoesOn found one more other
  token_prefix old new newer found more one other x h k alike =
      begins_whole tree old found more one other x (Some new) (Some newer) h (runs_call old newer more other x k) alike
