-- A member stopped, answered, was passed over, or was passed over and memory ran out.
use Rattle.std.proofs.Common.{[], ◌∷◌, ◌++◌, ◌∙◌, ap, refl}
use Rattle.cfg_meta.specs.AnswerRules.{attempt_of}
use Rattle.cfg_kept.proofs.ChainSteps.{chain_answers, chain_passed, chain_breaks_later}
use Rattle.std.proofs.lemmas.Result.{err_from_is_err_and}
use Rattle.cfg_chain.proofs.AskerSteps.{asker_passed, asker_halts}
use Rattle.cfg_chain.proofs.ChainHalts.{chain_halts}
use Rattle.cfg_chain.proofs.chain.follow_chain.Goals as goal

pub returns-in_err-outcome-clause-follows : goal.returns-in_err-outcome-clause-follows
returns-in_err-outcome-clause-follows g c =
    let p = err_from_is_err_and c.from_residual.result c.from_residual.ensures.1 in
    rw (p.1, p.2) (chain_halts _ c.args.members.now c.loop-member.member-index _ c.loop-member.attempts.items _ _ c.in_err-outcome.field-0.0
    c.loop-member.invariant.leads c.loop-member-test.true c.in_err-outcome.ensures.follows)

pub returns-in_err-outcome-clause-asker : goal.returns-in_err-outcome-clause-asker
returns-in_err-outcome-clause-asker g c =
    let p = err_from_is_err_and c.from_residual.result c.from_residual.ensures.1 in
    rw (p.1, p.2) (asker_halts _ c.args.members.now c.loop-member.member-index _ _ _ c.in_err-outcome.field-0.0 _
    c.loop-member.invariant.asker c.loop-member-test.true c.in_err-outcome.ensures.follows refl)

pub returns-in-Answers-clause-follows : goal.returns-in-Answers-clause-follows
returns-in-Answers-clause-follows g c =
    chain_answers _ c.args.members.now c.loop-member.member-index _ c.loop-member.attempts.items _
    c.loop-member.invariant.leads c.loop-member-test.true c.in_ok-outcome.ensures.follows c.in-Answers.ensures.0 c.in-Answers.ensures.1

pub loop-member-preserved : goal.loop-member-preserved
loop-member-preserved g c = record {
  leads = chain_passed _ c.args.members.now c.loop-member.member-index _ c.loop-member.attempts.items _ _
      c.loop-member.invariant.leads c.loop-member-test.true c.in_ok-outcome.ensures.follows c.in-PassedOver.ensures
      (c.in-Ok.ensures.noted ∙ ap (λ name. c.loop-member.attempts.items ++ attempt_of name c.in-PassedOver.error ∷ []) c.name.ensures);
  asker = asker_passed _ c.args.members.now c.loop-member.member-index _ _
      c.loop-member.invariant.asker c.loop-member-test.true c.in_ok-outcome.ensures.follows c.in-PassedOver.ensures;
  key = c.in_ok-outcome.ensures.key ∙ c.loop-member.invariant.key;
}

pub returns-in_default-clause-follows : goal.returns-in_default-clause-follows
returns-in_default-clause-follows g c =
    chain_breaks_later _ c.args.members.now c.loop-member.member-index _ c.loop-member.attempts.items _
    c.loop-member.invariant.leads c.loop-member-test.true c.in_ok-outcome.ensures.follows c.in-PassedOver.ensures
