-- A member answered, was passed over, stopped, or was passed over and memory ran out.
use Rattle.std.proofs.Common.{[], ◌∷◌, ◌++◌, ◌∙◌, Err, ap, sym, slice_index_or}
use Rattle.std.proofs.Math.ListN.{get_or-map}
use Rattle.std.proofs.Math.Seq.{map-set_same}
use Rattle.std.proofs.lemmas.List.{map-set}
use Rattle.std.proofs.lemmas.Result.{err_from_is_err_and}
use Rattle.cfg_kept.specs.KeptStates.{kept_key}
use Rattle.cfg_meta.specs.AnswerRules.{attempt_of}
use Rattle.cfg_meta.specs.MemberParts.{keeping_of}
use Rattle.cfg_meta.proofs.MemberSteps.{same_at, same_length, members_passed, members_answer, members_halt, members_break_later, members_none}
use Rattle.cfg_meta.proofs.follow.follow_members.Goals as goal

pub follow-requires : goal.follow-requires
follow-requires g c =
    same_at kept_key (λ m. g.M.ChainMember.needs m) c.loop-i.kept c.args.members.now c.loop-i.i c.index-kept-i.result c.index-members-i.result (c.loop-i.invariant.keys ∙ c.requires) c.loop-i-test.true
    ∙ ap (λ m. g.M.ChainMember.needs m) (sym c.index-members-i.is)

pub returns-in_err-outcome-clause-follows : goal.returns-in_err-outcome-clause-follows
returns-in_err-outcome-clause-follows g c =
    let p = err_from_is_err_and c.from_residual.result c.from_residual.ensures.1 in
    rw (p.1, p.2)
    (members_halt _ _ _ _ _ _ _ _ _ _ _ c.index-members-i.result (keeping_of c.index-kept-i.result) _ (slice_index_or c.loop-i.kept c.loop-i.i c.index-kept-i.result) _ c.follow.new.kept
    c.loop-i.invariant.led c.loop-i-test.true (same_length kept_key (λ m. g.M.ChainMember.needs m) keeping_of c.args.kept.now c.args.members.now c.requires)
    c.index-members-i.is (sym (get_or-map keeping_of c.loop-i.kept c.loop-i.i c.index-kept-i.result)) (map-set keeping_of c.loop-i.kept c.loop-i.i c.follow.new.kept)
    _ c.in_err-outcome.ensures.follows)

pub returns-in_err-outcome-clause-keys : goal.returns-in_err-outcome-clause-keys
returns-in_err-outcome-clause-keys g c = map-set_same kept_key c.loop-i.kept c.loop-i.i c.follow.new.kept c.index-kept-i.result c.follow.ensures.key ∙ c.loop-i.invariant.keys

pub returns-in-Answers-clause-follows : goal.returns-in-Answers-clause-follows
returns-in-Answers-clause-follows g c =
    members_answer _ _ _ _ _ _ _ _ _ _ _ c.index-members-i.result (keeping_of c.index-kept-i.result) _ (slice_index_or c.loop-i.kept c.loop-i.i c.index-kept-i.result) _ c.follow.new.kept
    c.loop-i.invariant.led c.loop-i-test.true (same_length kept_key (λ m. g.M.ChainMember.needs m) keeping_of c.args.kept.now c.args.members.now c.requires)
    c.index-members-i.is (sym (get_or-map keeping_of c.loop-i.kept c.loop-i.i c.index-kept-i.result)) (map-set keeping_of c.loop-i.kept c.loop-i.i c.follow.new.kept)
    _ _ c.in_ok-outcome.ensures.follows c.in-Answers.ensures.0 c.in-Answers.ensures.1

pub returns-in-Answers-clause-keys : goal.returns-in-Answers-clause-keys
returns-in-Answers-clause-keys g c = map-set_same kept_key c.loop-i.kept c.loop-i.i c.follow.new.kept c.index-kept-i.result c.follow.ensures.key ∙ c.loop-i.invariant.keys

pub returns-in_default-clause-follows : goal.returns-in_default-clause-follows
returns-in_default-clause-follows g c =
    members_break_later _ _ _ _ _ _ _ _ _ _ _ c.index-members-i.result (keeping_of c.index-kept-i.result) _ (slice_index_or c.loop-i.kept c.loop-i.i c.index-kept-i.result) _ c.follow.new.kept
    c.loop-i.invariant.led c.loop-i-test.true (same_length kept_key (λ m. g.M.ChainMember.needs m) keeping_of c.args.kept.now c.args.members.now c.requires)
    c.index-members-i.is (sym (get_or-map keeping_of c.loop-i.kept c.loop-i.i c.index-kept-i.result)) (map-set keeping_of c.loop-i.kept c.loop-i.i c.follow.new.kept)
    _ c.in_ok-outcome.ensures.follows

pub returns-in_default-clause-keys : goal.returns-in_default-clause-keys
returns-in_default-clause-keys g c = map-set_same kept_key c.loop-i.kept c.loop-i.i c.follow.new.kept c.index-kept-i.result c.follow.ensures.key ∙ c.loop-i.invariant.keys

pub loop-i-preserved : goal.loop-i-preserved
loop-i-preserved g c = record {
  led = members_passed _ _ _ _ _ _ _ _ _ _ _ c.index-members-i.result (keeping_of c.index-kept-i.result) _ (slice_index_or c.loop-i.kept c.loop-i.i c.index-kept-i.result) _ c.follow.new.kept
      c.loop-i.invariant.led c.loop-i-test.true (same_length kept_key (λ m. g.M.ChainMember.needs m) keeping_of c.args.kept.now c.args.members.now c.requires)
      c.index-members-i.is (sym (get_or-map keeping_of c.loop-i.kept c.loop-i.i c.index-kept-i.result)) (map-set keeping_of c.loop-i.kept c.loop-i.i c.follow.new.kept)
      _ _ _ c.in_ok-outcome.ensures.follows c.in-PassedOver.ensures
      (c.in-Ok.ensures.noted ∙ ap (λ name. c.loop-i.attempts.items ++ attempt_of name c.in-PassedOver.error ∷ []) c.name.ensures);
  keys = map-set_same kept_key c.loop-i.kept c.loop-i.i c.follow.new.kept c.index-kept-i.result c.follow.ensures.key ∙ c.loop-i.invariant.keys;
}

pub returns-clause-follows : goal.returns-clause-follows
returns-clause-follows g c =
    members_none _ _ _ _ _ _ _ _ _ c.loop-i.i c.loop-i.attempts.items _ c.loop-i.invariant.led c.loop-i-test.false
    (ap (λ e. Err e) (c.none_loaded.ensures ∙ ap (λ x. g.M.Error.ChainError.rules.none_loaded x.attempts) c.new-attempts-2.ensures ∙ ap (λ x. g.M.Error.ChainError.rules.none_loaded x) c.of.ensures))
