-- All receipts were handed out: they are the section's part, or its open question is next.
use Rattle.std.specs.Prelude.{◌↔◌, IfSome}
use Rattle.std.proofs.Common.{◌≡◌, ◌∙◌, None, sym, subst}
use Rattle.cfg_world.specs.Inquiry.{Reads, AsksNext}
use Rattle.cfg_token.specs.SectionCalls.{section_on}
use Rattle.cfg_token.specs.Replays.{IsWhole}
use Rattle.cfg_token.proofs.HistorySteps.{if_ok_by}
use Rattle.cfg_token.proofs.WholeParts.{all_read, all_asked, asked_is_no_whole, whole_is}
use Rattle.cfg_token.proofs.polls.next_question_on.Goals as goal

pub returns-in-Ok-clause-whole : goal.returns-in-Ok-clause-whole
returns-in-Ok-clause-whole g c =
    let p = section_on g.T.FileToken.rules c.args.key.now c.args.loads.now c.args.env.now c.args.settings.now in
    let e = rw (c.kept.ensures, c.last_attempt.ensures) at c.in-Ok.ensures in
    let whole = all_read p c.args.receipts.now c.of.result c.new-replay.result c.follow_section.new.asking e.part c.in-Ok.field-0
    (record { begun = c.requires.begun; given_is = c.of.ensures ∙ c.in_ok-copy_receipts.ensures; old_is = c.new-replay.ensures; grows = e.grows; made = e.made }) e.reads in
    whole_is p c.args.receipts.now c.in-Ok.field-0 (subst (λ J. Reads p J c.in-Ok.field-0) (sym whole) e.reads)

pub returns-in-Err-Open-clause-asks : goal.returns-in-Err-Open-clause-asks
returns-in-Err-Open-clause-asks g c =
    let p = section_on g.T.FileToken.rules c.args.key.now c.args.loads.now c.args.env.now c.args.settings.now in
    let o = rw c.in-Err-Open.field-0-is at c.in-Err-Open.ensures in
    let e = rw (c.kept.ensures, c.last_attempt.ensures) at o in
    let asked = c.follow_section.new.asking.unanswered in
    if_ok_by c.open_question.result asked (λ q. IfSome q (AsksNext p c.args.receipts.now)) c.open_question.ensures.is
    (all_asked p c.args.receipts.now c.of.result c.new-replay.result c.follow_section.new.asking e.part
    (record { begun = c.requires.begun; given_is = c.of.ensures ∙ c.in_ok-copy_receipts.ensures; old_is = c.new-replay.ensures; grows = e.grows; made = e.made }) asked e.asks c.open_question.ensures.next)

pub returns-in-Err-Open-clause-whole : goal.returns-in-Err-Open-clause-whole
returns-in-Err-Open-clause-whole g c =
    let p = section_on g.T.FileToken.rules c.args.key.now c.args.loads.now c.args.env.now c.args.settings.now in
    let o = rw c.in-Err-Open.field-0-is at c.in-Err-Open.ensures in
    let e = rw (c.kept.ensures, c.last_attempt.ensures) at o in
    let asked = c.follow_section.new.asking.unanswered in
    if_ok_by c.open_question.result asked (λ q. (q ≡ None) ↔ IsWhole p c.args.receipts.now) c.open_question.ensures.is
    (asked_is_no_whole p c.args.receipts.now asked e.is_open
    (all_asked p c.args.receipts.now c.of.result c.new-replay.result c.follow_section.new.asking e.part
    (record { begun = c.requires.begun; given_is = c.of.ensures ∙ c.in_ok-copy_receipts.ensures; old_is = c.new-replay.ensures; grows = e.grows; made = e.made }) asked e.asks c.open_question.ensures.next))
