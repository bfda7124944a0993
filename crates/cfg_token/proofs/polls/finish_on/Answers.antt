-- All receipts were handed out, and they are the section's part.
use Rattle.std.proofs.Common.{◌≡◌, true, false, refl, sym, ◌∙◌, ap, subst}
use Rattle.cfg_world.specs.Inquiry.{Reads}
use Rattle.cfg_token.specs.Histories.{kept_in, last_in, with_section}
use Rattle.cfg_token.specs.SectionCalls.{is_memory, section_on}
use Rattle.cfg_token.proofs.Outcomes.{section_tells}
use Rattle.cfg_token.proofs.SectionSteps.{read_is_begun}
use Rattle.cfg_token.proofs.WholeParts.{all_read}
use Rattle.cfg_token.proofs.polls.finish_on.Goals as goal

pub returns-in-Ok-clause-finished : goal.returns-in-Ok-clause-finished
returns-in-Ok-clause-finished g c = λ answered.
    let h = c.args.loads.now in
    let p = section_on g.T.FileToken.rules c.args.key.now h c.args.env.now c.args.settings.now in
    let a = c.in-Ok.ensures in
    let w = c.requires.whole in
    let whole = all_read p c.args.receipts c.args.receipts c.new-answers.result c.follow.new.asking a.ends.part a.made
    (record { begun = read_is_begun p c.args.receipts w.0 w.1; given_is = refl; old_is = c.new-answers.ensures; grows = a.ends.grows; made = a.ends.made_of }) a.ends.reads in
    record {
      made = a.made;
      answers = a.answers;
      reads = subst (λ J. Reads p J a.made) (sym whole) a.ends.reads;
      history = a.ends.history ∙ ap (λ J. with_section h J a.made) (sym whole);
    }

pub returns-in-Ok-clause-stopped : goal.returns-in-Ok-clause-stopped
returns-in-Ok-clause-stopped g c = λ memory.
    let t = g.T.FileToken.rules in
    let h = c.args.loads.now in
    let a = c.in-Ok.ensures in
    let rules_tell = section_tells t g.met.T.FileToken.tells c.args.key.now c.args.env.now c.args.settings.now (kept_in h) (last_in h) a.ends.part a.made a.ends.reads in
    absurd (no (sym memory ∙ ap (is_memory t) a.answers ∙ rules_tell))
  where
    no : true ≡ false → ⊥
    no e = cc
