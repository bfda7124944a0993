-- None, one more, and all.
use Rattle.std.proofs.Common.{List, ◌++◌, ◌∙◌, ap, subst, map}
use Rattle.std.proofs.lemmas.List.{take_all}
use Rattle.cfg_sso.specs.BearerTokens.{bearer}
use Rattle.cfg_program.specs.Gated.{section_of, TellsSections}
use Rattle.cfg_program.specs.Tokens.{shown_token}
use Rattle.cfg_program.proofs.Gating.{Back, no_sections, sections_more}
use Rattle.cfg_program.proofs.gated.tell_sections.Goals as goal

pub loop-called-init : goal.loop-called-init
loop-called-init c = no_sections c.new-lines.result.items c.new-lines.ensures.items

pub loop-called-preserved : goal.loop-called-preserved
loop-called-preserved c =
    let one = c.called-item.result in
    sections_more c.args.calls.now c.loop-called.called-index one c.loop-called.is_ok c.in_ok-is_ok.is_ok
    c.loop-called.lines.items c.tell_section.new.lines.items c.loop-called-test.true c.called-item.is
    c.loop-called.invariant c.in_ok-is_ok.ensures.memory c.in_ok-is_ok.ensures.token
    (c.in_ok-is_ok.ensures.line ∙ ap (λ j. c.loop-called.lines.items ++ shown_token (bearer one.answer.outcome) j) c.journal.ensures)

pub returns : goal.returns
returns c =
    subst (λ (calls : List Back). TellsSections (map section_of calls) c.loop-called.is_ok c.loop-called.lines.items)
    (take_all c.loop-called.called-index c.args.calls.now c.loop-called-test.false) c.loop-called.invariant
