-- None, one more, and all.
use Rattle.std.proofs.Common.{List, ◌++◌, ◌∙◌, ap, subst}
use Rattle.std.proofs.lemmas.List.{take_all}
use Rattle.cfg_sharing.specs.declared.shared.Called.{Called}
use Rattle.cfg_world.specs.Script.{Script}
use Rattle.cfg_program.specs.Lines.{shown}
use Rattle.cfg_program.specs.Sharing.{callers_of, TellsCallers}
use Rattle.cfg_program.proofs.ShareLines.{no_callers, callers_more}
use Rattle.cfg_program.proofs.share.tell_callers.Goals as goal

pub loop-called-init : goal.loop-called-init
loop-called-init c = no_callers c.new-lines.result.items c.new-lines.ensures.items

pub loop-called-preserved : goal.loop-called-preserved
loop-called-preserved c =
    callers_more c.args.calls.now c.loop-called.called-index c.called-item.result c.loop-called.is_ok c.in_ok-is_ok.is_ok
    c.loop-called.lines.items c.tell.new.lines.items c.loop-called-test.true c.called-item.is c.loop-called.invariant
    c.in_ok-is_ok.ensures.memory c.in_ok-is_ok.ensures.credentials
    (c.in_ok-is_ok.ensures.line ∙ ap (λ j. c.loop-called.lines.items ++ shown c.called-item.result.answered.outcome j) c.journal.ensures)

pub returns : goal.returns
returns c =
    subst (λ (calls : List (Called Script)). TellsCallers (callers_of calls) c.loop-called.is_ok c.loop-called.lines.items)
    (take_all c.loop-called.called-index c.args.calls.now c.loop-called-test.false) c.loop-called.invariant
