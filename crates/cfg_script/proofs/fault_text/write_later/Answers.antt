-- The loop writes one step more.
use Rattle.std.proofs.Common.{◌<◌, length, arith}
use Rattle.cfg_script.proofs.Ways.{one_more}
use Rattle.cfg_script.proofs.fault_text.write_later.Goals as goal

pub loop-step-preserved : goal.loop-step-preserved
loop-step-preserved g c =
    let within : c.loop-step.step-index < length c.args.steps.now = omega arith in
    one_more g.W.Write.write_str_gives c.args.steps.now c.loop-step.step-index c.step-item.result c.args.f.now c.loop-step.f c.write_later_step.new.f
    within c.step-item.is c.loop-step.invariant c.in_ok-write_later_step.ensures
