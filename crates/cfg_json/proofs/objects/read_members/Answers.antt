use Rattle.std.proofs.Common.{inr, refl, length}
use Rattle.cfg_json.proofs.ListSteps.{members_fail, members_end, members_further, members_run_out}
use Rattle.cfg_json.proofs.objects.read_members.Goals as goal

pub returns-in-Err : goal.returns-in-Err
returns-in-Err c = members_fail c.args.total (length c.args.text.now) c.loop.counter c.loop.rest.now c.loop.members.items _ c.in-Err.e c.loop-test.true c.in-Err.ensures c.loop.invariant

pub returns-then-ends : goal.returns-then-ends
returns-then-ends c =
    rw c.in_ok-push.ensures.items
    (members_end c.args.total (length c.args.text.now) c.loop.counter c.loop.rest.now c.in-Ok.turn.2.now c.loop.members.items c.in-Ok.turn.0 c.in-Ok.turn.1 _ c.loop-test.true c.in-Ok.ensures c.if-ends.true c.loop.invariant)

pub loop-preserved : goal.loop-preserved
loop-preserved c =
    rw c.in_ok-push.ensures.items
    (members_further c.args.total (length c.args.text.now) c.loop.counter c.loop.rest.now c.in-Ok.turn.2.now c.loop.members.items c.in-Ok.turn.0 c.in-Ok.turn.1 _ c.loop-test.true c.in-Ok.ensures c.if-ends.false c.loop.invariant)

pub returns : goal.returns
returns c = inr (refl, members_run_out c.args.total (length c.args.text.now) c.loop.counter c.loop.rest.now c.loop.members.items _ c.loop-test.false c.loop.invariant)
