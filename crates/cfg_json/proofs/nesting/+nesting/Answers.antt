use Rattle.std.proofs.Common.{length, sym}
use Rattle.cfg_json.specs.ReadingValues.{value_at}
use Rattle.cfg_json.proofs.ListSteps.{no_turn, items_end, items_further, items_run_out}
use Rattle.cfg_json.proofs.nesting.+nesting.Goals as goal

pub skip_items-returns-in_err-here : goal.skip_items-returns-in_err-here
skip_items-returns-in_err-here t c =
    rw c.from_residual.ensures
    (sym (no_turn c.args.keyed (value_at c.args.depth) (length c.args.text.now) c.loop.counter c.loop.rest.now c.loop.has _ c.loop-test.true (sym c.in_err-here.ensures) c.loop.invariant))

pub skip_items-returns-then-ends : goal.skip_items-returns-then-ends
skip_items-returns-then-ends t c =
    sym
    (items_end c.args.keyed (value_at c.args.depth) (length c.args.text.now) c.loop.counter c.loop.rest.now c.in_ok-here.next.now c.loop.has c.in_ok-here.here c.in_ok-here.ends _ c.loop-test.true (sym c.in_ok-here.ensures) c.if-ends.true c.loop.invariant)

pub skip_items-loop-preserved : goal.skip_items-loop-preserved
skip_items-loop-preserved t c =
    items_further c.args.keyed (value_at c.args.depth) (length c.args.text.now) c.loop.counter c.loop.rest.now c.in_ok-here.next.now c.loop.has c.in_ok-here.here c.in_ok-here.ends _ c.loop-test.true (sym c.in_ok-here.ensures) c.if-ends.false c.loop.invariant

pub skip_items-returns : goal.skip_items-returns
skip_items-returns t c = sym (items_run_out c.args.keyed (value_at c.args.depth) (length c.args.text.now) c.loop.counter c.loop.rest.now c.loop.has _ c.loop-test.false c.loop.invariant)
