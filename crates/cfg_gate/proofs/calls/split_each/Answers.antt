use Rattle.std.proofs.Common.{◌≡◌, ◌<◌, length, ap, refl, ◌∙◌, arith}
use Rattle.cfg_gate.proofs.Callers.{one_made, all_snoc}
use Rattle.cfg_gate.proofs.calls.split_each.Goals as goal

pub loop-world-preserved : goal.loop-world-preserved
loop-world-preserved g c =
    let i = c.loop-world.invariant in
    let taken = c.in-Some.ensures.steps.0 in
    let shorter = ap length taken in
    let less = c.in-Some.ensures.steps.1 in
    let len = i.len in
    let left = i.left in
    let kept = c.cut-pass.ensures.kept.0 in
    let given = c.cut-pass.ensures.given.0 in
    let pushed = c.in_ok-push.ensures.items in record {
      worlds = one_made _ c.loop-world.callers.items c.push.new.self.items _ c.in-Some.world _ _ _ pushed refl taken i.worlds;
      len = omega arith;
      first = c.cut-pass.ensures.of.0 ∙ i.first;
      seen = c.cut-pass.ensures.kept.1 ∙ i.seen;
      left = omega arith;
      of = all_snoc c.loop-world.callers.items c.push.new.self.items _ (λ x. x.pass.place.table_id ≡ c.args.gate.now.table.shared.table_id) pushed i.of (c.cut-pass.ensures.of.1 ∙ i.first);
      ready = all_snoc c.loop-world.callers.items c.push.new.self.items _ (λ x. 0 < x.pass.allowance) pushed i.ready (omega arith);
    }
