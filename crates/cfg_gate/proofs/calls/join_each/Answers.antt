use Rattle.std.proofs.Common.{◌≡◌, length, map, ap, sym, ◌∙◌, arith, rules}
use Rattle.cfg_gate.specs.Turns.{greatest, greater}
use Rattle.cfg_gate.proofs.Callers.{one_read, none_read, all_read, all_same, all_rest, all_first, greatest_snoc}
use Rattle.cfg_gate.proofs.calls.join_each.Goals as goal

pub loop-back-init : goal.loop-back-init
loop-back-init g c =
    let all = c.into_iter-back-iterator.ensures.into_iter_gives.0 in record {
      calls = none_read _ _ _ _ c.in_ok-calls.ensures.items all;
      len = search rules;
      of = c.requires.of;
      all_of = all_same c.args.returned.items _ (λ x. x.pass.place.table_id ≡ c.args.gate.now.table.shared.table_id) (sym all) c.requires.all_of;
      seen = all_same c.args.returned.items _ (λ x. x.called.seen ≡ x.pass.seen) (sym all) c.requires.seen;
      most = ap (λ xs. greatest c.args.pass.seen (map (λ x. x.seen) xs)) (sym c.in_ok-calls.ensures.items);
    }

pub loop-back-preserved : goal.loop-back-preserved
loop-back-preserved g c =
    let i = c.loop-back.invariant in
    let taken = c.in-Some.ensures.steps.0 in
    let shorter = ap length taken in
    let less = c.in-Some.ensures.steps.1 in
    let len = i.len in
    let pushed = c.in_ok-push.ensures.items in
    let had = all_first _ _ c.in-Some.back (λ x. x.called.seen ≡ x.pass.seen) taken i.seen in record {
      calls = one_read _ c.loop-back.calls.items c.push.new.self.items c.in-Some.back _ _ _ pushed taken i.calls;
      len = omega arith;
      of = c.join.ensures.of ∙ i.of;
      all_of = all_rest _ _ c.in-Some.back (λ x. x.pass.place.table_id ≡ c.args.gate.now.table.shared.table_id) taken i.all_of;
      seen = all_rest _ _ c.in-Some.back (λ x. x.called.seen ≡ x.pass.seen) taken i.seen;
      most = greatest_snoc (λ x. x.seen) c.args.pass.seen c.loop-back.pass.seen c.join.new.self.seen c.loop-back.calls.items c.push.new.self.items
          c.in-Some.back.called pushed i.most (c.join.ensures.seen ∙ ap (λ n. greater c.loop-back.pass.seen n) (sym had));
    }

pub returns-clause-calls : goal.returns-clause-calls
returns-clause-calls g c =
    let i = c.loop-back.invariant in
    c.of.ensures ∙ all_read _ _ _ _ (sym i.len ∙ c.in-None.ensures.steps.0) i.calls

pub returns-clause-loads : goal.returns-clause-loads
returns-clause-loads g c =
    c.seen.ensures ∙ c.loop-back.invariant.most ∙ ap (λ xs. greatest c.args.pass.seen (map (λ x. x.seen) xs)) (sym c.of.ensures)
