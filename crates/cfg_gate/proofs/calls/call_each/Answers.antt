use Rattle.std.proofs.Common.{sym, ◌∙◌, subst, ◌<◌}
use Rattle.cfg_gate.proofs.Callers.{ok_by, zip_each}
use Rattle.cfg_gate.proofs.calls.call_each.Goals as goal

pub returns-clause-each : goal.returns-clause-each
returns-clause-each g c = ok_by c.map_vec.result c.map_vec.ensures.len c.map_vec.ensures.each (λ v len each.
    zip_each _ c.args.callers.items v.items (sym v.ok.0 ∙ len ∙ c.args.callers.ok.0) (λ i d lt. let x = (each i d lt).1 in (x.job, x.job_is, x.call.met.0)))

pub returns-clause-of : goal.returns-clause-of
returns-clause-of g c = ok_by c.map_vec.result c.map_vec.ensures.len c.map_vec.ensures.each (λ v len each. λ i d lt.
    let x = (each i d (subst (λ n. i < n) (sym v.ok.0 ∙ len ∙ c.args.callers.ok.0) lt)).1 in x.call.met.1.0)

pub returns-clause-seen : goal.returns-clause-seen
returns-clause-seen g c = ok_by c.map_vec.result c.map_vec.ensures.len c.map_vec.ensures.each (λ v len each. λ i d lt.
    let x = (each i d (subst (λ n. i < n) (sym v.ok.0 ∙ len ∙ c.args.callers.ok.0) lt)).1 in x.call.met.1.1)
