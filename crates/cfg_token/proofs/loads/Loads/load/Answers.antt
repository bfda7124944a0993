-- The last record is a load of its own.
use Rattle.std.proofs.Common.{◌≡◌, sym, ◌∙◌, ap}
use Rattle.cfg_token.specs.Histories.{History, load_in}
use Rattle.cfg_token.proofs.HistorySteps.{last_is_load, loaded_last, if_ok_by}
use Rattle.cfg_token.proofs.loads.Loads.load.Goals as goal

pub copied_load-requires : goal.copied_load-requires
copied_load-requires g c =
    let e = sym c.deref.ensures.value ∙ c.in-Some.ensures.cases.0 in
    rw (c.self.invariant.0.before_is _ _ e) (last_is_load g.T.FileToken.rules _ _ _ _ _ e c.self.invariant.0.history)

pub returns-in-Some-clause-is : goal.returns-in-Some-clause-is
returns-in-Some-clause-is g c =
    let e = sym c.deref.ensures.value ∙ c.in-Some.ensures.cases.0 in
    let h : History g.row.T.Denot g.row.T-Error.Denot = record { load = c.self.inside.load; last = c.self.inside.last; records = c.self.inside.records.items } in
    if_ok_by c.copied_load.result _ (λ l. l ≡ load_in c.args.self.now) c.copied_load.ensures (loaded_last h _ _ c.self.inside.latest.before e (c.self.invariant.0.before_is _ _ e) ∙ ap load_in c.self.view_is)
