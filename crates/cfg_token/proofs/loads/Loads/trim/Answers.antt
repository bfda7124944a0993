-- The last record becomes the load of the origin.
use Rattle.std.proofs.Common.{◌∙◌, ap}
use Rattle.cfg_token.specs.Histories.{last_in, trimmed}
use Rattle.cfg_token.proofs.HistorySteps.{last_is_load, is_trimmed, kept_trimmed}
use Rattle.cfg_token.proofs.loads.Loads.trim.Goals as goal

pub token_load-requires : goal.token_load-requires
token_load-requires g c =
    rw (c.self.invariant.0.before_is _ _ c.in-Some.ensures.items) (last_is_load g.T.FileToken.rules _ _ _ _ _ c.in-Some.ensures.items c.self.invariant.0.history)

pub returns-in-Some-clause-is : goal.returns-in-Some-clause-is
returns-in-Some-clause-is g c =
    is_trimmed (record { load = c.self.inside.load; last = c.self.inside.last; records = c.self.inside.records.items }) c.pop.new.self.items _ c.in-Some.record _ c.self.inside.latest.before c.self.inside.latest.attempt
    c.in-Some.ensures.items (c.self.invariant.0.before_is _ _ c.in-Some.ensures.items) c.token_load.ensures c.self.invariant.0.attempt_is c.clear.ensures.items
    ∙ ap trimmed c.self.view_is

pub returns-in-Some-clause-kept : goal.returns-in-Some-clause-kept
returns-in-Some-clause-kept g c = kept_trimmed c.args.self.now _ (returns-in-Some-clause-is g c)

pub returns-in-Some-clause-last : goal.returns-in-Some-clause-last
returns-in-Some-clause-last g c = ap last_in (returns-in-Some-clause-is g c)
