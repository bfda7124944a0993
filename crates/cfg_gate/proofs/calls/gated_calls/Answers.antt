use Rattle.std.proofs.Common.{◌∙◌, ap, map, sym}
use Rattle.cfg_gate.specs.GatedSections.{AnswersTurn}
use Rattle.cfg_gate.specs.Turns.{greatest}
use Rattle.cfg_gate.specs.Worlds.{worlds_of}
use Rattle.cfg_gate.proofs.Callers.{ok_by, zip_read}
use Rattle.cfg_gate.proofs.calls.gated_calls.Goals as goal

pub returns-clause-calls : goal.returns-clause-calls
returns-clause-calls g c = ok_by c.join_each.result c.join_each.ensures.calls c.join_each.ensures.calls (λ x e _.
    zip_read c.args.worlds.items x.calls c.in_ok-callers.callers.items c.in_ok-returned.returned.items
    (λ world called. AnswersTurn g.T.FileToken.rules (worlds_of g.D.Devices) c.args.token.state.key c.args.env.now c.args.settings.now world called.world
    called.answer.kept called.answer.last called.found called.seen called.answer.outcome)
    _ _ c.in_ok-callers.ensures.worlds e (rw (sym c.in_ok-gate.ensures.key) c.in_ok-returned.ensures.each))

pub returns-clause-loads : goal.returns-clause-loads
returns-clause-loads g c = ok_by c.join_each.result c.join_each.ensures.loads c.join_each.ensures.loads (λ x e _.
    e ∙ ap (λ n. greatest n (map (λ called. called.seen) x.calls)) (c.in_ok-callers.ensures.seen ∙ c.in_ok-gate.ensures.pass.1))
