-- The token is a new one, and the worlds are new.
use Rattle.std.proofs.Common.{◌∙◌, ap, map, refl}
use Rattle.cfg_gate.specs.Turns.{greatest}
use Rattle.cfg_program.proofs.Gating.{at_gate}
use Rattle.cfg_program.proofs.gated.at_gate.Goals as goal

pub returns : goal.returns
returns g c =
    let calls = c.in_ok-calls.field-0 in
    at_gate _ c.args.config.now c.new-token.result.state.key c.args.key c.env.result.now c.in_ok-settings.settings c.in_ok-worlds.worlds.items
    calls.calls c.as_slice.result.now calls.loads c.args.callers.items c.in_ok-is_ok.field-0.is_ok c.in_ok-is_ok.field-0.lines.items
    c.write_loads.new.line.items c.in_ok-calls.ensures.calls
    (ap (λ s. s.key) (c.new-token.ensures.state ∙ c.new.ensures)) c.env.ensures c.in_ok-settings.ensures c.in_ok-worlds.ensures c.as_slice.ensures
    (c.in_ok-calls.ensures.loads ∙ ap (λ n. greatest n (map (λ called. called.seen) calls.calls)) c.new-token.ensures.loads)
    c.in_ok-is_ok.ensures c.in_ok-write_loads.ensures
    (λ lists. (tt, refl)) (λ s entries h. h.0) (λ s entries h. h)
