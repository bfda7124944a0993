-- All calls are first ones, or there are others behind them, whose endpoint forgot its tokens.
use Rattle.std.proofs.Common.{ap, subst, arith}
use Rattle.cfg_world.specs.Asked.{Same, StandsOn}
use Rattle.cfg_world.specs.Held.{Held}
use Rattle.cfg_endpoint.specs.Devices.{DevicesState, Allows, Stands}
use Rattle.cfg_program.specs.Calls.{asked_by}
use Rattle.cfg_program.proofs.EndpointCalls.{all_first, both_parts}
use Rattle.cfg_program.proofs.endpoint.answer_over.Goals as goal

pub returns-then-count-before : goal.returns-then-count-before
returns-then-count-before g c =
    let at = ap (λ (w : Held DevicesState). w.devices) c.new-world.ensures in
    let m = c.in_ok-is_ok.ensures.calls in
    all_first _ c.args.devices c.requires.new c.args.count c.args.before _ c.in_ok-kept.ensures.nothing _ c.new-lines.ensures.items (omega arith) c.calls.new.world.devices _ _ _
    m.calls m.counted m.made (subst (λ (x : DevicesState). Same (Allows x) (Allows c.calls.new.world.devices)) at m.same)
    (subst (λ (x : DevicesState). StandsOn (Stands x) (Stands c.calls.new.world.devices) (asked_by m.calls)) at m.stands) m.credentials m.shows

pub returns : goal.returns
returns g c =
    let at = ap (λ (w : Held DevicesState). w.devices) c.new-world.ensures in
    let m = c.in_ok-calls.ensures.calls in
    let n = c.in_ok-is_ok-2.ensures.calls in
    both_parts _ c.args.devices c.requires.new c.args.count c.args.before _ c.in_ok-kept.ensures.nothing _ c.new-lines.ensures.items (omega arith) c.calls-2.new.world.devices c.forget-world.result.devices c.calls-3.new.world.devices _ _ _ _ _ _
    m.calls n.calls m.counted m.made (subst (λ (x : DevicesState). Same (Allows x) (Allows c.calls-2.new.world.devices)) at m.same)
    (subst (λ (x : DevicesState). StandsOn (Stands x) (Stands c.calls-2.new.world.devices) (asked_by m.calls)) at m.stands) m.shows
    c.forget-world.ensures.devices c.forget-world.ensures.made (omega arith) n.counted n.made n.same n.stands n.credentials n.shows
