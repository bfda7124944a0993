-- The name has what the calls before left there.
use Rattle.std.proofs.Common.{◌∙◌}
use Rattle.std.specs.Prelude.{codes}
use Rattle.caller.proofs.Holding.{two_calls}
use Rattle.caller.proofs.held.held_calls.Goals as goal

pub returns : goal.returns
returns g c =
    let added = c.add.ensures.settings ∙ c.new-cache.ensures.settings in
    two_calls g.D.Devices (codes "reader") _ _ _ _ _ _ _ _ c.args.world.now _ _ _ _ added (c.resolve.ensures.settings ∙ added)
    c.in_ok-chain_for.ensures c.in_ok-add.ensures.adds c.in_ok-first.ensures.resolves c.in_ok-second.ensures.resolves
