-- The chain is that of the script's configuration, and the world is a new one over its lists.
use Rattle.std.proofs.Common.{◌≡◌, ◌∙◌, ap, subst}
use Rattle.cfg_script.specs.Script.{plain}
use Rattle.cfg_program.specs.Calls.{configured}
use Rattle.cfg_program.specs.Regions.{TellsRegion}
use Rattle.cfg_program.proofs.OneRegion.{default_is, if_ok}
use Rattle.cfg_program.proofs.region.find_region.Goals as goal

pub returns : goal.returns
returns c =
    let same : c.new-world.result.devices.lists ≡ c.args.script.devices = ap (λ w. w.devices.lists) c.new-world.ensures ∙ ap (λ d. d.lists) c.in_ok-devices.ensures in
    let is = default_is c.in_ok-builder.field-0 c.in_ok-configure.field-0 c.in_ok-config.config (configured (plain c.args.script)) c.in_ok-chain.chain c.in_ok-builder.ensures c.in_ok-configure.ensures c.in_ok-config.ensures c.in_ok-chain.ensures in
    if_ok c.ask_region.result
    (λ a t. record { chain = c.in_ok-chain.chain; is = is; tells = subst (λ l. TellsRegion c.in_ok-chain.chain l a.is_ok a.lines.items) same t })
    c.ask_region.ensures
