-- The configuration is an empty one with these variables.
use Rattle.std.proofs.Common.{map}
use Rattle.cfg_base.specs.TextMap.{named}
use Rattle.cfg_program.proofs.AloneChains.{if_local}
use Rattle.cfg_program.proofs.local.chain_without_sections.Goals as goal

pub returns : goal.returns
returns g c =
    if_local _ c.chain_over.result c.with_env-config.result c.in_ok-without_region.field-0 c.in_ok-env.env (map named c.args.variables.items) _
    c.chain_over.ensures c.with_env-config.ensures c.in_ok-without_region.ensures c.in_ok-env.ensures
