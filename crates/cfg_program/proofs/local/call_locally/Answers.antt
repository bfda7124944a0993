-- The chain is that of what is handed in.
use Rattle.std.proofs.Common.{IfOk, OnErr, subst}
use Rattle.cfg_chain.specs.Settings.{ChainSetting}
use Rattle.cfg_program.specs.Local.{GrowsByCall, StopsInCall}
use Rattle.cfg_program.proofs.Endings.{stopped_before}
use Rattle.cfg_program.proofs.Locally.{on_err}
use Rattle.cfg_program.proofs.local.call_locally.Goals as goal

pub returns-clause-made : goal.returns-clause-made
returns-clause-made g c =
    subst (λ (over : ChainSetting). IfOk c.call.result (λ a. GrowsByCall g.D.Devices over c.args.world.now c.call.new.world a.is_ok a.lines.items)) c.in_ok-chain.ensures c.call.ensures.made

pub returns-clause-stopped : goal.returns-clause-stopped
returns-clause-stopped g c =
    subst (λ (over : ChainSetting). OnErr c.call.result (StopsInCall g.D.Devices over c.args.world.now c.call.new.world)) c.in_ok-chain.ensures c.call.ensures.stopped

-- nothing was asked before the chain was there
pub returns-in_err-chain-clause-stopped : goal.returns-in_err-chain-clause-stopped
returns-in_err-chain-clause-stopped g c = on_err _ (stopped_before g.D.Devices _ c.args.world.now)
