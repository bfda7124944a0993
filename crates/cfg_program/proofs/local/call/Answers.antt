-- The world's journal gained the call's questions, and nothing else.
use Rattle.cfg_program.proofs.Endings.{stopped_before}
use Rattle.cfg_program.proofs.Locally.{on_err, stopped, grows_by_call}
use Rattle.cfg_program.proofs.local.call.Goals as goal

pub returns-in_err-is_ok-clause-stopped : goal.returns-in_err-is_ok-clause-stopped
returns-in_err-is_ok-clause-stopped g c = on_err _ (stopped _ _ _ _ _ _ _ c.provide_credentials.result c.in_ok-kept.ensures.nothing c.provide_credentials.ensures.provides c.provide_credentials.ensures.stays)

pub returns-clause-made : goal.returns-clause-made
returns-clause-made g c =
    grows_by_call _ _ _ _ _ c.args.world.now c.provide_credentials.new.world c.provide_credentials.result c.journal-before.result.now c.journal.result.now c.in_ok-is_ok.is_ok c.new-lines.result.items c.tell.new.lines.items
    c.in_ok-kept.ensures.nothing (c.provide_credentials.ensures.provides c.in_ok-is_ok.ensures.memory) c.journal-before.ensures c.journal.ensures c.in_ok-is_ok.ensures.credentials c.new-lines.ensures.items c.in_ok-is_ok.ensures.line

-- nothing was asked yet
pub returns-in_err-kept-clause-stopped : goal.returns-in_err-kept-clause-stopped
returns-in_err-kept-clause-stopped g c = on_err _ (stopped_before g.D.Devices _ c.args.world.now)
