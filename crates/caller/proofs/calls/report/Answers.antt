-- The three calls are those of the chains that were built, over the devices with the token's file.
use Rattle.std.proofs.Common.{ap}
use Rattle.cfg_world.specs.Held.{Held}
use Rattle.caller.specs.declared.devices.OneFile.{OneFile}
use Rattle.caller.proofs.Reporting.{holds_token, reports}
use Rattle.caller.proofs.calls.report.Goals as goal

pub call-requires-clause-holds : goal.call-requires-clause-holds
call-requires-clause-holds c = holds_token _ _ (ap (λ (w : Held OneFile). w.devices.path.now) c.new-world.ensures) (ap (λ (w : Held OneFile). w.devices.content.now) c.new-world.ensures)

pub returns : goal.returns
returns c = reports _ _ _ _ _ _ _ _ _ _ _ c.in_ok-reader.ensures c.in_ok-auditor.ensures c.in_ok-kept.ensures.nothing c.in_ok-kept-2.ensures.nothing c.new-lines.ensures.bytes c.in_ok-call.ensures.tells c.in_ok-call-2.ensures.tells c.in_ok-call-3.ensures.tells
