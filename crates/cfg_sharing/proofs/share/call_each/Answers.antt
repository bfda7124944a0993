-- What the closure gives of each world; what it is lent may be lent to threads, and what it gives comes back from one.
use Rattle.std.proofs.Common.{rules, arith}
use denote.Param.Send.{sendable}
use denote.Param.Sent.{code_sync}
use Rattle.std.proofs.Crossing.{crosses}
use Rattle.cfg_sharing.proofs.Crossing.{called_send, chain_sync, kept_sync}
use Rattle.cfg_sharing.proofs.Verdicts.{of_jobs}
use Rattle.cfg_sharing.proofs.share.call_each.Goals as goal

pub map_vec-requires-sync-F : goal.map_vec-requires-sync-F
map_vec-requires-sync-F g c κs within = search (sendable, crosses, chain_sync, kept_sync, code_sync) depth 40 fits 4000

pub map_vec-requires-send-X : goal.map_vec-requires-send-X
map_vec-requires-send-X g c κs within = search (sendable, called_send) depth 20

pub returns : goal.returns
returns g c =
    of_jobs _ _ _ c.args.worlds.items c.in_ok-calls.calls.items (omega (arith, c.in_ok-calls.ensures.len, c.in_ok-calls.calls.ok.0, c.args.worlds.ok.0)) c.in_ok-calls.ensures.each
    (λ job x k. search rules)
