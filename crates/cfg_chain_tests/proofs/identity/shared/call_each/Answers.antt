use denote.Param.Send.{sendable}
use denote.Param.Sent.{code_sync}
use Rattle.std.proofs.Crossing.{crosses, sync}
use Rattle.cfg_chain_tests.proofs.Crossing.{cache_sync}
use Rattle.cfg_chain_tests.proofs.identity.shared.call_each.Goals as goal

-- src/identity/shared.rt:195:17
pub map_vec-requires-sync-F : goal.map_vec-requires-sync-F
map_vec-requires-sync-F g c κs within = search (sendable, crosses, sync, cache_sync, code_sync) depth 40
