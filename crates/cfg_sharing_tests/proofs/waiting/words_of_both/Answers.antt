-- What the callers are lent may be lent to threads.
use denote.Param.Send.{sendable}
use denote.Param.Sent.{code_sync}
use Rattle.std.proofs.Crossing.{crosses}
use Rattle.cfg_sharing.proofs.Crossing.{chain_sync, kept_sync}
use Rattle.cfg_sharing_tests.proofs.waiting.words_of_both.Goals as goal

pub map_vec-requires-sync-F : goal.map_vec-requires-sync-F
map_vec-requires-sync-F g c κs within = search (sendable, crosses, chain_sync, kept_sync, code_sync) depth 40 fits 4000
