-- A shared cache may be lent to threads.
use denote.RattleType.{RattleType}
use denote.Param.Object.{Ghosts, table_of}
use denote.Param.Send.{IsSync, sendable}
use denote.Param.SendFields.{declared_sync}
use denote.Param.Sent.{Syncs}
use Rattle.std.proofs.Crossing.{crosses}
use Rattle.cfg_identity.proofs.loaded.Loaded.TheSendSync as loaded
use Rattle.cfg_identity.specs.contracts.shared.SharedIdentityCache as cache
use Rattle.cfg_identity.specs.contracts.shared.SharedSlot as slot
use Rattle.cfg_identity.proofs.names.Names.TheSendSync as names
use Rattle.cfg_identity.proofs.settings.CacheSettings.TheSendSync as settings
use Rattle.cfg_sharing.proofs.Crossing.{chain_sync}

module _ (T U : RattleType) (g : Ghosts T.Denot) (h : Ghosts U.Denot) (tables : Syncs (table_of T.Denot g)) (table : IsSync T) (others : Syncs (table_of U.Denot h)) (other : IsSync U) where
  slot_sync : IsSync (slot.the_row T U g h)
  slot_sync = declared_sync (slot.the_type T U g h) (chain_sync T U g h tables table others other, (search (sendable, crosses, loaded.the_send) depth 10, tt))

  pub cache_sync : IsSync (cache.the_row T U g h)
  cache_sync = search (sendable, crosses, names.the_field_sync, settings.the_field_sync, slot_sync) depth 20
