-- A default chain and shared kept states may be lent to threads, and an answer comes back from one.
use denote.RattleType.{RattleType}
use denote.Param.Object.{Ghosts, table_of}
use denote.Param.Sent.{Syncs}
use denote.Param.Send.{IsSend, IsSync, sendable}
use denote.Param.SendFields.{as_row_sync, declared_send, declared_sync, variants_sync}
use Rattle.std.proofs.Crossing.{crosses, dyn_box_sync, Vec-sync, sync}
use Rattle.std.specs.contracts.alloc.Global as Heap
use Rattle.std.specs.contracts.dyn_box.DynBox as Dyn
use Rattle.std.specs.contracts.impls.GlobalAllocator.TheImpl.{ghosts}
use Rattle.std.specs.contracts.option.Option as Option
use Rattle.cfg_base.proofs.text.Text.TheSendSync as text
use Rattle.cfg_types.proofs.credentials.Credentials.TheSendSync as credentials
use Rattle.cfg_types.proofs.errors.CredentialsError.TheLaws.TheKnot.{send-CredentialsError}
use Rattle.cfg_types.proofs.errors.ConfigCause.TheSendSync as config
use Rattle.cfg_types.proofs.errors.UnhandledCause.TheSendSync as unhandled
use Rattle.cfg_types.proofs.errors.imds.ImdsError.TheSendSync as imds
use Rattle.cfg_types.proofs.errors.login.LoginTokenError.TheSendSync as login
use Rattle.cfg_types.proofs.errors.process.ProcessCause.TheSendSync as process
use Rattle.cfg_types.proofs.errors.profile.ProfileFileError.TheSendSync as profile
use Rattle.cfg_types.proofs.errors.sso.CachedSsoTokenError.TheSendSync as cached
use Rattle.cfg_types.proofs.errors.sso.SsoTokenProviderError.TheSendSync as sso
use Rattle.cfg_types.proofs.reply.FailKind.TheSendSync as kind
use Rattle.cfg_types.proofs.reply.Refusal.TheSendSync as refusal
use Rattle.cfg_types.specs.contracts.errors.CredentialsError as CredentialsError
use Rattle.cfg_world.proofs.world.World.TheSendSync as world
use Rattle.cfg_world.specs.declared.devices.Devices as Devices
use Rattle.cfg_exchange.proofs.classify.ImdsResponseRetryClassifier.TheSendSync as own
use Rattle.cfg_imds.proofs.endpoint.Endpoint.TheSendSync as endpoint
use Rattle.cfg_imds.proofs.requests.ImdsSettings.TheSendSync as settings
use Rattle.cfg_imds.specs.contracts.classifier.Classifier as Classifier
use Rattle.cfg_imds.specs.contracts.imds.client.Client as Client
use Rattle.cfg_providers.specs.contracts.custom.CustomSource as CustomSource
use Rattle.cfg_kept.proofs.found.Found.TheSendSync as found
use Rattle.cfg_kept.proofs.shared_kept.SharedKept.TheSendSync as kept
use Rattle.cfg_kept.specs.contracts.shared_kept.SharedKept as SharedKept
use Rattle.cfg_chain.proofs.chain_core.ChainCore.TheSendSync as core
use Rattle.cfg_chain.specs.contracts.default_provider.shared.Answered as Answered
use Rattle.cfg_chain.specs.contracts.default_provider.credentials.DefaultCredentialsChain as Chain
use Rattle.cfg_sharing.specs.contracts.shared.Called as Called

module _ (T : RattleType) (g : Ghosts T.Denot) (entries : Syncs (table_of T.Denot g)) (table : IsSync T) where
  source_sync : IsSync (CustomSource.the_row T g)
  source_sync = declared_sync (CustomSource.the_type T g) (text.the_sync, (as_row_sync (Dyn.the_field T Heap.the_row g ghosts) (dyn_box_sync T g entries table), tt))

  classifier_sync : IsSync (Classifier.the_row T g)
  classifier_sync = variants_sync (Classifier.enum T g) ((own.the_sync, tt), ((as_row_sync (Dyn.the_field T Heap.the_row g ghosts) (dyn_box_sync T g entries table), tt), tt))

  client_sync : IsSync (Client.the_row T g)
  client_sync = declared_sync (Client.the_type T g) (sync, (endpoint.the_sync, (settings.the_sync, (classifier_sync, tt))))

pub kept_sync : IsSync SharedKept.the_row
kept_sync = kept.the_sync

module _ (T T' : RattleType) (g : Ghosts T.Denot) (g' : Ghosts T'.Denot) where
  pub chain_sync : Syncs (table_of T.Denot g) → IsSync T → Syncs (table_of T'.Denot g') → IsSync T' → IsSync (Chain.the_row T T' g g')
  chain_sync entries table entries' table' =
      let source = source_sync T g entries table in
      let client = client_sync T' g' entries' table' in
      declared_sync (Chain.the_type T T' g g') (core.the_sync, (Vec-sync _ source, (as_row_sync (Option.the_field (Client.the_row T' g')) (search (sendable, crosses, client) depth 10), tt)))

ruleset fields = (text.the_send, config.the_field_send, unhandled.the_field_send, profile.the_field_send, process.the_field_send, imds.the_field_send, sso.the_field_send, cached.the_field_send, login.the_field_send, kind.the_field_send, refusal.the_field_send)

error_send : IsSend CredentialsError.the_row
error_send = search (sendable, crosses, send-CredentialsError, fields) depth 20 fits 4000

answered_send : IsSend Answered.the_row
answered_send = declared_send Answered.the_type (search (sendable, crosses, credentials.the_send, error_send) depth 20, (search (sendable, crosses, found.the_send) depth 20, tt))

pub called_send : (D : RattleType) (d : Devices.Ghosts D.Denot) → IsSend D → IsSend (Called.the_row D d)
called_send D d s = declared_send (Called.the_type D d) (search (world.the_send), (answered_send, tt))
