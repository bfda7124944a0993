-- How a run ends whose callers are on threads of their own.
use Rattle.std.specs.Prelude.{List, Bool, true, false, Option, Some, None, ◌⊎◌}
use Rattle.cfg_world.specs.Faults.{Rose}
use Rattle.cfg_providers.specs.CustomSources.{NamedAnswer}
use Rattle.cfg_program.specs.declared.status.Status.{Status}
use Rattle.cfg_program.specs.declared.status.Status.TheVariants as status
use Rattle.cfg_program.specs.declared.shared_commands.SharedCommand.{SharedCommand}
use Rattle.cfg_program.specs.declared.shared_commands.SharedCommand.TheVariants.{Share, Gated}
use Rattle.cfg_program.specs.Scripts.{share_of_one_call}
use Rattle.cfg_program.specs.Streams.{SourceSeen, SinkSeen}
use Rattle.cfg_program.specs.Run.{WritesNothing, EndsUnread, EndsUnknown, WritesLines, WritesPrefix, EndsReading}
use Rattle.cfg_program.specs.Gated.{GatedAnswers}
use Rattle.cfg_program.specs.Shares.{ShareAnswers}

-- how a command ends that reads such a script, with these sources of the caller's own
abbrev pub EndsShare : SourceSeen → SinkSeen → List NamedAnswer → Status → Type 0
EndsShare source sink sources status.Done = WritesLines source sink share_of_one_call (ShareAnswers sources) status.Done
EndsShare source sink sources status.Refused = WritesLines source sink share_of_one_call (ShareAnswers sources) status.Refused
EndsShare source sink sources status.UnknownCommand = ⊥
EndsShare source sink sources status.NoScript = EndsUnread source share_of_one_call status.NoScript × WritesNothing sink
EndsShare source sink sources status.SourceFault = EndsUnread source share_of_one_call status.SourceFault × WritesNothing sink
EndsShare source sink sources status.SinkFault = Rose sink.faults sink.faults_after × WritesPrefix source sink share_of_one_call (ShareAnswers sources)
EndsShare source sink sources status.OutOfMemory = WritesNothing sink ⊎ WritesPrefix source sink share_of_one_call (ShareAnswers sources)
EndsShare source sink sources status.TooLong = EndsUnread source share_of_one_call status.TooLong × WritesNothing sink
EndsShare source sink sources status.HistoryDiffers = WritesLines source sink share_of_one_call (ShareAnswers sources) status.HistoryDiffers
EndsShare source sink sources status.NotBuilt = ⊥

-- how a run ends that is asked for this, or for nothing that is known
abbrev pub EndsShared : SourceSeen → SinkSeen → List NamedAnswer → Option SharedCommand → Status → Type 0
EndsShared source sink sources None ended = EndsUnknown sink ended
EndsShared source sink sources (Some Share) ended = EndsShare source sink sources ended
EndsShared source sink sources (Some Gated) ended = EndsReading source sink share_of_one_call GatedAnswers ended

-- whether a status ever comes: all but that of what is not built
abbrev pub shared_comes : Status → Bool
shared_comes status.NotBuilt = false
shared_comes _ = true
