-- How a run ends: by its status, what was read, what was written, and why.
use Rattle.std.specs.Prelude.{◌≡◌, ℕ, ◌≤◌, List, [], ◌++◌, length, Bool, true, false, Option, Some, None, IfSome, ◌⊎◌, ⊤}
use Rattle.std.specs.Io.KnownBytes.{Appends}
use Rattle.cfg_world.specs.Faults.{Rose}
use Rattle.cfg_world.specs.Fits.{Pair}
use Rattle.cfg_script.specs.Reading.{script_of, audit_of}
use Rattle.cfg_program.specs.declared.status.Status.{Status}
use Rattle.cfg_program.specs.declared.status.Status.TheVariants as status
use Rattle.cfg_program.specs.declared.commands.Command.{Command}
use Rattle.cfg_program.specs.declared.commands.Command.TheVariants.{Help, Version, Resolve, Cached, Region, Token, Explain, Audit, Endpoint, Local, Generate}
use Rattle.cfg_program.specs.declared.lines.LineForm.TheVariants as form
use Rattle.cfg_program.specs.declared.commands.TheConstants.{HELP, VERSION}
use Rattle.cfg_program.specs.Streams.{GrowsByPrefix, SourceSeen, SinkSeen}
use Rattle.cfg_program.specs.Inputs.{IsTooLong, most_bytes}
use Rattle.cfg_program.specs.Calls.{Answers}
use Rattle.cfg_program.specs.Cached.{CachedAnswers}
use Rattle.cfg_program.specs.Scripts.{script_of_one_call}
use Rattle.cfg_program.specs.Regions.{RegionAnswers}
use Rattle.cfg_program.specs.Tokens.{TokenAnswers}
use Rattle.cfg_program.specs.Explained.{ExplainAnswers}
use Rattle.cfg_program.specs.Audited.{AuditAnswers}
use Rattle.cfg_program.specs.Endpoints.{made_endpoint_of, EndpointAnswers}
use Rattle.cfg_program.specs.Local.{Handed, LocalAnswers}
use Rattle.cfg_program.specs.Generated.{GeneratedWritten}
use Rattle.cfg_program.specs.Written.{TextWritten, LinesWritten}

-- the journal of the world that was handed in
pub record WorldSeen : Type 0 where
  pub journal : List Pair
  pub journal_after : List Pair

abbrev pub world_seen : List Pair → List Pair → WorldSeen
world_seen journal journal_after = record { journal = journal; journal_after = journal_after }

-- what a run saw, before and after
pub record Seen : Type 0 where
  pub source : SourceSeen
  pub sink : SinkSeen
  pub world : WorldSeen

-- the sink holds what it held before
abbrev pub WritesNothing : SinkSeen → Type 0
WritesNothing sink = sink.written_after ≡ sink.written

-- the input has these bytes, and they are not too many
pub record IsInput (source : SourceSeen) (bytes : List ℕ) : Type 0 where
  pub all : IfSome source.left (λ b. b ≡ bytes)
  pub short : length bytes ≤ most_bytes

-- The input has these bytes, and they are not too many. All of them were read: none is left.
pub record WasRead (source : SourceSeen) (bytes : List ℕ) : Type 0 where
  pub all : IfSome source.left (λ b. b ≡ bytes)
  pub none_left : IfSome source.left_after (λ b. b ≡ [])
  pub short : length bytes ≤ most_bytes

-- the input is this script, as a command reads it
pub record IsScript {P : Type 0} (source : SourceSeen) (reads : List ℕ → Option P) (p : P) : Type 0 where
  pub bytes : List ℕ
  pub read : WasRead source bytes
  pub script : reads bytes ≡ Some p

-- how a command ends whose input is not known to its end
abbrev pub EndsEarly : SourceSeen → Status → Type 0
EndsEarly source status.SourceFault = Rose source.faults source.faults_after
EndsEarly source status.OutOfMemory = ⊤
EndsEarly source status.TooLong = IsTooLong source.left source.left_after
EndsEarly source _ = ⊥

-- how a command ends that finds no script
abbrev pub EndsUnread : {P : Type 0} → SourceSeen → (List ℕ → Option P) → Status → Type 0
EndsUnread source reads status.NoScript = (bytes : List ℕ) × WasRead source bytes × (reads bytes ≡ None)
EndsUnread source reads status.SourceFault = Rose source.faults source.faults_after
EndsUnread source reads status.OutOfMemory = ⊤
EndsUnread source reads status.TooLong = IsTooLong source.left source.left_after
EndsUnread source reads _ = ⊥

-- how a command ends that takes nothing from bytes: they say nothing, or memory ran out
abbrev pub EndsOver : {P : Type 0} → Option P → Status → Type 0
EndsOver said status.NoScript = said ≡ None
EndsOver said status.OutOfMemory = ⊤
EndsOver said _ = ⊥

-- the lines of the script's own calls were written, and they call for this end
pub record WritesLines {P E : Type 0} (source : SourceSeen) (sink : SinkSeen) (reads : List ℕ → Option P) (answers : P → E → List ℕ → Type 0) (end : E) : Type 0 where
  pub p : P
  pub input : IsScript source reads p
  pub lines : List ℕ
  pub answered : answers p end lines
  pub written : Appends sink.written sink.written_after lines

-- a prefix of those lines was written
pub record WritesPrefix {P E : Type 0} (source : SourceSeen) (sink : SinkSeen) (reads : List ℕ → Option P) (answers : P → E → List ℕ → Type 0) : Type 0 where
  pub p : P
  pub input : IsScript source reads p
  pub end : E
  pub lines : List ℕ
  pub answered : answers p end lines
  pub written : GrowsByPrefix sink.written sink.written_after lines

-- How a command ends that reads a script: by what it reads bytes as, and by what the calls of a script answer,
-- that is, whether the last one gave what it was asked for, and their lines.
abbrev pub EndsReading : {P : Type 0} → SourceSeen → SinkSeen → (List ℕ → Option P) → (P → Bool → List ℕ → Type 0) → Status → Type 0
EndsReading source sink reads answers status.Done = WritesLines source sink reads answers true
EndsReading source sink reads answers status.Refused = WritesLines source sink reads answers false
EndsReading source sink reads answers status.UnknownCommand = ⊥
EndsReading source sink reads answers status.NoScript = EndsUnread source reads status.NoScript × WritesNothing sink
EndsReading source sink reads answers status.SourceFault = EndsUnread source reads status.SourceFault × WritesNothing sink
EndsReading source sink reads answers status.SinkFault = Rose sink.faults sink.faults_after × WritesPrefix source sink reads answers
EndsReading source sink reads answers status.OutOfMemory = WritesNothing sink ⊎ WritesPrefix source sink reads answers
EndsReading source sink reads answers status.TooLong = EndsUnread source reads status.TooLong × WritesNothing sink
EndsReading source sink reads answers status.HistoryDiffers = ⊥
EndsReading source sink reads answers status.NotBuilt = ⊥

-- The world's journal gained a call's questions, and the call's line was written, or a prefix of it, by the
-- status that says how it ended.
pub record LocalLineWritten (sink : SinkSeen) (world : WorldSeen) (handed : Handed) (ended : Status) : Type 0 where
  pub part : List Pair
  pub gained : world.journal_after ≡ world.journal ++ part
  pub is_credentials : Bool
  pub line : List ℕ
  pub answers : LocalAnswers handed part is_credentials line
  pub written : LinesWritten sink is_credentials line ended

-- how the call over what is handed in ends: by that line, or with nothing where memory ran out before it
abbrev pub EndsLocal : SinkSeen → WorldSeen → Handed → Status → Type 0
EndsLocal sink world handed status.OutOfMemory = WritesNothing sink ⊎ LocalLineWritten sink world handed status.OutOfMemory
EndsLocal sink world handed ended = LocalLineWritten sink world handed ended

-- an unknown command
abbrev pub EndsUnknown : SinkSeen → Status → Type 0
EndsUnknown sink status.UnknownCommand = WritesNothing sink
EndsUnknown sink _ = ⊥

-- how a run ends to which this is handed, and that is asked for this, or for nothing that is known
abbrev pub EndsRun : Seen → Handed → Option Command → Status → Type 0
EndsRun seen handed None ended = EndsUnknown seen.sink ended
EndsRun seen handed (Some Help) ended = TextWritten seen.sink HELP.now ended
EndsRun seen handed (Some Version) ended = TextWritten seen.sink VERSION.now ended
EndsRun seen handed (Some (Resolve below)) ended = EndsReading seen.source seen.sink script_of (Answers handed.sources (form.Call below)) ended
EndsRun seen handed (Some Cached) ended = EndsReading seen.source seen.sink script_of (CachedAnswers handed.sources) ended
EndsRun seen handed (Some Region) ended = EndsReading seen.source seen.sink script_of_one_call RegionAnswers ended
EndsRun seen handed (Some (Token below)) ended = EndsReading seen.source seen.sink script_of_one_call (TokenAnswers below) ended
EndsRun seen handed (Some Explain) ended = EndsReading seen.source seen.sink script_of_one_call (ExplainAnswers handed.sources) ended
EndsRun seen handed (Some Audit) ended = EndsReading seen.source seen.sink audit_of (AuditAnswers handed.sources) ended
EndsRun seen handed (Some Endpoint) ended = EndsReading seen.source seen.sink made_endpoint_of EndpointAnswers ended
EndsRun seen handed (Some Local) ended = EndsLocal seen.sink seen.world handed ended
EndsRun seen handed (Some (Generate n)) ended = GeneratedWritten seen.sink n ended
