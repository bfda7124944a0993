-- Which statuses tell of the command and of the input, and what in the input causes a refusal.
use Rattle.std.specs.Prelude.{◌≡◌, ℕ, ◌<◌, List, ◌++◌, length, Bool, true, false, Option, None, IsSome, IfSome}
use Rattle.std.specs.Io.KnownBytes.{Appends}
use Rattle.cfg_world.specs.Fits.{Pair}
use Rattle.cfg_script.specs.Reading.{script_of, audit_of}
use Rattle.cfg_program.specs.declared.commands.Command.{Command}
use Rattle.cfg_program.specs.declared.commands.Command.TheVariants.{Resolve, Cached, Region, Token, Explain, Audit, Endpoint}
use Rattle.cfg_program.specs.declared.status.Status.{Status}
use Rattle.cfg_program.specs.declared.status.Status.TheVariants as status
use Rattle.cfg_program.specs.Endpoints.{made_endpoint_of}
use Rattle.cfg_program.specs.Inputs.{most_bytes}
use Rattle.cfg_program.specs.Scripts.{script_of_one_call}
use Rattle.cfg_program.specs.Streams.{SourceSeen}
use Rattle.cfg_program.specs.Run.{Seen, IsInput}

-- whether a status depends on the command, the input and the world's answers alone: all but those of a fault and of memory
abbrev pub depends_on_input : Status → Bool
depends_on_input status.SourceFault = false
depends_on_input status.SinkFault = false
depends_on_input status.OutOfMemory = false
depends_on_input _ = true

-- whether a status ever comes: all but those of a history that differs, and of what is not built
abbrev pub comes : Status → Bool
comes status.HistoryDiffers = false
comes status.NotBuilt = false
comes _ = true

-- the bytes of the input are known
abbrev pub BytesAreKnown : Seen → Type 0
BytesAreKnown seen = IsSome seen.source.left

-- both runs append the same bytes to what their sinks hold
abbrev pub AppendTheSame : Seen → Seen → Type 0
AppendTheSame one other = (bytes : List ℕ) × Appends one.sink.written one.sink.written_after bytes × Appends other.sink.written other.sink.written_after bytes

-- both runs gain the same for the journals of their worlds
abbrev pub GainTheSame : Seen → Seen → Type 0
GainTheSame one other = (part : List Pair) × (one.world.journal_after ≡ one.world.journal ++ part) × (other.world.journal_after ≡ other.world.journal ++ part)

-- bytes that are read so call for this refusal
abbrev pub ReadingCallsFor : {P : Type 0} → SourceSeen → (List ℕ → Option P) → Status → Type 0
ReadingCallsFor source reads status.NoScript = (bytes : List ℕ) × IsInput source bytes × (reads bytes ≡ None)
ReadingCallsFor source reads status.TooLong = IfSome source.left (λ b. most_bytes < length b)
ReadingCallsFor source reads _ = ⊥

-- the bytes of the input call for this refusal by this command
abbrev pub CallsFor : Seen → Command → Status → Type 0
CallsFor seen (Resolve below) cause = ReadingCallsFor seen.source script_of cause
CallsFor seen Cached cause = ReadingCallsFor seen.source script_of cause
CallsFor seen Region cause = ReadingCallsFor seen.source script_of_one_call cause
CallsFor seen (Token below) cause = ReadingCallsFor seen.source script_of_one_call cause
CallsFor seen Explain cause = ReadingCallsFor seen.source script_of_one_call cause
CallsFor seen Audit cause = ReadingCallsFor seen.source audit_of cause
CallsFor seen Endpoint cause = ReadingCallsFor seen.source made_endpoint_of cause
CallsFor seen _ cause = ⊥
