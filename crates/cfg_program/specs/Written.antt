-- What was written, by the status that says how it ended.
use Rattle.std.specs.Prelude.{ℕ, List, Bool, true, false, ◌≡◌, ◌⊎◌}
use Rattle.std.specs.Io.KnownBytes.{Appends}
use Rattle.cfg_world.specs.Faults.{Rose}
use Rattle.cfg_program.specs.declared.status.Status.{Status}
use Rattle.cfg_program.specs.declared.status.Status.TheVariants as status
use Rattle.cfg_program.specs.Streams.{GrowsByPrefix, SinkSeen}

-- a text: all of it, or a prefix of it where the sink failed or memory ran out
abbrev pub TextWritten : SinkSeen → List ℕ → Status → Type 0
TextWritten sink text status.Done = Appends sink.written sink.written_after text
TextWritten sink text status.SinkFault = Rose sink.faults sink.faults_after × GrowsByPrefix sink.written sink.written_after text
TextWritten sink text status.OutOfMemory = GrowsByPrefix sink.written sink.written_after text
TextWritten sink text _ = ⊥

-- the lines of calls, with the status of what the last one answered
abbrev pub LinesWritten : SinkSeen → Bool → List ℕ → Status → Type 0
LinesWritten sink is_credentials lines status.Done = (is_credentials ≡ true) × Appends sink.written sink.written_after lines
LinesWritten sink is_credentials lines status.Refused = (is_credentials ≡ false) × Appends sink.written sink.written_after lines
LinesWritten sink is_credentials lines status.SinkFault = Rose sink.faults sink.faults_after × GrowsByPrefix sink.written sink.written_after lines
LinesWritten sink is_credentials lines status.OutOfMemory = GrowsByPrefix sink.written sink.written_after lines
LinesWritten sink is_credentials lines _ = ⊥

-- lines that call for this status: all of them, with it, or a prefix where the sink failed or memory ran out
abbrev pub ToldWritten : SinkSeen → Status → List ℕ → Status → Type 0
ToldWritten sink told lines ended =
    ((ended ≡ told) × Appends sink.written sink.written_after lines)
    ⊎ (((ended ≡ status.SinkFault) × Rose sink.faults sink.faults_after × GrowsByPrefix sink.written sink.written_after lines)
    ⊎ ((ended ≡ status.OutOfMemory) × GrowsByPrefix sink.written sink.written_after lines))
