-- How a conversation ends.
use Rattle.std.specs.Prelude.{◌≡◌, ℕ, List, ◌++◌, Bool, true, false, All, is_ok, Option, ◌⊎◌}
use Rattle.std.specs.Io.KnownBytes.{Appends, Consumes, Keeps, prepend_known}
use Rattle.cfg_world.specs.Faults.{Rose}
use Rattle.cfg_providers.specs.CustomSources.{Answer}
use Rattle.cfg_chain.specs.Settings.{ChainSetting}
use Rattle.cfg_program.specs.Streams.{SourceSeen, SinkSeen, GrowsByPrefix}
use Rattle.cfg_script.specs.Script.{Plain}
use Rattle.cfg_drive.specs.declared.driven.Broken.{Broken as Break}
use Rattle.cfg_drive.specs.declared.driven.Cause.{Cause}
use Rattle.cfg_drive.specs.declared.driven.Cause.TheVariants as cause
use Rattle.cfg_drive.specs.declared.driven.Driven.{Driven}
use Rattle.cfg_drive.specs.declared.driven.Driven.TheVariants.{Credentials, Refused, Broken, Unwritten, OutOfMemory}
use Rattle.cfg_drive.specs.declared.driven.Stopped.{Stopped}
use Rattle.cfg_drive.specs.declared.driven.Stopped.TheVariants as stopped
use Rattle.cfg_drive.specs.Lines.{IsLine}
use Rattle.cfg_drive.specs.Configured.{IsConfiguration, IsNoConfiguration, setting_of}
use Rattle.cfg_drive.specs.Conversations.{Exchange, IsExchange, AreAskedLines, IsCallOver, asked_lines, said_lines, journal_of, ended}
use Rattle.cfg_drive.specs.Breaks.{BreaksCall, FailsInCall, IsUnread, Reads, WritesPart, from}
use Rattle.cfg_drive.specs.Outcomes.{IsBrokenLine, IsOutcomeLine}

-- what was seen of a source of which these bytes were read ahead: they count as left
abbrev pub with_ahead : List ℕ → SourceSeen → SourceSeen
with_ahead ahead source = record source { left_after = prepend_known ahead source.left_after }

-- The first line configures a chain of a setting, and this is what followed of it and of the lines behind the first.
pub record Configures (source : SourceSeen) (follows : ChainSetting → SourceSeen → Type 0) : Type 0 where
  pub first : List ℕ
  pub p : Plain
  pub is_line : IsLine first
  pub configures : IsConfiguration first p
  pub rest : Option (List ℕ)
  pub read : Consumes source.left rest (ended first)
  pub later : follows (setting_of p) (from source rest)

-- A call of a chain of this setting was made over lines: each question was written, in order, and the line that answers
-- it read; the line of its outcome stands behind the questions. Nothing else was read or written.
pub record TellsCall (over : ChainSetting) (source : SourceSeen) (sink : SinkSeen) (is_credentials : Bool) : Type 0 where
  pub exchanges : List Exchange
  pub each : All IsExchange exchanges
  pub out : Answer
  pub call : IsCallOver over exchanges out
  pub credentials : is_credentials ≡ is_ok out
  pub line : List ℕ
  pub tells : IsOutcomeLine over out (journal_of exchanges) line
  pub read : Consumes source.left source.left_after (said_lines exchanges)
  pub written : Appends sink.written sink.written_after (asked_lines exchanges ++ line)

-- the lines of the exchanges of a whole such call, and that of its outcome
pub record AreToldLines (over : ChainSetting) (lines : List ℕ) : Type 0 where
  pub exchanges : List Exchange
  pub each : All IsExchange exchanges
  pub out : Answer
  pub call : IsCallOver over exchanges out
  pub line : List ℕ
  pub tells : IsOutcomeLine over out (journal_of exchanges) line
  pub all : lines ≡ asked_lines exchanges ++ line

-- the sink failed in the line of the outcome of such a call
pub record FailsAtEnd (over : ChainSetting) (source : SourceSeen) (sink : SinkSeen) : Type 0 where
  pub lines : List ℕ
  pub call : AreToldLines over lines
  pub read : Consumes source.left source.left_after (said_lines call.exchanges)
  pub written : GrowsByPrefix sink.written sink.written_after lines
  pub failed : Rose sink.faults sink.faults_after

-- the lines of such a call, up to a question or with its outcome
abbrev pub AreCallLines : ChainSetting → List ℕ → Type 0
AreCallLines over lines = AreAskedLines over lines ⊎ AreToldLines over lines

-- how a call stops, before its end or in the line of its outcome
abbrev pub StopsBehind : ChainSetting → SourceSeen → SinkSeen → Stopped → Type 0
StopsBehind over source sink (stopped.Broken broken) = BreaksCall over source sink broken
StopsBehind over source sink stopped.Unwritten = FailsInCall over source sink ⊎ FailsAtEnd over source sink
StopsBehind over source sink stopped.OutOfMemory = WritesPart sink (λ lines. AreCallLines over lines)

-- a whole conversation, and whether its outcome is credentials
abbrev pub Tells : SourceSeen → SinkSeen → Bool → Type 0
Tells source sink is_credentials = Configures source (λ over later. TellsCall over later sink is_credentials)

-- the sink failed, in the line of a question or of the outcome
abbrev pub Fails : SourceSeen → SinkSeen → Type 0
Fails source sink = Configures source (λ over later. FailsInCall over later sink) ⊎ Configures source (λ over later. FailsAtEnd over later sink)

-- no configuration was read
abbrev pub IsUnconfigured : SourceSeen → Cause → Type 0
IsUnconfigured source (cause.NoConfiguration reason) = (line : List ℕ) × Reads source line × IsNoConfiguration line reason
IsUnconfigured source why = IsUnread source why

-- it broke off at the first line, before anything was written
pub record BreaksFirst (source : SourceSeen) (sink : SinkSeen) (broken : Break) : Type 0 where
  pub number : broken.line ≡ 1
  pub why : IsUnconfigured source broken.cause
  pub written : Keeps sink.written sink.written_after

-- it broke off there, or at the open question of the call, which asks nothing more
abbrev pub Breaks : SourceSeen → SinkSeen → Break → Type 0
Breaks source sink broken = BreaksFirst source sink broken ⊎ Configures source (λ over later. BreaksCall over later sink broken)

-- memory ran out: nothing was written, or a prefix of the lines of a call of the chain that the first line configures
abbrev pub RunsOut : SourceSeen → SinkSeen → Type 0
RunsOut source sink = WritesPart sink (λ lines. Configures source (λ over later. AreCallLines over lines))

-- how a conversation stops
abbrev pub Stops : SourceSeen → SinkSeen → Stopped → Type 0
Stops source sink (stopped.Broken broken) = Breaks source sink broken
Stops source sink stopped.Unwritten = Fails source sink
Stops source sink stopped.OutOfMemory = RunsOut source sink

-- what was seen of the sink up to where this was written
abbrev pub up_to : SinkSeen → Option (List ℕ) → SinkSeen
up_to sink mid = record sink { written_after = mid }

-- what was seen of it behind that
abbrev pub behind : SinkSeen → Option (List ℕ) → SinkSeen
behind sink mid = record sink { written = mid }

-- It broke off, and behind what was written until then stands the line that says why, or, where the sink failed, a prefix
-- of it.
pub record TellsBreak (source : SourceSeen) (sink : SinkSeen) (broken : Break) : Type 0 where
  pub mid : Option (List ℕ)
  pub breaks : Breaks source (up_to sink mid) broken
  pub line : List ℕ
  pub tells : IsBrokenLine broken line
  pub written : Appends mid sink.written_after line ⊎ (Rose sink.faults sink.faults_after × GrowsByPrefix mid sink.written_after line)

-- It broke off, and behind what was written until then stands nothing, or a prefix of that line, since memory ran out.
abbrev pub RunsOutBroken : SourceSeen → SinkSeen → Type 0
RunsOutBroken source sink = (broken : Break) × (mid : Option (List ℕ)) × Breaks source (up_to sink mid) broken
    × WritesPart (behind sink mid) (λ line. IsBrokenLine broken line)

-- the line that says why was written, or a prefix of it where the sink failed; or nothing or a prefix, since memory ran out
abbrev pub TellsWhy : SinkSeen → Break → Driven → Type 0
TellsWhy sink broken (Broken told) = (told ≡ broken) × ((line : List ℕ) × IsBrokenLine broken line
    × (Appends sink.written sink.written_after line ⊎ (Rose sink.faults sink.faults_after × GrowsByPrefix sink.written sink.written_after line)))
TellsWhy sink broken OutOfMemory = WritesPart sink (λ line. IsBrokenLine broken line)
TellsWhy sink broken _ = ⊥

-- How a conversation ends.
abbrev pub EndsDriven : SourceSeen → SinkSeen → Driven → Type 0
EndsDriven source sink Credentials = Tells source sink true
EndsDriven source sink Refused = Tells source sink false
EndsDriven source sink (Broken broken) = TellsBreak source sink broken
EndsDriven source sink Unwritten = Fails source sink
EndsDriven source sink OutOfMemory = RunsOut source sink ⊎ RunsOutBroken source sink
