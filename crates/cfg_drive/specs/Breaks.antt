-- Why a conversation stops.
use Rattle.std.specs.Prelude.{◌≡◌, ℕ, ◌+◌, List, length, Option, Some, IfSome, ◌⊎◌, ⊤}
use Rattle.std.specs.Io.KnownBytes.{Appends, Consumes, Keeps}
use Rattle.cfg_world.specs.Faults.{Rose}
use Rattle.cfg_world.specs.Fits.{Pair}
use Rattle.cfg_world.specs.declared.ask.Question.{Question}
use Rattle.cfg_chain.specs.Settings.{ChainSetting}
use Rattle.cfg_providers.specs.CustomSources.{Answer}
use Rattle.cfg_lines.specs.Lines.{IsQuestionLine, IsAnswer, IsNoAnswer}
use Rattle.cfg_lines.specs.Reasons.{IsReason}
use Rattle.cfg_lines.specs.declared.reason.NoAnswer.{NoAnswer}
use Rattle.cfg_program.specs.Streams.{SourceSeen, SinkSeen, GrowsByPrefix}
use Rattle.cfg_drive.specs.declared.driven.Broken.{Broken}
use Rattle.cfg_drive.specs.declared.driven.Cause.{Cause}
use Rattle.cfg_drive.specs.declared.driven.Cause.TheVariants as cause
use Rattle.cfg_drive.specs.declared.driven.Stopped.{Stopped}
use Rattle.cfg_drive.specs.declared.driven.Stopped.TheVariants as stopped
use Rattle.cfg_drive.specs.Conversations.{Exchange, Exchanges, AreAskedLines, IsCallOver, said_lines, journal_of, ended}
use Rattle.cfg_drive.specs.Lines.{IsLine, IsTooLong, IsUnended}

-- nothing was written, or a prefix of such lines
abbrev pub WritesPart : SinkSeen → (List ℕ → Type 0) → Type 0
WritesPart sink AreLines = Keeps sink.written sink.written_after
    ⊎ ((lines : List ℕ) × AreLines lines × GrowsByPrefix sink.written sink.written_after lines)

-- no line was read of what was left: the input ended, failed, or has no end of a line where one may be
abbrev pub IsUnread : SourceSeen → Cause → Type 0
IsUnread source cause.Ended = IfSome source.left IsUnended
IsUnread source cause.Failed = Rose source.faults source.faults_after
IsUnread source cause.TooLong = IfSome source.left IsTooLong
IsUnread source _ = ⊥

-- a line was read, and nothing else
pub record Reads (source : SourceSeen) (line : List ℕ) : Type 0 where
  pub is_line : IsLine line
  pub read : Consumes source.left source.left_after (ended line)

-- a line was read that is no answer to the question, for this reason
pub record IsRefused (source : SourceSeen) (question : Question) (reason : NoAnswer) : Type 0 where
  pub line : List ℕ
  pub reads : Reads source line
  pub no_answer : IsNoAnswer question line
  pub because : IsReason question line (Some reason)

-- no answer to the question was read
abbrev pub IsUnanswered : SourceSeen → Question → Cause → Type 0
IsUnanswered source question (cause.NoAnswer reason) = IsRefused source question reason
IsUnanswered source question why = IsUnread source why

-- no line was read in the place of that of this number; or memory ran out
abbrev pub StopsLine : SourceSeen → ℕ → Stopped → Type 0
StopsLine source number (stopped.Broken broken) = (broken.line ≡ number) × IsUnread source broken.cause
StopsLine source number stopped.Unwritten = ⊥
StopsLine source number stopped.OutOfMemory = ⊤

-- a line was read that gives this receipt's answer to the question
pub record Answers (source : SourceSeen) (question : Question) (receipt : Pair) : Type 0 where
  pub line : List ℕ
  pub reads : Reads source line
  pub asked : receipt.0 ≡ question
  pub answers : IsAnswer question line receipt.1

-- no answer to the question was read in the line of this number; or memory ran out
abbrev pub StopsAnswer : SourceSeen → Question → ℕ → Stopped → Type 0
StopsAnswer source question number (stopped.Broken broken) = (broken.line ≡ number) × IsUnanswered source question broken.cause
StopsAnswer source question number stopped.Unwritten = ⊥
StopsAnswer source question number stopped.OutOfMemory = ⊤

-- the question's line was written
pub record Puts (sink : SinkSeen) (question : Question) : Type 0 where
  pub line : List ℕ
  pub asks : IsQuestionLine question line
  pub written : Appends sink.written sink.written_after line

-- the sink failed in the question's line
pub record FailsAt (sink : SinkSeen) (question : Question) : Type 0 where
  pub line : List ℕ
  pub asks : IsQuestionLine question line
  pub written : GrowsByPrefix sink.written sink.written_after line
  pub failed : Rose sink.faults sink.faults_after

-- the question's line was not written, or in part: the sink failed, or memory ran out
abbrev pub StopsPut : SinkSeen → Question → Stopped → Type 0
StopsPut sink question (stopped.Broken broken) = ⊥
StopsPut sink question stopped.Unwritten = FailsAt sink question
StopsPut sink question stopped.OutOfMemory = WritesPart sink (λ line. IsQuestionLine question line)

-- what was seen of the source behind a place
abbrev pub from : SourceSeen → Option (List ℕ) → SourceSeen
from source rest = record source { left = rest }

-- A call of a chain of this setting broke off at its open question, which was written, since no answer was read.
pub record BreaksCall (over : ChainSetting) (source : SourceSeen) (sink : SinkSeen) (broken : Broken) : Type 0 where
  pub lines : List ℕ
  pub call : AreAskedLines over lines
  pub written : Appends sink.written sink.written_after lines
  pub rest : Option (List ℕ)
  pub read : Consumes source.left rest (said_lines call.exchanges)
  pub number : broken.line ≡ length call.exchanges + 2
  pub why : IsUnanswered (from source rest) call.question broken.cause

-- The sink failed in the line of the question that such a call asks next.
pub record FailsInCall (over : ChainSetting) (source : SourceSeen) (sink : SinkSeen) : Type 0 where
  pub lines : List ℕ
  pub call : AreAskedLines over lines
  pub written : GrowsByPrefix sink.written sink.written_after lines
  pub failed : Rose sink.faults sink.faults_after
  pub read : Consumes source.left source.left_after (said_lines call.exchanges)

-- how a call stops before its end
abbrev pub StopsCall : ChainSetting → SourceSeen → SinkSeen → Stopped → Type 0
StopsCall over source sink (stopped.Broken broken) = BreaksCall over source sink broken
StopsCall over source sink stopped.Unwritten = FailsInCall over source sink
StopsCall over source sink stopped.OutOfMemory = WritesPart sink (λ lines. AreAskedLines over lines)

-- the call answered this over these entries, and all that was read and written are its exchanges; what was written are the
-- lines of the questions that it asked, in turn
pub record EndsCall (over : ChainSetting) (source : SourceSeen) (sink : SinkSeen) (journal : List Pair) (out : Answer) : Type 0 where
  pub exchanges : List Exchange
  pub all : Exchanges source sink exchanges
  pub part : WritesPart sink (λ lines. AreAskedLines over lines)
  pub is_journal : journal ≡ journal_of exchanges
  pub call : IsCallOver over exchanges out
