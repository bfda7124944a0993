-- Questions that were written, and answers that were read.
use Rattle.std.specs.Prelude.{◌≡◌, ℕ, List, ◌++◌, All, Option, map, codes}
use Rattle.std.specs.List.{flat_map}
use Rattle.std.specs.Io.KnownBytes.{Appends, Consumes, prepend_known}
use Rattle.cfg_world.specs.declared.streams.Source.{Ghosts}
use Rattle.cfg_world.specs.declared.ask.Question.{Question}
use Rattle.cfg_world.specs.Fits.{Pair}
use Rattle.cfg_kept.specs.Kinds.{Value, States, no_states}
use Rattle.cfg_providers.specs.CustomSources.{Answer}
use Rattle.cfg_chain.specs.declared.member.Member.{Member}
use Rattle.cfg_chain.specs.Provides.{IsCall}
use Rattle.cfg_chain.specs.Settings.{ChainSetting}
use Rattle.cfg_lines.specs.Lines.{IsQuestionLine, IsAnswer}
use Rattle.cfg_program.specs.Streams.{SourceSeen, SinkSeen}
use Rattle.cfg_run.specs.Runs.{IsWaitingCall}
use Rattle.cfg_drive.specs.Lines.{IsLine}

-- what was seen of a source of which these bytes were read ahead, before and after: they count as left
abbrev pub heard : {S : Type 0} → Ghosts S → List ℕ → S → List ℕ → S → SourceSeen
heard s ahead before ahead_after after = record {
  left = prepend_known ahead (s.left before);
  left_after = prepend_known ahead_after (s.left after);
  faults = s.faults before;
  faults_after = s.faults after;
}

-- a line with its end
abbrev pub ended : List ℕ → List ℕ
ended line = line ++ codes "\n"

-- a question with its answer, the line that was written for it, and the line that was read then
pub record Exchange : Type 0 where
  pub entry : Pair
  pub asked : List ℕ
  pub said : List ℕ

-- they are the question's line, and one that gives this answer to it
pub record IsExchange (x : Exchange) : Type 0 where
  pub asks : IsQuestionLine x.entry.0 x.asked
  pub line : IsLine x.said
  pub answers : IsAnswer x.entry.0 x.said x.entry.1

abbrev pub journal_of : List Exchange → List Pair
journal_of exchanges = map (λ x. x.entry) exchanges

-- the lines that were written, in order
abbrev pub asked_lines : List Exchange → List ℕ
asked_lines exchanges = flat_map (λ x. x.asked) exchanges

-- the lines that were read, in order
abbrev pub said_lines : List Exchange → List ℕ
said_lines exchanges = flat_map (λ x. ended x.said) exchanges

-- These questions were written and these answers read, and nothing else.
pub record Exchanges (source : SourceSeen) (sink : SinkSeen) (exchanges : List Exchange) : Type 0 where
  pub each : All IsExchange exchanges
  pub read : Consumes source.left source.left_after (said_lines exchanges)
  pub written : Appends sink.written sink.written_after (asked_lines exchanges)

-- The exchanges are those of a whole call of a chain of this setting, before which nothing is kept.
pub record IsCallOver (over : ChainSetting) (exchanges : List Exchange) (out : Answer) : Type 0 where
  pub found : List Value
  pub kept : States
  pub call : IsCall over no_states kept found (journal_of exchanges) out

-- They are the beginning of such a call, which asks this question next.
pub record IsOpenCall (over : ChainSetting) (exchanges : List Exchange) (question : Question) : Type 0 where
  pub found : List Value
  pub kept : States
  pub member : Option Member
  pub waits : IsWaitingCall over no_states kept found (journal_of exchanges) question member

-- They are the lines of such an open call: those of its exchanges, and that of the question that it asks next.
pub record AreAskedLines (over : ChainSetting) (lines : List ℕ) : Type 0 where
  pub exchanges : List Exchange
  pub each : All IsExchange exchanges
  pub question : Question
  pub next : IsOpenCall over exchanges question
  pub asked : List ℕ
  pub asks : IsQuestionLine question asked
  pub all : lines ≡ asked_lines exchanges ++ asked
