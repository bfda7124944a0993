-- How a run ends whose callers' calls were made, or that found no script of callers.
use Rattle.std.proofs.Common.{ℕ, List, sym, subst, inl, inr}
use Rattle.std.specs.Io.KnownBytes.{Appends}
use Rattle.cfg_providers.specs.CustomSources.{NamedAnswer}
use Rattle.cfg_script.specs.Script.{PlainShare}
use Rattle.cfg_program.specs.declared.status.Status.{Status}
use Rattle.cfg_program.specs.declared.status.Status.TheVariants as status
use Rattle.cfg_program.specs.Scripts.{share_of_one_call}
use Rattle.cfg_program.specs.Streams.{GrowsByPrefix, SourceSeen, SinkSeen}
use Rattle.cfg_program.specs.Written.{ToldWritten}
use Rattle.cfg_program.specs.Run.{IsScript, WritesNothing, WritesLines, WritesPrefix, EndsUnread}
use Rattle.cfg_program.specs.Shares.{ShareAnswers}
use Rattle.cfg_program.specs.SharedRun.{EndsShare}

module _ (source : SourceSeen) (sink : SinkSeen) (sources : List NamedAnswer) where
  module _ (p : PlainShare) (told : Status) (lines : List ℕ) (input : IsScript source share_of_one_call p) (answered : ShareAnswers sources p told lines) where
    all_lines : Appends sink.written sink.written_after lines → WritesLines source sink share_of_one_call (ShareAnswers sources) told
    all_lines written = record { p = p; input = input; lines = lines; answered = answered; written = written }

    some_lines : GrowsByPrefix sink.written sink.written_after lines → WritesPrefix source sink share_of_one_call (ShareAnswers sources)
    some_lines written = record { p = p; input = input; end = told; lines = lines; answered = answered; written = written }

  -- all lines were written, with the status that they call for
  whole_ends : (p : PlainShare) (told : Status) (lines : List ℕ) → IsScript source share_of_one_call p → ShareAnswers sources p told lines
      → Appends sink.written sink.written_after lines → EndsShare source sink sources told
  whole_ends p status.Done lines i a w = all_lines p status.Done lines i a w
  whole_ends p status.Refused lines i a w = all_lines p status.Refused lines i a w
  whole_ends p status.UnknownCommand lines i a w = absurd a.tells
  whole_ends p status.NoScript lines i a w = absurd a.tells
  whole_ends p status.SourceFault lines i a w = absurd a.tells
  whole_ends p status.SinkFault lines i a w = absurd a.tells
  whole_ends p status.OutOfMemory lines i a w = absurd a.tells
  whole_ends p status.TooLong lines i a w = absurd a.tells
  whole_ends p status.HistoryDiffers lines i a w = all_lines p status.HistoryDiffers lines i a w
  whole_ends p status.NotBuilt lines i a w = absurd a.tells

  -- the lines were written, as far as the sink took them
  pub told_ends : (p : PlainShare) (told : Status) (lines : List ℕ) (ended : Status) → IsScript source share_of_one_call p
      → ShareAnswers sources p told lines → ToldWritten sink told lines ended → EndsShare source sink sources ended
  told_ends p told lines ended i a w = elim w [
    | inl whole ↦ subst (λ (s : Status). EndsShare source sink sources s) (sym whole.0) (whole_ends p told lines i a whole.1)
    | inr part ↦ elim part [
      | inl failed ↦ subst (λ (s : Status). EndsShare source sink sources s) (sym failed.0) (failed.1, some_lines p told lines i a failed.2)
      | inr out ↦ subst (λ (s : Status). EndsShare source sink sources s) (sym out.0) (inr (some_lines p told lines i a out.1))
    ]
  ]

  -- there is no script, and nothing was written
  pub share_unread : (ended : Status) → EndsUnread source share_of_one_call ended → WritesNothing sink → EndsShare source sink sources ended
  share_unread status.Done h w = absurd h
  share_unread status.Refused h w = absurd h
  share_unread status.UnknownCommand h w = h
  share_unread status.NoScript h w = (h, w)
  share_unread status.SourceFault h w = (h, w)
  share_unread status.SinkFault h w = absurd h
  share_unread status.OutOfMemory h w = inl w
  share_unread status.TooLong h w = (h, w)
  share_unread status.HistoryDiffers h w = absurd h
  share_unread status.NotBuilt h w = h
