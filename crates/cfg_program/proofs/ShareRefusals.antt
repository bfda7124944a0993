-- A refusal of callers comes where the input calls for it.
use Rattle.std.proofs.Common.{◌≡◌, ℕ, List, Some, None, ◌∙◌, sym}
use Rattle.std.specs.Prelude.{IsSome, IsTrue}
use Rattle.cfg_providers.specs.CustomSources.{NamedAnswer}
use Rattle.cfg_program.specs.declared.status.Status.{Status}
use Rattle.cfg_program.specs.declared.status.Status.TheVariants as status
use Rattle.cfg_program.specs.Scripts.{share_of_one_call}
use Rattle.cfg_program.specs.Streams.{SourceSeen, SinkSeen}
use Rattle.cfg_program.specs.Run.{WritesLines}
use Rattle.cfg_program.specs.Exclusion.{depends_on_input, ReadingCallsFor}
use Rattle.cfg_program.specs.Shares.{ShareAnswers}
use Rattle.cfg_program.specs.SharedRun.{EndsShare}
use Rattle.cfg_program.proofs.Excluded.{known_of, was_input, is_long, one_some, refused_for, read_is_refused, script_is_not_refused, long_is_refused, called_is_refused, lines_or_refusal}

module _ (source : SourceSeen) (sink : SinkSeen) (sources : List NamedAnswer) (all : List ℕ) (known : source.left ≡ Some all)
    (cause : Status) (called : refused_for share_of_one_call all ≡ Some cause) where
  -- bytes that call for a refusal have no lines
  no_lines : (told : Status) → WritesLines source sink share_of_one_call (ShareAnswers sources) told → ⊥
  no_lines told w = lines_or_refusal share_of_one_call all cause (script_is_not_refused share_of_one_call source all known w.p w.input) called

  is_called : (ended : Status) → IsTrue (depends_on_input ended) → EndsShare source sink sources ended → ended ≡ cause
  is_called status.Done t ends = absurd (no_lines status.Done ends)
  is_called status.Refused t ends = absurd (no_lines status.Refused ends)
  is_called status.UnknownCommand t ends = absurd ends
  is_called status.NoScript t ends =
      let bytes = ends.0.0 in
      one_some status.NoScript cause
      (sym (read_is_refused share_of_one_call source all known bytes (was_input source bytes ends.0.1) None ends.0.2) ∙ called)
  is_called status.SourceFault t ends = cc
  is_called status.SinkFault t ends = cc
  is_called status.OutOfMemory t ends = cc
  is_called status.TooLong t ends =
      one_some status.TooLong cause
      (sym (long_is_refused share_of_one_call source all known (is_long source.left source.left_after ends.0)) ∙ called)
  is_called status.HistoryDiffers t ends = absurd (no_lines status.HistoryDiffers ends)
  is_called status.NotBuilt t ends = absurd ends

pub share_is_refused : (source : SourceSeen) (sink : SinkSeen) (sources : List NamedAnswer) (cause ended : Status) → IsSome source.left
    → ReadingCallsFor source share_of_one_call cause → IsTrue (depends_on_input ended) → EndsShare source sink sources ended → ended ≡ cause
share_is_refused source sink sources cause ended known h t ends =
    let all = known_of source.left known in
    is_called source sink sources all.0 all.1 cause (called_is_refused share_of_one_call source all.0 all.1 cause h) ended t ends
