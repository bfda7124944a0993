-- How a run ends whose calls were made, or that found no script.
use Rattle.std.proofs.Common.{◌≡◌, ℕ, List, [], ◌++◌, Bool, Option, Some, refl, subst, sym, inl, inr}
use Rattle.std.specs.Prelude.{Result, Ok, Err, MatchResult}
use Rattle.cfg_world.specs.declared.devices.Devices.{Ghosts}
use Rattle.cfg_world.specs.Fits.{Pair}
use Rattle.cfg_world.specs.Grows.{Grows}
use Rattle.cfg_world.specs.Held.{Held}
use Rattle.cfg_kept.specs.Kinds.{no_states}
use Rattle.cfg_chain.specs.Settings.{ChainSetting}
use Rattle.cfg_chain.proofs.WholeCalls.{call_begins}
use Rattle.cfg_program.specs.declared.status.Status.{Status}
use Rattle.cfg_program.specs.declared.status.Status.TheVariants as status
use Rattle.cfg_program.specs.Local.{Handed, CallAnswers, local_setting, LocalAnswers, StopsInCall, LeavesWorld}
use Rattle.cfg_program.specs.Streams.{SourceSeen, SinkSeen}
use Rattle.cfg_program.specs.Written.{LinesWritten}
use Rattle.cfg_program.specs.Generated.{GeneratedAnswers, GeneratedLineWritten, GeneratedWritten}
use Rattle.cfg_program.specs.Run.{WorldSeen, WasRead, IsScript, WritesNothing, EndsUnread, EndsEarly, EndsOver, EndsReading, LocalLineWritten, EndsLocal}

-- an input that is not known to its end is read as no script
pub early_unread : {P : Type 0} (source : SourceSeen) (reads : List ℕ → Option P) (ended : Status) → EndsEarly source ended → EndsUnread source reads ended
early_unread source reads status.Done h = absurd h
early_unread source reads status.Refused h = absurd h
early_unread source reads status.UnknownCommand h = absurd h
early_unread source reads status.NoScript h = absurd h
early_unread source reads status.SourceFault h = h
early_unread source reads status.SinkFault h = absurd h
early_unread source reads status.OutOfMemory h = h
early_unread source reads status.TooLong h = h
early_unread source reads status.HistoryDiffers h = absurd h
early_unread source reads status.NotBuilt h = absurd h

module _ {P : Type 0} (source : SourceSeen) (reads : List ℕ → Option P) where
  -- the bytes are no such input
  unread_over : (bytes : List ℕ) → WasRead source bytes → (ended : Status) → EndsOver (reads bytes) ended → EndsUnread source reads ended
  unread_over bytes was status.NoScript h = (bytes, was, h)
  unread_over bytes was status.OutOfMemory h = h
  unread_over bytes was status.Done h = absurd h
  unread_over bytes was status.Refused h = absurd h
  unread_over bytes was status.UnknownCommand h = absurd h
  unread_over bytes was status.SourceFault h = absurd h
  unread_over bytes was status.SinkFault h = absurd h
  unread_over bytes was status.TooLong h = absurd h
  unread_over bytes was status.HistoryDiffers h = absurd h
  unread_over bytes was status.NotBuilt h = absurd h

  -- what was found in the bytes is what they are read as, or there is none
  pub found_over : (bytes : List ℕ) → WasRead source bytes → {X : Type 0} (seen : X → P) (r : Result X Status) → MatchResult r (λ x. reads bytes ≡ Some (seen x)) (EndsOver (reads bytes)) →
      MatchResult r (λ x. IsScript source reads (seen x)) (EndsUnread source reads)
  found_over bytes was seen (Ok x) h = record { bytes = bytes; read = was; script = h }
  found_over bytes was seen (Err ended) h = unread_over bytes was ended h

module _ {P : Type 0} (source : SourceSeen) (sink : SinkSeen) (reads : List ℕ → Option P) (answers : P → Bool → List ℕ → Type 0) where
  -- the lines were written, as far as the sink took them
  pub lines_end : (p : P) (b : Bool) (lines : List ℕ) (ended : Status) → IsScript source reads p → answers p b lines
      → LinesWritten sink b lines ended → EndsReading source sink reads answers ended
  lines_end p b lines status.Done i a w = record { p = p; input = i; lines = lines; answered = subst (λ x. answers p x lines) w.0 a; written = w.1 }
  lines_end p b lines status.Refused i a w = record { p = p; input = i; lines = lines; answered = subst (λ x. answers p x lines) w.0 a; written = w.1 }
  lines_end p b lines status.UnknownCommand i a w = w
  lines_end p b lines status.NoScript i a w = absurd w
  lines_end p b lines status.SourceFault i a w = absurd w
  lines_end p b lines status.SinkFault i a w = (w.0, record { p = p; input = i; end = b; lines = lines; answered = a; written = w.1 })
  lines_end p b lines status.OutOfMemory i a w = inr (record { p = p; input = i; end = b; lines = lines; answered = a; written = w })
  lines_end p b lines status.TooLong i a w = absurd w
  lines_end p b lines status.HistoryDiffers i a w = absurd w
  lines_end p b lines status.NotBuilt i a w = absurd w

  -- there is no script, and nothing was written
  pub unread_ends : (ended : Status) → EndsUnread source reads ended → WritesNothing sink → EndsReading source sink reads answers ended
  unread_ends status.Done h w = absurd h
  unread_ends status.Refused h w = absurd h
  unread_ends status.UnknownCommand h w = h
  unread_ends status.NoScript h w = (h, w)
  unread_ends status.SourceFault h w = (h, w)
  unread_ends status.SinkFault h w = absurd h
  unread_ends status.OutOfMemory h w = inl w
  unread_ends status.TooLong h w = (h, w)
  unread_ends status.HistoryDiffers h w = h
  unread_ends status.NotBuilt h w = h

module _ (sink : SinkSeen) (n : ℕ) (b : Bool) (line : List ℕ) (a : GeneratedAnswers n b line) where
  generated_line : (ended : Status) → LinesWritten sink b line ended → GeneratedLineWritten sink n ended
  generated_line ended w = record { is_credentials = b; line = line; answers = a; written = w }

  pub generated_ends : (ended : Status) → LinesWritten sink b line ended → GeneratedWritten sink n ended
  generated_ends status.Done w = generated_line status.Done w
  generated_ends status.Refused w = generated_line status.Refused w
  generated_ends status.UnknownCommand w = generated_line status.UnknownCommand w
  generated_ends status.NoScript w = generated_line status.NoScript w
  generated_ends status.SourceFault w = generated_line status.SourceFault w
  generated_ends status.SinkFault w = generated_line status.SinkFault w
  generated_ends status.OutOfMemory w = inr (generated_line status.OutOfMemory w)
  generated_ends status.TooLong w = generated_line status.TooLong w
  generated_ends status.HistoryDiffers w = generated_line status.HistoryDiffers w
  generated_ends status.NotBuilt w = generated_line status.NotBuilt w

module _ (sink : SinkSeen) (world : WorldSeen) (handed : Handed) (part : List Pair) (gained : world.journal_after ≡ world.journal ++ part) (b : Bool) (line : List ℕ) (a : LocalAnswers handed part b line) where
  local_line : (ended : Status) → LinesWritten sink b line ended → LocalLineWritten sink world handed ended
  local_line ended w = record { part = part; gained = gained; is_credentials = b; line = line; answers = a; written = w }

  pub local_ends : (ended : Status) → LinesWritten sink b line ended → EndsLocal sink world handed ended
  local_ends status.Done w = local_line status.Done w
  local_ends status.Refused w = local_line status.Refused w
  local_ends status.UnknownCommand w = local_line status.UnknownCommand w
  local_ends status.NoScript w = local_line status.NoScript w
  local_ends status.SourceFault w = local_line status.SourceFault w
  local_ends status.SinkFault w = local_line status.SinkFault w
  local_ends status.OutOfMemory w = inr (local_line status.OutOfMemory w)
  local_ends status.TooLong w = local_line status.TooLong w
  local_ends status.HistoryDiffers w = local_line status.HistoryDiffers w
  local_ends status.NotBuilt w = local_line status.NotBuilt w

module _ {D : Type 0} (d : Ghosts D) where
  -- nothing was asked
  pub stopped_before : (over : ChainSetting) (before : Held D) → StopsInCall d over before before
  stopped_before over before = (no_states, [], inl (refl, refl))

  -- memory ran out behind the call
  pub stopped_behind : (over : ChainSetting) (b : Bool) (line : List ℕ) (part : List Pair) (before later : Held D) → Grows d part before later → CallAnswers over part b line → StopsInCall d over before later
  stopped_behind over b line part before later g a =
      let grows = subst (λ p. Grows d p before later) (sym a.asked) g in
      (a.call.kept, a.call.found, inr (call_begins d over no_states a.call.kept a.call.found before later a.call.out (record { part = a.call.journal; grows = grows; call = a.made })))

  pub leaves_world : (handed : Handed) (b : Bool) (line : List ℕ) (part : List Pair) (before later : Held D) (ended : Status) → Grows d part before later → LocalAnswers handed part b line → LeavesWorld d handed before later ended
  leaves_world handed b line part before later status.Done g a = (part, g)
  leaves_world handed b line part before later status.Refused g a = (part, g)
  leaves_world handed b line part before later status.UnknownCommand g a = (part, g)
  leaves_world handed b line part before later status.NoScript g a = (part, g)
  leaves_world handed b line part before later status.SourceFault g a = (part, g)
  leaves_world handed b line part before later status.SinkFault g a = (part, g)
  leaves_world handed b line part before later status.OutOfMemory g a = stopped_behind (local_setting handed) b line part before later g a
  leaves_world handed b line part before later status.TooLong g a = (part, g)
  leaves_world handed b line part before later status.HistoryDiffers g a = (part, g)
  leaves_world handed b line part before later status.NotBuilt g a = (part, g)
