-- What one input comes to: one status and one list of lines, or a fault, or memory runs out.
use Rattle.std.proofs.Common.{◌≡◌, ℕ, List, [], ◌++◌, length, Bool, true, false, Option, Some, None, ◌⊎◌, inl, inr, ◌∙◌, sym, ap, subst, refl, cond}
use Rattle.std.specs.Prelude.{◌<◌, IsSome, IfSome, IsTrue, nat_lt}
use Rattle.std.specs.Io.KnownBytes.{Appends}
use Rattle.std.proofs.lemmas.Bool.{lt-ltb, le-ltb}
use Rattle.cfg_world.specs.Fits.{Pair}
use Rattle.cfg_script.specs.Script.{Plain}
use Rattle.cfg_script.specs.Reading.{script_of, audit_of}
use Rattle.cfg_script.specs.Devices.{lists_of}
use Rattle.cfg_chain.specs.Settings.{alone, with_sources}
use Rattle.cfg_program.specs.declared.status.Status.{Status}
use Rattle.cfg_program.specs.declared.status.Status.TheVariants as status
use Rattle.cfg_program.specs.declared.commands.Command.{Command}
use Rattle.cfg_program.specs.declared.commands.Command.TheVariants.{Help, Version, Resolve, Cached, Region, Token, Explain, Audit, Endpoint, Local, Generate}
use Rattle.cfg_program.specs.declared.lines.LineForm.{LineForm}
use Rattle.cfg_program.specs.declared.lines.LineForm.TheVariants as form
use Rattle.cfg_program.specs.declared.commands.TheConstants.{HELP, VERSION}
use Rattle.cfg_program.specs.Endpoints.{made_endpoint_of, EndpointAnswers}
use Rattle.cfg_program.specs.Inputs.{IsTooLong, most_bytes}
use Rattle.cfg_program.specs.Scripts.{reads_input, script_of_one_call}
use Rattle.cfg_program.specs.Regions.{RegionAnswers}
use Rattle.cfg_program.specs.Tokens.{TokenAnswers}
use Rattle.cfg_program.specs.Explained.{ExplainAnswers}
use Rattle.cfg_program.specs.Audited.{AuditAnswers}
use Rattle.cfg_program.specs.Cached.{CachedAnswers}
use Rattle.cfg_program.specs.Calls.{Answers, configuration_of}
use Rattle.cfg_program.specs.Local.{Handed, LocalAnswers, local_configuration}
use Rattle.cfg_program.specs.Generated.{generated_configuration, generated_lists, GeneratedLineWritten, GeneratedWritten}
use Rattle.cfg_program.specs.Streams.{SourceSeen, SinkSeen}
use Rattle.cfg_program.specs.Written.{TextWritten}
use Rattle.cfg_program.specs.Run.{WorldSeen, Seen, IsInput, WasRead, IsScript, WritesLines, WritesNothing, EndsReading, EndsUnknown, LocalLineWritten, EndsLocal, EndsRun}
use Rattle.cfg_program.specs.Exclusion.{depends_on_input, BytesAreKnown, AppendTheSame, GainTheSame, ReadingCallsFor, CallsFor, comes}
use Rattle.cfg_program.proofs.Pieces.{none_grown}
use Rattle.cfg_program.proofs.OneList.{one_list}
use Rattle.cfg_program.proofs.CachedOnce.{one_cached_list}
use Rattle.cfg_program.proofs.OneLine.{one_line, one_part}
use Rattle.cfg_program.proofs.OneRegion.{one_region}
use Rattle.cfg_program.proofs.OneToken.{one_token}
use Rattle.cfg_program.proofs.Explaining.{one_explanation}
use Rattle.cfg_program.proofs.Auditing.{one_audit}
use Rattle.cfg_program.proofs.OneEndpoint.{one_endpoint}

-- the status of lines
abbrev status_of : Bool → Status
status_of is_ok = cond is_ok status.Done status.Refused

-- both sinks had the same bytes appended
abbrev BothAppend : SinkSeen → SinkSeen → Type 0
BothAppend one other = (bytes : List ℕ) × Appends one.written one.written_after bytes × Appends other.written other.written_after bytes

known_is : (left : Option (List ℕ)) (bytes : List ℕ) (P : List ℕ → Type 0) → left ≡ Some bytes → IfSome left P → P bytes
known_is left bytes P e known = subst (λ o. IfSome o P) e known

pub known_of : (o : Option (List ℕ)) → IsSome o → (bytes : List ℕ) × (o ≡ Some bytes)
known_of None h = cc
known_of (Some bytes) h = (bytes, refl)

-- what was read to the end is the input
pub was_input : (source : SourceSeen) (bytes : List ℕ) → WasRead source bytes → IsInput source bytes
was_input source bytes was = record { all = was.all; short = was.short }

pub is_long : (left left_after : Option (List ℕ)) → IsTooLong left left_after → IfSome left (λ b. most_bytes < length b)
is_long None after h = tt
is_long (Some bytes) after h = h.0

-- sinks that hold what they held have nothing more
nothing_more : (sink : SinkSeen) → WritesNothing sink → Appends sink.written sink.written_after []
nothing_more sink h = subst (λ o. Appends sink.written o []) (sym h) (none_grown sink.written)

both_nothing : (one other : SinkSeen) → WritesNothing one → WritesNothing other → BothAppend one other
both_nothing one other h k = ([], nothing_more one h, nothing_more other k)

none_is_some : {s : Status} → ◌≡◌ {A = Option Status} None (Some s) → ⊥
none_is_some h = cc

pub one_some : (s t : Status) → ◌≡◌ {A = Option Status} (Some s) (Some t) → s ≡ t
one_some s t h = cc

one_script : {P : Type 0} (p q : P) → ◌≡◌ {A = Option P} (Some p) (Some q) → p ≡ q
one_script p q h = cc

-- the refusal that a status is, if it is one
abbrev refusal : Status → Option Status
refusal status.Done = None
refusal status.Refused = None
refusal s = Some s

-- ---- commands that read a script

module _ {P : Type 0} (reads : List ℕ → Option P) where
  -- the refusal that bytes call for, if they call for one
  abbrev pub refused_by : Option P → Option Status
  refused_by None = Some status.NoScript
  refused_by (Some p) = None

  abbrev pub refused_for : List ℕ → Option Status
  refused_for bytes = cond (nat_lt most_bytes (length bytes)) (Some status.TooLong) (refused_by (reads bytes))

  -- the bytes of an input call for what their script calls for
  pub read_is_refused : (source : SourceSeen) (all : List ℕ) → source.left ≡ Some all → (bytes : List ℕ) → IsInput source bytes → (r : Option P) → reads bytes ≡ r → refused_for all ≡ refused_by r
  read_is_refused source all e bytes was r is =
      ap refused_for (known_is source.left all (λ b. b ≡ bytes) e was.all)
      ∙ ap (λ t. cond t (Some status.TooLong) (refused_by (reads bytes))) (le-ltb most_bytes (length bytes) was.short)
      ∙ ap refused_by is

  pub script_is_not_refused : (source : SourceSeen) (all : List ℕ) → source.left ≡ Some all → (p : P) → IsScript source reads p → refused_for all ≡ None
  script_is_not_refused source all e p is = read_is_refused source all e is.bytes (was_input source is.bytes is.read) (Some p) is.script

  pub long_is_refused : (source : SourceSeen) (all : List ℕ) → source.left ≡ Some all → IfSome source.left (λ b. most_bytes < length b) → refused_for all ≡ Some status.TooLong
  long_is_refused source all e long =
      ap (λ b. cond b (Some status.TooLong) (refused_by (reads all)))
      (lt-ltb most_bytes (length all) (known_is source.left all (λ b. most_bytes < length b) e long))

  -- a refusal that the input calls for
  pub called_is_refused : (source : SourceSeen) (all : List ℕ) → source.left ≡ Some all → (cause : Status) → ReadingCallsFor source reads cause → refused_for all ≡ Some cause
  called_is_refused source all e status.Done h = absurd h
  called_is_refused source all e status.Refused h = absurd h
  called_is_refused source all e status.UnknownCommand h = absurd h
  called_is_refused source all e status.NoScript h = read_is_refused source all e h.0 h.1 None h.2
  called_is_refused source all e status.SourceFault h = absurd h
  called_is_refused source all e status.SinkFault h = absurd h
  called_is_refused source all e status.OutOfMemory h = absurd h
  called_is_refused source all e status.TooLong h = long_is_refused source all e h
  called_is_refused source all e status.HistoryDiffers h = absurd h
  called_is_refused source all e status.NotBuilt h = absurd h

  pub lines_or_refusal : (all : List ℕ) (ended : Status) → refused_for all ≡ None → refused_for all ≡ Some ended → ⊥
  lines_or_refusal all ended h k = none_is_some (sym h ∙ k)

  module _ (answers : P → Bool → List ℕ → Type 0) where
    -- how a run over a known input ends, whose status depends on it alone: with the lines of its script,
    -- or with the refusal that it calls for
    record HasLines (source : SourceSeen) (sink : SinkSeen) (all : List ℕ) (ended : Status) : Type 0 where
      is_ok : Bool
      is : ended ≡ status_of is_ok
      lines : WritesLines source sink reads answers is_ok
      called : refused_for all ≡ None

    record HasRefusal (sink : SinkSeen) (all : List ℕ) (ended : Status) : Type 0 where
      is : refusal ended ≡ Some ended
      called : refused_for all ≡ Some ended
      nothing : WritesNothing sink

    ends_as : (source : SourceSeen) (sink : SinkSeen) (all : List ℕ) → source.left ≡ Some all → (ended : Status) → IsTrue (depends_on_input ended) → EndsReading source sink reads answers ended → HasLines source sink all ended ⊎ HasRefusal sink all ended
    ends_as source sink all e status.Done t ends = inl (record { is_ok = true; is = refl; lines = ends; called = script_is_not_refused source all e ends.p ends.input })
    ends_as source sink all e status.Refused t ends = inl (record { is_ok = false; is = refl; lines = ends; called = script_is_not_refused source all e ends.p ends.input })
    ends_as source sink all e status.UnknownCommand t ends = absurd ends
    ends_as source sink all e status.NoScript t ends = inr (record { is = refl; called = read_is_refused source all e ends.0.0 (was_input source ends.0.0 ends.0.1) None ends.0.2; nothing = ends.1 })
    ends_as source sink all e status.SourceFault t ends = cc
    ends_as source sink all e status.SinkFault t ends = cc
    ends_as source sink all e status.OutOfMemory t ends = cc
    ends_as source sink all e status.TooLong t ends = inr (record { is = refl; called = long_is_refused source all e (is_long source.left source.left_after ends.0); nothing = ends.1 })
    ends_as source sink all e status.HistoryDiffers t ends = absurd ends
    ends_as source sink all e status.NotBuilt t ends = absurd ends

    -- one input is one script
    same_script : (one other : SourceSeen) (all : List ℕ) → one.left ≡ Some all → other.left ≡ Some all → (p q : P) → IsScript one reads p → IsScript other reads q → p ≡ q
    same_script one other all e f p q is also =
        one_script p q
        (sym is.script ∙ ap reads (sym (known_is one.left all (λ b. b ≡ is.bytes) e is.read.all) ∙ known_is other.left all (λ b. b ≡ also.bytes) f also.read.all) ∙ also.script)

    is_called : (source : SourceSeen) (sink : SinkSeen) (all : List ℕ) (cause ended : Status) → refused_for all ≡ Some cause → HasLines source sink all ended ⊎ HasRefusal sink all ended → ended ≡ cause
    is_called source sink all cause ended h (inl x) = absurd (lines_or_refusal all cause x.called h)
    is_called source sink all cause ended h (inr x) = one_some ended cause (sym x.called ∙ h)

    pub comes_where_called : (source : SourceSeen) (sink : SinkSeen) (cause ended : Status) → IsSome source.left → ReadingCallsFor source reads cause
        → IsTrue (depends_on_input ended) → EndsReading source sink reads answers ended → ended ≡ cause
    comes_where_called source sink cause ended known h t ends =
        let all = known_of source.left known in
        is_called source sink all.0 cause ended (called_is_refused source all.0 all.1 cause h) (ends_as source sink all.0 all.1 ended t ends)

    module _ (one_answer : (p : P) (a b : Bool) (lines other : List ℕ) → answers p a lines → answers p b other → (a ≡ b) × (lines ≡ other)) (x y : SourceSeen) (u v : SinkSeen) (all : List ℕ) (e : x.left ≡ Some all) (f : y.left ≡ Some all) where
      same_lines : (a b : Bool) → WritesLines x u reads answers a → WritesLines y v reads answers b → (a ≡ b) × BothAppend u v
      same_lines a b l m =
          let script : m.p ≡ l.p = same_script y x all f e m.p l.p m.input l.input in
          let same = one_answer l.p a b l.lines m.lines l.answered (subst (λ p. answers p b m.lines) script m.answered) in
          (same.0, (l.lines, l.written, subst (λ t. Appends v.written v.written_after t) (sym same.1) m.written))

      both_end : (s t : Status) → HasLines x u all s ⊎ HasRefusal u all s → HasLines y v all t ⊎ HasRefusal v all t → (s ≡ t) × BothAppend u v
      both_end s t (inl a) (inl b) =
          let same = same_lines a.is_ok b.is_ok a.lines b.lines in
          (a.is ∙ ap status_of same.0 ∙ sym b.is, same.1)
      both_end s t (inl a) (inr b) = absurd (lines_or_refusal all t a.called b.called)
      both_end s t (inr a) (inl b) = absurd (lines_or_refusal all s b.called a.called)
      both_end s t (inr a) (inr b) = (one_some s t (sym a.called ∙ b.called), both_nothing u v a.nothing b.nothing)

    alike_reading : (one_answer : (p : P) (a b : Bool) (lines other : List ℕ) → answers p a lines → answers p b other → (a ≡ b) × (lines ≡ other)) (one other : Seen) (s t : Status)
        → BytesAreKnown one → one.source.left ≡ other.source.left → IsTrue (depends_on_input s) → IsTrue (depends_on_input t)
        → EndsReading one.source one.sink reads answers s → EndsReading other.source other.sink reads answers t → (s ≡ t) × AppendTheSame one other
    alike_reading one_answer one other s t known same u v a b =
        let all = known_of one.source.left known in
        let also : other.source.left ≡ Some all.0 = sym same ∙ all.1 in
        both_end one_answer one.source other.source one.sink other.sink all.0 all.1 also s t (ends_as one.source one.sink all.0 all.1 s u a) (ends_as other.source other.sink all.0 also t v b)

-- the calls of a script have one list of lines
one_answer : (handed : Handed) (form : LineForm) (p : Plain) (a b : Bool) (lines other : List ℕ) → Answers handed.sources form p a lines → Answers handed.sources form p b other → (a ≡ b) × (lines ≡ other)
one_answer handed form p a b lines other x y = one_list (with_sources (configuration_of p) handed.sources) (lists_of p) p.calls form a b lines other x y

-- ---- the other commands

-- a text that was told ends as done
text_is_done : (sink : SinkSeen) (text : List ℕ) (s : Status) → IsTrue (depends_on_input s) → TextWritten sink text s → (s ≡ status.Done) × Appends sink.written sink.written_after text
text_is_done sink text status.Done t ends = (refl, ends)
text_is_done sink text status.Refused t ends = absurd ends
text_is_done sink text status.UnknownCommand t ends = absurd ends
text_is_done sink text status.NoScript t ends = absurd ends
text_is_done sink text status.SourceFault t ends = absurd ends
text_is_done sink text status.SinkFault t ends = cc
text_is_done sink text status.OutOfMemory t ends = cc
text_is_done sink text status.TooLong t ends = absurd ends
text_is_done sink text status.HistoryDiffers t ends = absurd ends
text_is_done sink text status.NotBuilt t ends = absurd ends

alike_telling : (one other : SinkSeen) (text : List ℕ) (s t : Status) → IsTrue (depends_on_input s) → IsTrue (depends_on_input t) → TextWritten one text s → TextWritten other text t → (s ≡ t) × BothAppend one other
alike_telling one other text s t u v a b =
    let first = text_is_done one text s u a in
    let second = text_is_done other text t v b in
    (first.0 ∙ sym second.0, (text, first.1, second.1))

command_is_unknown : (sink : SinkSeen) (s : Status) → EndsUnknown sink s → (s ≡ status.UnknownCommand) × WritesNothing sink
command_is_unknown sink status.Done ends = absurd ends
command_is_unknown sink status.Refused ends = absurd ends
command_is_unknown sink status.UnknownCommand ends = (refl, ends)
command_is_unknown sink status.NoScript ends = absurd ends
command_is_unknown sink status.SourceFault ends = absurd ends
command_is_unknown sink status.SinkFault ends = absurd ends
command_is_unknown sink status.OutOfMemory ends = absurd ends
command_is_unknown sink status.TooLong ends = absurd ends
command_is_unknown sink status.HistoryDiffers ends = absurd ends
command_is_unknown sink status.NotBuilt ends = absurd ends

alike_unknown : (one other : SinkSeen) (s t : Status) → EndsUnknown one s → EndsUnknown other t → (s ≡ t) × BothAppend one other
alike_unknown one other s t a b =
    let first = command_is_unknown one s a in
    let second = command_is_unknown other t b in
    (first.0 ∙ sym second.0, both_nothing one other first.1 second.1)

-- a call over generated profiles ends by its line
record HasGenerated (sink : SinkSeen) (n : ℕ) (ended : Status) : Type 0 where
  answered : GeneratedLineWritten sink n ended
  is : ended ≡ status_of answered.is_credentials
  written : Appends sink.written sink.written_after answered.line

generated_ends : (sink : SinkSeen) (n : ℕ) (s : Status) → IsTrue (depends_on_input s) → GeneratedWritten sink n s → HasGenerated sink n s
generated_ends sink n status.Done t ends = record { answered = ends; is = ap status_of (sym ends.written.0); written = ends.written.1 }
generated_ends sink n status.Refused t ends = record { answered = ends; is = ap status_of (sym ends.written.0); written = ends.written.1 }
generated_ends sink n status.UnknownCommand t ends = absurd ends.written
generated_ends sink n status.NoScript t ends = absurd ends.written
generated_ends sink n status.SourceFault t ends = absurd ends.written
generated_ends sink n status.SinkFault t ends = cc
generated_ends sink n status.OutOfMemory t ends = cc
generated_ends sink n status.TooLong t ends = absurd ends.written
generated_ends sink n status.HistoryDiffers t ends = absurd ends.written
generated_ends sink n status.NotBuilt t ends = absurd ends.written

alike_generating : (one other : SinkSeen) (n : ℕ) (s t : Status) → IsTrue (depends_on_input s) → IsTrue (depends_on_input t) → GeneratedWritten one n s → GeneratedWritten other n t → (s ≡ t) × BothAppend one other
alike_generating one other n s t u v a b =
    let x = generated_ends one n s u a in
    let y = generated_ends other n t v b in
    let same = one_list (alone (generated_configuration n)) (generated_lists n) 1 (form.Generated n) x.answered.is_credentials y.answered.is_credentials x.answered.line y.answered.line x.answered.answers y.answered.answers in
    (x.is ∙ ap status_of same.0 ∙ sym y.is, (x.answered.line, x.written, subst (λ l. Appends other.written other.written_after l) (sym same.1) y.written))

-- a call over what is handed in ends by its line
record HasLocal (sink : SinkSeen) (world : WorldSeen) (handed : Handed) (ended : Status) : Type 0 where
  answered : LocalLineWritten sink world handed ended
  is : ended ≡ status_of answered.is_credentials
  written : Appends sink.written sink.written_after answered.line

local_ends : (sink : SinkSeen) (world : WorldSeen) (handed : Handed) (s : Status) → IsTrue (depends_on_input s) → EndsLocal sink world handed s → HasLocal sink world handed s
local_ends sink world handed status.Done t ends = record { answered = ends; is = ap status_of (sym ends.written.0); written = ends.written.1 }
local_ends sink world handed status.Refused t ends = record { answered = ends; is = ap status_of (sym ends.written.0); written = ends.written.1 }
local_ends sink world handed status.UnknownCommand t ends = absurd ends.written
local_ends sink world handed status.NoScript t ends = absurd ends.written
local_ends sink world handed status.SourceFault t ends = absurd ends.written
local_ends sink world handed status.SinkFault t ends = cc
local_ends sink world handed status.OutOfMemory t ends = cc
local_ends sink world handed status.TooLong t ends = absurd ends.written
local_ends sink world handed status.HistoryDiffers t ends = absurd ends.written
local_ends sink world handed status.NotBuilt t ends = absurd ends.written

alike_locally : (handed : Handed) (one other : SinkSeen) (world also : WorldSeen) (part : List Pair) (s t : Status) → IsTrue (depends_on_input s) → IsTrue (depends_on_input t)
    → world.journal_after ≡ world.journal ++ part → also.journal_after ≡ also.journal ++ part → EndsLocal one world handed s → EndsLocal other also handed t → (s ≡ t) × BothAppend one other
alike_locally handed one other world also part s t u v g h a b =
    let x = local_ends one world handed s u a in
    let y = local_ends other also handed t v b in
    let first = one_part world.journal world.journal_after x.answered.part part x.answered.gained g in
    let second = one_part also.journal also.journal_after y.answered.part part y.answered.gained h in
    let same = one_line (with_sources (local_configuration handed.variables) handed.sources) part x.answered.is_credentials y.answered.is_credentials x.answered.line y.answered.line
    (subst (λ p. LocalAnswers handed p x.answered.is_credentials x.answered.line) first x.answered.answers)
    (subst (λ p. LocalAnswers handed p y.answered.is_credentials y.answered.line) second y.answered.answers) in
    (x.is ∙ ap status_of same.0 ∙ sym y.is, (x.answered.line, x.written, subst (λ l. Appends other.written other.written_after l) (sym same.1) y.written))

-- one run's journal gains one part
gained_by : (sink : SinkSeen) (world : WorldSeen) (handed : Handed) (s : Status) → IsTrue (depends_on_input s) → EndsLocal sink world handed s → (part : List Pair) × (world.journal_after ≡ world.journal ++ part)
gained_by sink world handed s t ends = let x = local_ends sink world handed s t ends in (x.answered.part, x.answered.gained)

-- ---- all commands

module _ (handed : Handed) where
  pub alike : (one other : Seen) (command : Option Command) (s t : Status) → BytesAreKnown one → one.source.left ≡ other.source.left → GainTheSame one other → IsTrue (depends_on_input s) → IsTrue (depends_on_input t)
      → EndsRun one handed command s → EndsRun other handed command t → (s ≡ t) × AppendTheSame one other
  alike one other None s t known same gain u v a b = alike_unknown one.sink other.sink s t a b
  alike one other (Some Help) s t known same gain u v a b = alike_telling one.sink other.sink HELP.now s t u v a b
  alike one other (Some Version) s t known same gain u v a b = alike_telling one.sink other.sink VERSION.now s t u v a b
  alike one other (Some (Resolve below)) s t known same gain u v a b = alike_reading script_of (Answers handed.sources (form.Call below)) (one_answer handed (form.Call below)) one other s t known same u v a b
  alike one other (Some Cached) s t known same gain u v a b = alike_reading script_of (CachedAnswers handed.sources) (one_cached_list handed.sources) one other s t known same u v a b
  alike one other (Some Region) s t known same gain u v a b = alike_reading script_of_one_call RegionAnswers one_region one other s t known same u v a b
  alike one other (Some (Token below)) s t known same gain u v a b = alike_reading script_of_one_call (TokenAnswers below) (one_token below) one other s t known same u v a b
  alike one other (Some Explain) s t known same gain u v a b = alike_reading script_of_one_call (ExplainAnswers handed.sources) (one_explanation handed.sources) one other s t known same u v a b
  alike one other (Some Audit) s t known same gain u v a b = alike_reading audit_of (AuditAnswers handed.sources) (one_audit handed.sources) one other s t known same u v a b
  alike one other (Some Endpoint) s t known same gain u v a b = alike_reading made_endpoint_of EndpointAnswers one_endpoint one other s t known same u v a b
  alike one other (Some Local) s t known same gain u v a b = alike_locally handed one.sink other.sink one.world other.world gain.0 s t u v gain.1 gain.2 a b
  alike one other (Some (Generate n)) s t known same gain u v a b = alike_generating one.sink other.sink n s t u v a b

  pub exclude_one_another : (seen : Seen) (command : Option Command) (one other : Status) → BytesAreKnown seen → IsTrue (depends_on_input one) → IsTrue (depends_on_input other) → EndsRun seen handed command one → EndsRun seen handed command other → one ≡ other
  exclude_one_another seen None one other known t u a b = (alike_unknown seen.sink seen.sink one other a b).0
  exclude_one_another seen (Some Help) one other known t u a b = (alike_telling seen.sink seen.sink HELP.now one other t u a b).0
  exclude_one_another seen (Some Version) one other known t u a b = (alike_telling seen.sink seen.sink VERSION.now one other t u a b).0
  exclude_one_another seen (Some (Resolve below)) one other known t u a b = (alike_reading script_of (Answers handed.sources (form.Call below)) (one_answer handed (form.Call below)) seen seen one other known refl t u a b).0
  exclude_one_another seen (Some Cached) one other known t u a b = (alike_reading script_of (CachedAnswers handed.sources) (one_cached_list handed.sources) seen seen one other known refl t u a b).0
  exclude_one_another seen (Some Region) one other known t u a b = (alike_reading script_of_one_call RegionAnswers one_region seen seen one other known refl t u a b).0
  exclude_one_another seen (Some (Token below)) one other known t u a b = (alike_reading script_of_one_call (TokenAnswers below) (one_token below) seen seen one other known refl t u a b).0
  exclude_one_another seen (Some Explain) one other known t u a b = (alike_reading script_of_one_call (ExplainAnswers handed.sources) (one_explanation handed.sources) seen seen one other known refl t u a b).0
  exclude_one_another seen (Some Audit) one other known t u a b = (alike_reading audit_of (AuditAnswers handed.sources) (one_audit handed.sources) seen seen one other known refl t u a b).0
  exclude_one_another seen (Some Endpoint) one other known t u a b = (alike_reading made_endpoint_of EndpointAnswers one_endpoint seen seen one other known refl t u a b).0
  exclude_one_another seen (Some Local) one other known t u a b =
      let gain = gained_by seen.sink seen.world handed one t a in
      (alike_locally handed seen.sink seen.sink seen.world seen.world gain.0 one other t u gain.1 gain.1 a b).0
  exclude_one_another seen (Some (Generate n)) one other known t u a b = (alike_generating seen.sink seen.sink n one other t u a b).0

  pub comes_where_called_for : (seen : Seen) (command : Command) (cause ended : Status) → BytesAreKnown seen → IsTrue (reads_input command) → CallsFor seen command cause → IsTrue (depends_on_input ended) → EndsRun seen handed (Some command) ended → ended ≡ cause
  comes_where_called_for seen Help cause ended known r h t ends = cc
  comes_where_called_for seen Version cause ended known r h t ends = cc
  comes_where_called_for seen (Resolve below) cause ended known r h t ends = comes_where_called script_of (Answers handed.sources (form.Call below)) seen.source seen.sink cause ended known h t ends
  comes_where_called_for seen Cached cause ended known r h t ends = comes_where_called script_of (CachedAnswers handed.sources) seen.source seen.sink cause ended known h t ends
  comes_where_called_for seen Region cause ended known r h t ends = comes_where_called script_of_one_call RegionAnswers seen.source seen.sink cause ended known h t ends
  comes_where_called_for seen (Token below) cause ended known r h t ends = comes_where_called script_of_one_call (TokenAnswers below) seen.source seen.sink cause ended known h t ends
  comes_where_called_for seen Explain cause ended known r h t ends = comes_where_called script_of_one_call (ExplainAnswers handed.sources) seen.source seen.sink cause ended known h t ends
  comes_where_called_for seen Audit cause ended known r h t ends = comes_where_called audit_of (AuditAnswers handed.sources) seen.source seen.sink cause ended known h t ends
  comes_where_called_for seen Endpoint cause ended known r h t ends = comes_where_called made_endpoint_of EndpointAnswers seen.source seen.sink cause ended known h t ends
  comes_where_called_for seen Local cause ended known r h t ends = cc
  comes_where_called_for seen (Generate n) cause ended known r h t ends = cc

-- ---- statuses that never come

pub reading_comes : {P : Type 0} (source : SourceSeen) (sink : SinkSeen) (reads : List ℕ → Option P) (answers : P → Bool → List ℕ → Type 0) (s : Status) → EndsReading source sink reads answers s → IsTrue (comes s)
reading_comes source sink reads answers status.Done ends = refl
reading_comes source sink reads answers status.Refused ends = refl
reading_comes source sink reads answers status.UnknownCommand ends = refl
reading_comes source sink reads answers status.NoScript ends = refl
reading_comes source sink reads answers status.SourceFault ends = refl
reading_comes source sink reads answers status.SinkFault ends = refl
reading_comes source sink reads answers status.OutOfMemory ends = refl
reading_comes source sink reads answers status.TooLong ends = refl
reading_comes source sink reads answers status.HistoryDiffers ends = absurd ends
reading_comes source sink reads answers status.NotBuilt ends = absurd ends

telling_comes : (sink : SinkSeen) (text : List ℕ) (s : Status) → TextWritten sink text s → IsTrue (comes s)
telling_comes sink text status.Done ends = refl
telling_comes sink text status.SinkFault ends = refl
telling_comes sink text status.OutOfMemory ends = refl
telling_comes sink text status.Refused ends = refl
telling_comes sink text status.UnknownCommand ends = refl
telling_comes sink text status.NoScript ends = refl
telling_comes sink text status.SourceFault ends = refl
telling_comes sink text status.TooLong ends = refl
telling_comes sink text status.HistoryDiffers ends = absurd ends
telling_comes sink text status.NotBuilt ends = absurd ends

unknown_comes : (sink : SinkSeen) (s : Status) → EndsUnknown sink s → IsTrue (comes s)
unknown_comes sink s ends = subst (λ t. IsTrue (comes t)) (sym (command_is_unknown sink s ends).0) refl

generating_comes : (sink : SinkSeen) (n : ℕ) (s : Status) → GeneratedWritten sink n s → IsTrue (comes s)
generating_comes sink n status.Done ends = refl
generating_comes sink n status.Refused ends = refl
generating_comes sink n status.UnknownCommand ends = refl
generating_comes sink n status.NoScript ends = refl
generating_comes sink n status.SourceFault ends = refl
generating_comes sink n status.SinkFault ends = refl
generating_comes sink n status.OutOfMemory ends = refl
generating_comes sink n status.TooLong ends = refl
generating_comes sink n status.HistoryDiffers ends = absurd ends.written
generating_comes sink n status.NotBuilt ends = absurd ends.written

local_comes : (sink : SinkSeen) (world : WorldSeen) (handed : Handed) (s : Status) → EndsLocal sink world handed s → IsTrue (comes s)
local_comes sink world handed status.Done ends = refl
local_comes sink world handed status.Refused ends = refl
local_comes sink world handed status.UnknownCommand ends = refl
local_comes sink world handed status.NoScript ends = refl
local_comes sink world handed status.SourceFault ends = refl
local_comes sink world handed status.SinkFault ends = refl
local_comes sink world handed status.OutOfMemory ends = refl
local_comes sink world handed status.TooLong ends = refl
local_comes sink world handed status.HistoryDiffers ends = absurd ends.written
local_comes sink world handed status.NotBuilt ends = absurd ends.written

pub run_comes : (seen : Seen) (handed : Handed) (command : Option Command) (s : Status) → EndsRun seen handed command s → IsTrue (comes s)
run_comes seen handed None s ends = unknown_comes seen.sink s ends
run_comes seen handed (Some Help) s ends = telling_comes seen.sink HELP.now s ends
run_comes seen handed (Some Version) s ends = telling_comes seen.sink VERSION.now s ends
run_comes seen handed (Some (Resolve below)) s ends = reading_comes seen.source seen.sink script_of (Answers handed.sources (form.Call below)) s ends
run_comes seen handed (Some Cached) s ends = reading_comes seen.source seen.sink script_of (CachedAnswers handed.sources) s ends
run_comes seen handed (Some Region) s ends = reading_comes seen.source seen.sink script_of_one_call RegionAnswers s ends
run_comes seen handed (Some (Token below)) s ends = reading_comes seen.source seen.sink script_of_one_call (TokenAnswers below) s ends
run_comes seen handed (Some Explain) s ends = reading_comes seen.source seen.sink script_of_one_call (ExplainAnswers handed.sources) s ends
run_comes seen handed (Some Audit) s ends = reading_comes seen.source seen.sink audit_of (AuditAnswers handed.sources) s ends
run_comes seen handed (Some Endpoint) s ends = reading_comes seen.source seen.sink made_endpoint_of EndpointAnswers s ends
run_comes seen handed (Some Local) s ends = local_comes seen.sink seen.world handed s ends
run_comes seen handed (Some (Generate n)) s ends = generating_comes seen.sink n s ends
