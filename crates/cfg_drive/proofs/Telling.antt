-- A conversation from its first line to its last.
use Rattle.std.proofs.Common.{◌≡◌, ℕ, ◌≤◌, List, [], ◌++◌, Bool, ◌⊎◌, inl, inr, Option, Some, None, option_map, refl, sym, ap, subst, ◌∙◌}
use Rattle.std.specs.Io.KnownBytes.{Appends, prepend_known}
use Rattle.cfg_world.specs.Faults.{Rose}
use Rattle.cfg_world.specs.Fits.{Pair}
use Rattle.cfg_world.specs.declared.ask.Question.{Question}
use Rattle.cfg_base.specs.Text.{characters}
use Rattle.cfg_profile.specs.Configuration.{Configuration}
use Rattle.cfg_providers.specs.CustomSources.{Answer, NamedAnswer}
use Rattle.cfg_chain.specs.Settings.{ChainSetting, with_sources}
use Rattle.cfg_program.specs.Calls.{configuration_of, configured, in_region}
use Rattle.cfg_program.specs.Streams.{SourceSeen, SinkSeen, GrowsByPrefix}
use Rattle.cfg_script.specs.Script.{Plain}
use Rattle.cfg_drive.specs.declared.driven.Broken.{Broken as Break}
use Rattle.cfg_drive.specs.declared.driven.Cause.{Cause}
use Rattle.cfg_drive.specs.declared.driven.Cause.TheVariants as cause
use Rattle.cfg_drive.specs.declared.driven.Driven.{Driven}
use Rattle.cfg_drive.specs.declared.driven.Driven.TheVariants as driven
use Rattle.cfg_drive.specs.declared.driven.Stopped.{Stopped}
use Rattle.cfg_drive.specs.declared.driven.Stopped.TheVariants as stopped
use Rattle.cfg_drive.specs.Configured.{IsConfiguration, IsCauseOf, Misconfigures, setting_of}
use Rattle.cfg_drive.specs.Conversations.{AreAskedLines, asked_lines}
use Rattle.cfg_drive.specs.Breaks.{BreaksCall, FailsInCall, EndsCall, StopsCall, StopsLine, IsUnread, IsUnanswered, Reads, WritesPart, from}
use Rattle.cfg_drive.specs.Outcomes.{IsBrokenLine, IsOutcomeLine, WritesOutcome, FailsOutcome, StopsOutcome}
use Rattle.cfg_drive.specs.Driven.{EndsDriven, Stops, StopsBehind, Fails, Tells, TellsCall, AreToldLines, AreCallLines, FailsAtEnd, TellsBreak, TellsWhy, Breaks, Configures, IsUnconfigured, with_ahead}
use Rattle.cfg_drive.proofs.Endings.{kept_refl}
use Rattle.cfg_drive.proofs.Exchanging.{seen, told, part_kept, rose_before, wrote_then, wrote_part}

-- ---- the first line

unread_first : (source : SourceSeen) (why : Cause) → IsUnread source why → IsUnconfigured source why
unread_first source (cause.NoConfiguration reason) u = absurd u
unread_first source (cause.NoAnswer reason) u = u
unread_first source cause.Ended u = u
unread_first source cause.Failed u = u
unread_first source cause.TooLong u = u

pub stops_line : (source : SourceSeen) (w : Option (List ℕ)) (k : ℕ) (s : Stopped) → StopsLine source 1 s → Stops source (told w k w k) s
stops_line source w k (stopped.Broken broken) h = inl (record { number = h.0; why = unread_first source broken.cause h.1; written = kept_refl w })
stops_line source w k stopped.Unwritten h = absurd h
stops_line source w k stopped.OutOfMemory h = inl (kept_refl w)

misread : (source : SourceSeen) (line : List ℕ) (why : Cause) → Reads source line → IsCauseOf line why → IsUnconfigured source why
misread source line (cause.NoConfiguration reason) r h = (line, r, h)
misread source line (cause.NoAnswer reason) r h = absurd h
misread source line cause.Ended r h = absurd h
misread source line cause.Failed r h = absurd h
misread source line cause.TooLong r h = absurd h

pub stops_configured : (source : SourceSeen) (w : Option (List ℕ)) (k : ℕ) (line : List ℕ) (s : Stopped) → Reads source line → Misconfigures line s → Stops source (told w k w k) s
stops_configured source w k line (stopped.Broken broken) r h = inl (record { number = h.0; why = misread source line broken.cause r h.1; written = kept_refl w })
stops_configured source w k line stopped.Unwritten r h = absurd h
stops_configured source w k line stopped.OutOfMemory r h = inl (kept_refl w)

-- ---- behind the first line

-- what followed a first line that was read
configures : (a b c : Option (List ℕ)) (f g h : ℕ) (line : List ℕ) (p : Plain) (follows : ChainSetting → SourceSeen → Type 0)
    → Reads (seen a f b g) line → IsConfiguration line p → follows (setting_of p) (seen b f c h) → Configures (seen a f c h) follows
configures a b c f g h line p follows r is later = record { first = line; p = p; is_line = r.is_line; configures = is; rest = b; read = r.read; later = later }

unanswered_later : (a b : Option (List ℕ)) (f g h : ℕ) (asked : Question) (why : Cause) → f ≤ g → IsUnanswered (seen a g b h) asked why → IsUnanswered (seen a f b h) asked why
unanswered_later a b f g h asked (cause.NoConfiguration reason) le u = u
unanswered_later a b f g h asked (cause.NoAnswer reason) le u = record { line = u.line; reads = record { is_line = u.reads.is_line; read = u.reads.read }; no_answer = u.no_answer; because = u.because }
unanswered_later a b f g h asked cause.Ended le u = u
unanswered_later a b f g h asked cause.Failed le u = rose_before f g h le u
unanswered_later a b f g h asked cause.TooLong le u = u

breaks_later : (over : ChainSetting) (a b : Option (List ℕ)) (f g h : ℕ) (sink : SinkSeen) (broken : Break) → f ≤ g → BreaksCall over (seen a g b h) sink broken → BreaksCall over (seen a f b h) sink broken
breaks_later over a b f g h sink broken le c = record {
  lines = c.lines;
  call = c.call;
  written = c.written;
  rest = c.rest;
  read = c.read;
  number = c.number;
  why = unanswered_later c.rest b f g h c.call.question broken.cause le c.why;
}

fails_later : (over : ChainSetting) (a b : Option (List ℕ)) (f g h : ℕ) (sink : SinkSeen) → FailsInCall over (seen a g b h) sink → FailsInCall over (seen a f b h) sink
fails_later over a b f g h sink c = record {
  lines = c.lines;
  call = c.call;
  written = c.written;
  failed = c.failed;
  read = c.read;
}

part_as : (sink : SinkSeen) (some others : List ℕ → Type 0) → ((lines : List ℕ) → some lines → others lines) → WritesPart sink some → WritesPart sink others
part_as sink some others each (inl kept) = inl kept
part_as sink some others each (inr h) = inr (h.0, each h.0 h.1, h.2)

pub call_stops : (over : ChainSetting) (source : SourceSeen) (sink : SinkSeen) (s : Stopped) → StopsCall over source sink s → StopsBehind over source sink s
call_stops over source sink (stopped.Broken broken) h = h
call_stops over source sink stopped.Unwritten h = inl h
call_stops over source sink stopped.OutOfMemory h = part_as sink (λ lines. AreAskedLines over lines) (λ lines. AreCallLines over lines) (λ lines asked. inl asked) h

pub tells_call : (over : ChainSetting) (source : SourceSeen) (v w w' : Option (List ℕ)) (k l m : ℕ) (journal : List Pair) (out : Answer) (is_credentials : Bool)
    → EndsCall over source (told v k w l) journal out → WritesOutcome over (told w l w' m) out journal is_credentials → TellsCall over source (told v k w' m) is_credentials
tells_call over source v w w' k l m journal out is_credentials e o = record {
  exchanges = e.exchanges;
  each = e.all.each;
  out = out;
  call = e.call;
  credentials = o.credentials;
  line = o.line;
  tells = subst (λ (j : List Pair). IsOutcomeLine over out j o.line) e.is_journal o.tells;
  read = e.all.read;
  written = wrote_then v w w' (asked_lines e.exchanges) o.line e.all.written o.written;
}

abbrev told_lines : (over : ChainSetting) (source : SourceSeen) (sink : SinkSeen) (journal : List Pair) (out : Answer) (line : List ℕ)
    → (e : EndsCall over source sink journal out) → IsOutcomeLine over out journal line → AreToldLines over (asked_lines e.exchanges ++ line)
told_lines over source sink journal out line e tells = record {
  exchanges = e.exchanges;
  each = e.all.each;
  out = out;
  call = e.call;
  line = line;
  tells = subst (λ (j : List Pair). IsOutcomeLine over out j line) e.is_journal tells;
  all = refl;
}

fails_at_end : (over : ChainSetting) (source : SourceSeen) (v w w' : Option (List ℕ)) (k l m : ℕ) (journal : List Pair) (out : Answer)
    → k ≤ l → EndsCall over source (told v k w l) journal out → FailsOutcome over (told w l w' m) out journal → FailsAtEnd over source (told v k w' m)
fails_at_end over source v w w' k l m journal out le e o = record {
  lines = asked_lines e.exchanges ++ o.line;
  call = told_lines over source (told v k w l) journal out o.line e o.tells;
  read = e.all.read;
  written = wrote_part v w w' (asked_lines e.exchanges) o.line e.all.written o.written;
  failed = rose_before k l m le o.failed;
}

pub outcome_stops : (over : ChainSetting) (source : SourceSeen) (v w w' : Option (List ℕ)) (k l m : ℕ) (journal : List Pair) (out : Answer) (s : Stopped)
    → k ≤ l → EndsCall over source (told v k w l) journal out → StopsOutcome over (told w l w' m) out journal s → StopsBehind over source (told v k w' m) s
outcome_stops over source v w w' k l m journal out (stopped.Broken broken) le e o = absurd o
outcome_stops over source v w w' k l m journal out stopped.Unwritten le e o = inr (fails_at_end over source v w w' k l m journal out le e o)
outcome_stops over source v w w' k l m journal out stopped.OutOfMemory le e (inl kept) =
    call_stops over source (told v k w' m) stopped.OutOfMemory (part_kept (λ lines. AreAskedLines over lines) v w w' k l m e.part kept)
outcome_stops over source v w w' k l m journal out stopped.OutOfMemory le e (inr h) =
    inr (asked_lines e.exchanges ++ h.0, inr (told_lines over source (told v k w l) journal out h.0 e h.1), wrote_part v w w' (asked_lines e.exchanges) h.0 e.all.written h.2)

tells_later : (over : ChainSetting) (b c : Option (List ℕ)) (f g h : ℕ) (sink : SinkSeen) (is_credentials : Bool) → TellsCall over (seen b g c h) sink is_credentials → TellsCall over (seen b f c h) sink is_credentials
tells_later over b c f g h sink is_credentials t = record {
  exchanges = t.exchanges;
  each = t.each;
  out = t.out;
  call = t.call;
  credentials = t.credentials;
  line = t.line;
  tells = t.tells;
  read = t.read;
  written = t.written;
}

fails_end_later : (over : ChainSetting) (b c : Option (List ℕ)) (f g h : ℕ) (sink : SinkSeen) → FailsAtEnd over (seen b g c h) sink → FailsAtEnd over (seen b f c h) sink
fails_end_later over b c f g h sink t = record { lines = t.lines; call = t.call; read = t.read; written = t.written; failed = t.failed }

pub tells : (a b c : Option (List ℕ)) (f g h : ℕ) (sink : SinkSeen) (line : List ℕ) (p : Plain) (is_credentials : Bool)
    → Reads (seen a f b g) line → IsConfiguration line p → TellsCall (setting_of p) (seen b g c h) sink is_credentials → Tells (seen a f c h) sink is_credentials
tells a b c f g h sink line p is_credentials r is t =
    configures a b c f g h line p (λ over later. TellsCall over later sink is_credentials) r is (tells_later (setting_of p) b c f g h sink is_credentials t)

fails : (a b c : Option (List ℕ)) (f g h : ℕ) (sink : SinkSeen) (line : List ℕ) (p : Plain)
    → Reads (seen a f b g) line → IsConfiguration line p → FailsInCall (setting_of p) (seen b g c h) sink ⊎ FailsAtEnd (setting_of p) (seen b g c h) sink → Fails (seen a f c h) sink
fails a b c f g h sink line p r is (inl t) =
    inl (configures a b c f g h line p (λ over later. FailsInCall over later sink) r is (fails_later (setting_of p) b c f g h sink t))
fails a b c f g h sink line p r is (inr t) =
    inr (configures a b c f g h line p (λ over later. FailsAtEnd over later sink) r is (fails_end_later (setting_of p) b c f g h sink t))

pub stops_behind : (a b c : Option (List ℕ)) (f g h : ℕ) (sink : SinkSeen) (line : List ℕ) (p : Plain) (s : Stopped)
    → Reads (seen a f b g) line → IsConfiguration line p → f ≤ g → StopsBehind (setting_of p) (seen b g c h) sink s → Stops (seen a f c h) sink s
stops_behind a b c f g h sink line p (stopped.Broken broken) r is le u =
    inr (configures a b c f g h line p (λ over later. BreaksCall over later sink broken) r is (breaks_later (setting_of p) b c f g h sink broken le u))
stops_behind a b c f g h sink line p stopped.Unwritten r is le u = fails a b c f g h sink line p r is u
stops_behind a b c f g h sink line p stopped.OutOfMemory r is le u =
    part_as sink (λ lines. AreCallLines (setting_of p) lines) (λ lines. Configures (seen a f c h) (λ over later. AreCallLines over lines))
    (λ lines call. configures a b c f g h line p (λ over later. AreCallLines over lines) r is call) u

-- ---- the end

pub none_ahead : (a : Option (List ℕ)) → prepend_known [] a ≡ a
none_ahead None = refl
none_ahead (Some bytes) = refl

breaks_call_to : (over : ChainSetting) (source : SourceSeen) (v w : Option (List ℕ)) (k l m : ℕ) (broken : Break) → BreaksCall over source (told v k w l) broken → BreaksCall over source (told v k w m) broken
breaks_call_to over source v w k l m broken c = record {
  lines = c.lines;
  call = c.call;
  written = c.written;
  rest = c.rest;
  read = c.read;
  number = c.number;
  why = c.why;
}

breaks_to : (source : SourceSeen) (v w : Option (List ℕ)) (k l m : ℕ) (broken : Break) → Breaks source (told v k w l) broken → Breaks source (told v k w m) broken
breaks_to source v w k l m broken (inl first) = inl (record { number = first.number; why = first.why; written = first.written })
breaks_to source v w k l m broken (inr c) = inr (record {
  first = c.first;
  p = c.p;
  is_line = c.is_line;
  configures = c.configures;
  rest = c.rest;
  read = c.read;
  later = breaks_call_to (setting_of c.p) (from source c.rest) v w k l m broken c.later;
})

written_to : (v w w' : Option (List ℕ)) (k l m : ℕ) (line : List ℕ) → k ≤ l
    → Appends w w' line ⊎ (Rose l m × GrowsByPrefix w w' line) → Appends w w' line ⊎ (Rose k m × GrowsByPrefix w w' line)
written_to v w w' k l m line le (inl all) = inl all
written_to v w w' k l m line le (inr part) = inr (rose_before k l m le part.0, part.1)

tells_break : (source : SourceSeen) (v w w' : Option (List ℕ)) (k l m : ℕ) (broken : Break) → k ≤ l → Breaks source (told v k w l) broken
    → (h : (line : List ℕ) × IsBrokenLine broken line × (Appends w w' line ⊎ (Rose l m × GrowsByPrefix w w' line))) → TellsBreak source (told v k w' m) broken
tells_break source v w w' k l m broken le b h = record {
  mid = w;
  breaks = breaks_to source v w k l m broken b;
  line = h.0;
  tells = h.1;
  written = written_to v w w' k l m h.0 le h.2;
}

pub ends_broken : (source : SourceSeen) (v w w' : Option (List ℕ)) (k l m : ℕ) (broken : Break) (d : Driven) → k ≤ l → Breaks source (told v k w l) broken
    → TellsWhy (told w l w' m) broken d → EndsDriven source (told v k w' m) d
ends_broken source v w w' k l m broken driven.Credentials le b h = absurd h
ends_broken source v w w' k l m broken driven.Refused le b h = absurd h
ends_broken source v w w' k l m broken (driven.Broken told_break) le b h =
    subst (λ (x : Break). TellsBreak source (told v k w' m) x) (sym h.0) (tells_break source v w w' k l m broken le b h.1)
ends_broken source v w w' k l m broken driven.Unwritten le b h = absurd h
ends_broken source v w w' k l m broken driven.OutOfMemory le b h = inr (broken, w, breaks_to source v w k l m broken b, h)

-- ---- the chain

pub setting_is : (over : ChainSetting) (conf : Configuration) (own : List NamedAnswer) (p : Plain)
    → over ≡ with_sources (in_region conf (option_map characters p.region)) own → conf ≡ configured p → own ≡ [] → over ≡ setting_of p
setting_is over conf own p e f h =
    e ∙ ap (λ (c : Configuration). with_sources (in_region c (option_map characters p.region)) own) f ∙ ap (λ (o : List NamedAnswer). with_sources (configuration_of p) o) h

-- ---- what was read ahead

pub ends_as : (ends : SourceSeen → Type 0) (a b : Option (List ℕ)) (f h : ℕ) (reader ahead : List ℕ) → reader ≡ []
    → ends (seen (prepend_known reader a) f (prepend_known ahead b) h) → (x : List ℕ) × ends (with_ahead x (seen a f b h))
ends_as ends a b f h reader ahead e t =
    (ahead, subst (λ (z : Option (List ℕ)). ends (seen z f (prepend_known ahead b) h)) (ap (λ (l : List ℕ). prepend_known l a) e ∙ none_ahead a) t)

pub ends_by_break : (a b v w w' : Option (List ℕ)) (f h k l m : ℕ) (reader ahead : List ℕ) (broken : Break) (d : Driven) → reader ≡ [] → k ≤ l
    → Breaks (seen (prepend_known reader a) f (prepend_known ahead b) h) (told v k w l) broken → TellsWhy (told w l w' m) broken d
    → (x : List ℕ) × EndsDriven (with_ahead x (seen a f b h)) (told v k w' m) d
ends_by_break a b v w w' f h k l m reader ahead broken d e le t why = (
  ahead,
  ends_broken (seen a f (prepend_known ahead b) h) v w w' k l m broken d le
      (subst (λ (z : Option (List ℕ)). Breaks (seen z f (prepend_known ahead b) h) (told v k w l) broken) (ap (λ (n : List ℕ). prepend_known n a) e ∙ none_ahead a) t) why,
)
