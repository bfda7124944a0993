-- Exchanges, one after another, and where they stop.
use Rattle.std.proofs.Common.{◌≡◌, ℕ, ◌+◌, ◌≤◌, List, [], ◌∷◌, ◌++◌, length, inl, inr, Option, Some, None, Result, Ok, Err, refl, sym, ap, subst, ◌∙◌, append_assoc, length-append, arith}
use Rattle.std.proofs.lemmas.List.{append-nil, map-append}
use Rattle.std.proofs.lemmas.List.Elements.{All-nil, All-push}
use Rattle.std.proofs.lemmas.Grind.{flat_map-append}
use Rattle.std.specs.Prelude.{All, IsErrAnd, MatchResult}
use Rattle.std.specs.Io.KnownBytes.{Appends, Consumes, Keeps}
use Rattle.std.proofs.KnownBytes.{Appends-kept}
use Rattle.cfg_world.specs.Faults.{Rose}
use Rattle.cfg_world.specs.Fits.{Pair}
use Rattle.cfg_world.specs.declared.ask.Question.{Question}
use Rattle.cfg_kept.specs.Kinds.{States, no_states}
use Rattle.cfg_providers.specs.CustomSources.{Answer}
use Rattle.cfg_chain.specs.Provides.{IsCall}
use Rattle.cfg_chain.specs.Settings.{ChainSetting}
use Rattle.cfg_lines.specs.Lines.{IsQuestionLine, IsAnswer}
use Rattle.cfg_program.specs.Streams.{SourceSeen, SinkSeen, GrowsByPrefix}
use Rattle.cfg_run.specs.CallSoFar.{CallSoFar}
use Rattle.cfg_run.specs.Runs.{IsWaitingCall, IsUnderWay, IsUnderWayAt}
use Rattle.cfg_drive.specs.declared.driven.Cause.{Cause}
use Rattle.cfg_drive.specs.declared.driven.Cause.TheVariants as cause
use Rattle.cfg_drive.specs.declared.driven.Stopped.{Stopped}
use Rattle.cfg_drive.specs.declared.driven.Stopped.TheVariants as stopped
use Rattle.cfg_drive.specs.Conversations.{Exchange, IsExchange, Exchanges, IsOpenCall, AreAskedLines, asked_lines, said_lines, journal_of, ended}
use Rattle.cfg_drive.specs.Breaks.{IsUnanswered, Answers, StopsAnswer, Puts, StopsPut, StopsCall, EndsCall, WritesPart, from}
use Rattle.cfg_drive.proofs.Endings.{kept_refl, kept_trans}

-- ---- known bytes

pub read_nothing : (a : Option (List ℕ)) → Consumes a a []
read_nothing None = tt
read_nothing (Some x) = refl

pub read_then : (a b c : Option (List ℕ)) (x y : List ℕ) → Consumes a b x → Consumes b c y → Consumes a c (x ++ y)
read_then None b c x y p q = tt
read_then (Some bytes) None c x y p q = absurd p
read_then (Some bytes) (Some now) None x y p q = absurd q
read_then (Some bytes) (Some now) (Some after) x y p q = p ∙ ap (λ (t : List ℕ). x ++ t) q ∙ sym (append_assoc x y after)

pub wrote_nothing : (a : Option (List ℕ)) → Appends a a []
wrote_nothing None = tt
wrote_nothing (Some x) = sym (append-nil x)

pub wrote_then : (a b c : Option (List ℕ)) (x y : List ℕ) → Appends a b x → Appends b c y → Appends a c (x ++ y)
wrote_then None b c x y p q = tt
wrote_then (Some bytes) None c x y p q = absurd p
wrote_then (Some bytes) (Some now) None x y p q = absurd q
wrote_then (Some bytes) (Some now) (Some after) x y p q = q ∙ ap (λ (t : List ℕ). t ++ y) p ∙ append_assoc bytes x y

-- a prefix was written behind other bytes
pub wrote_part : (a b c : Option (List ℕ)) (x y : List ℕ) → Appends a b x → GrowsByPrefix b c y → GrowsByPrefix a c (x ++ y)
wrote_part a b c x y p q = (x ++ q.0, q.1, ap (λ (t : List ℕ). x ++ t) q.2 ∙ sym (append_assoc x q.0 q.1), wrote_then a b c x q.0 p q.3)

-- ---- what was seen

abbrev pub seen : Option (List ℕ) → ℕ → Option (List ℕ) → ℕ → SourceSeen
seen a f b g = record { left = a; left_after = b; faults = f; faults_after = g }

abbrev pub told : Option (List ℕ) → ℕ → Option (List ℕ) → ℕ → SinkSeen
told a f b g = record { written = a; written_after = b; faults = f; faults_after = g }

pub rose_before : (f g h : ℕ) → f ≤ g → Rose g h → Rose f h
rose_before f g h le r = omega arith

-- ---- a part of what is written

pub part_kept : (lines : List ℕ → Type 0) (v w w' : Option (List ℕ)) (k l m : ℕ) → WritesPart (told v k w l) lines → Keeps w w' → WritesPart (told v k w' m) lines
part_kept lines v w w' k l m (inl kept) q = inl (kept_trans v w w' kept q)
part_kept lines v w w' k l m (inr h) q = inr (h.0, h.1, (h.2.0, h.2.1, h.2.2, Appends-kept v w w' h.2.0 h.2.3 q))

abbrev asked_on : (over : ChainSetting) (exchanges : List Exchange) (question : Question) (asked : List ℕ) → All IsExchange exchanges → IsOpenCall over exchanges question
    → IsQuestionLine question asked → AreAskedLines over (asked_lines exchanges ++ asked)
asked_on over exchanges question asked each is_next asks = record { exchanges = exchanges; each = each; question = question; next = is_next; asked = asked; asks = asks; all = refl }

-- ---- exchanges

-- the entries so far are those of exchanges, of which the next answer is the line of this number
pub record Exchanged (over : ChainSetting) (source : SourceSeen) (sink : SinkSeen) (number : ℕ) (journal : List Pair) : Type 0 where
  pub exchanges : List Exchange
  pub all : Exchanges source sink exchanges
  pub part : WritesPart sink (λ lines. AreAskedLines over lines)
  pub is_journal : journal ≡ journal_of exchanges
  pub counted : number ≡ length exchanges + 2

pub none_exchanged : (over : ChainSetting) (a w : Option (List ℕ)) (f g f' g' : ℕ) → Exchanged over (seen a f a f') (told w g w g') 2 []
none_exchanged over a w f g f' g' = record {
  exchanges = [];
  all = record { each = All-nil IsExchange; read = read_nothing a; written = wrote_nothing w };
  part = inl (kept_refl w);
  is_journal = refl;
  counted = omega arith;
}

said_more : (xs : List Exchange) (x : Exchange) → said_lines xs ++ ended x.said ≡ said_lines (xs ++ x ∷ [])
said_more xs x = ap (λ (t : List ℕ). said_lines xs ++ t) (sym (append-nil (ended x.said))) ∙ sym (flat_map-append (λ (y : Exchange). ended y.said) xs (x ∷ []))

asked_more : (xs : List Exchange) (x : Exchange) → asked_lines xs ++ x.asked ≡ asked_lines (xs ++ x ∷ [])
asked_more xs x = ap (λ (t : List ℕ). asked_lines xs ++ t) (sym (append-nil x.asked)) ∙ sym (flat_map-append (λ (y : Exchange). y.asked) xs (x ∷ []))

-- the line of the question that is next was written
pub part_put : (over : ChainSetting) (source : SourceSeen) (v w w' : Option (List ℕ)) (k l m n : ℕ) (journal : List Pair) (question : Question)
    → (e : Exchanged over source (told v k w l) n journal) → IsOpenCall over e.exchanges question → Puts (told w l w' m) question
    → WritesPart (told v k w' m) (λ lines. AreAskedLines over lines)
part_put over source v w w' k l m n journal question e is_next puts =
    let lines : List ℕ = asked_lines e.exchanges ++ puts.line in
    inr (lines, asked_on over e.exchanges question puts.line e.all.each is_next puts.asks, (lines, [], sym (append-nil lines), wrote_then v w w' (asked_lines e.exchanges) puts.line e.all.written puts.written))

pub one_exchanged : (over : ChainSetting) (a b c v w w' : Option (List ℕ)) (f g h k l m n : ℕ) (journal asked : List Pair) (question : Question) (receipt : Pair)
    → (e : Exchanged over (seen a f b g) (told v k w l) n journal) → asked ≡ journal → IsOpenCall over e.exchanges question → Puts (told w l w' m) question
    → Answers (seen b g c h) question receipt → Exchanged over (seen a f c h) (told v k w' m) (n + 1) (asked ++ receipt ∷ [])
one_exchanged over a b c v w w' f g h k l m n journal asked question receipt e is is_next puts answers =
    let x : Exchange = record { entry = receipt; asked = puts.line; said = answers.line } in
    record {
      exchanges = e.exchanges ++ x ∷ [];
      all = record {
        each = All-push IsExchange e.exchanges x e.all.each (record {
          asks = subst (λ (q : Question). IsQuestionLine q puts.line) (sym answers.asked) puts.asks;
          line = answers.reads.is_line;
          answers = subst (λ (q : Question). IsAnswer q answers.line receipt.1) (sym answers.asked) answers.answers;
        });
        read = subst (λ (t : List ℕ). Consumes a c t) (said_more e.exchanges x) (read_then a b c (said_lines e.exchanges) (ended answers.line) e.all.read answers.reads.read);
        written = subst (λ (t : List ℕ). Appends v w' t) (asked_more e.exchanges x) (wrote_then v w w' (asked_lines e.exchanges) puts.line e.all.written puts.written);
      };
      part = part_put over (seen a f b g) v w w' k l m n journal question e is_next puts;
      is_journal = ap (λ (j : List Pair). j ++ receipt ∷ []) (is ∙ e.is_journal) ∙ sym (map-append (λ (y : Exchange). y.entry) e.exchanges (x ∷ []));
      counted = omega (arith, e.counted, length-append e.exchanges (x ∷ []));
    }

-- ---- the question that is open

pub open_call : (over : ChainSetting) (s : CallSoFar) (question : Question) (exchanges : List Exchange)
    → IsUnderWay over s → s.question ≡ Some question → s.base ≡ no_states → s.asked ≡ journal_of exchanges → IsOpenCall over exchanges question
open_call over s question exchanges way e base is = record {
  found = s.found;
  kept = s.kept;
  member = s.member;
  waits = subst (λ (j : List Pair). IsWaitingCall over no_states s.kept s.found j question s.member) is
      (subst (λ (b : States). IsWaitingCall over b s.kept s.found s.asked question s.member) base
      (subst (λ (o : Option Question). IsUnderWayAt over s o) e way.1));
}

-- ---- where a call stops

pub stops_put : (over : ChainSetting) (a b v w w' : Option (List ℕ)) (f g k l m n : ℕ) (journal : List Pair) (question : Question) (s : Stopped)
    → (e : Exchanged over (seen a f b g) (told v k w l) n journal) → IsOpenCall over e.exchanges question → k ≤ l → StopsPut (told w l w' m) question s
    → StopsCall over (seen a f b g) (told v k w' m) s
stops_put over a b v w w' f g k l m n journal question (stopped.Broken broken) e is_next le h = absurd h
stops_put over a b v w w' f g k l m n journal question stopped.Unwritten e is_next le h = record {
  lines = asked_lines e.exchanges ++ h.line;
  call = asked_on over e.exchanges question h.line e.all.each is_next h.asks;
  written = wrote_part v w w' (asked_lines e.exchanges) h.line e.all.written h.written;
  failed = rose_before k l m le h.failed;
  read = e.all.read;
}
stops_put over a b v w w' f g k l m n journal question stopped.OutOfMemory e is_next le (inl kept) = part_kept (λ lines. AreAskedLines over lines) v w w' k l m e.part kept
stops_put over a b v w w' f g k l m n journal question stopped.OutOfMemory e is_next le (inr h) =
    inr (asked_lines e.exchanges ++ h.0, asked_on over e.exchanges question h.0 e.all.each is_next h.1, wrote_part v w w' (asked_lines e.exchanges) h.0 e.all.written h.2)

unanswered_from : (a b c : Option (List ℕ)) (f g h : ℕ) (question : Question) (why : Cause) → f ≤ g → IsUnanswered (seen b g c h) question why → IsUnanswered (from (seen a f c h) b) question why
unanswered_from a b c f g h question (cause.NoConfiguration reason) le u = u
unanswered_from a b c f g h question (cause.NoAnswer reason) le u = record { line = u.line; reads = record { is_line = u.reads.is_line; read = u.reads.read }; no_answer = u.no_answer; because = u.because }
unanswered_from a b c f g h question cause.Ended le u = u
unanswered_from a b c f g h question cause.Failed le u = rose_before f g h le u
unanswered_from a b c f g h question cause.TooLong le u = u

pub stops_answer : (over : ChainSetting) (a b c v w w' : Option (List ℕ)) (f g h k l m n : ℕ) (journal : List Pair) (question : Question) (s : Stopped)
    → (e : Exchanged over (seen a f b g) (told v k w l) n journal) → IsOpenCall over e.exchanges question → f ≤ g → Puts (told w l w' m) question → StopsAnswer (seen b g c h) question n s
    → StopsCall over (seen a f c h) (told v k w' m) s
stops_answer over a b c v w w' f g h k l m n journal question (stopped.Broken broken) e is_next le puts u = record {
  lines = asked_lines e.exchanges ++ puts.line;
  call = asked_on over e.exchanges question puts.line e.all.each is_next puts.asks;
  written = wrote_then v w w' (asked_lines e.exchanges) puts.line e.all.written puts.written;
  rest = b;
  read = e.all.read;
  number = u.0 ∙ e.counted;
  why = unanswered_from a b c f g h question broken.cause le u.1;
}
stops_answer over a b c v w w' f g h k l m n journal question stopped.Unwritten e is_next le puts u = absurd u
stops_answer over a b c v w w' f g h k l m n journal question stopped.OutOfMemory e is_next le puts u = part_put over (seen a f b g) v w w' k l m n journal question e is_next puts

-- ---- a whole call

pub ends_call : (over : ChainSetting) (source : SourceSeen) (sink : SinkSeen) (s : CallSoFar) (n : ℕ) (journal before : List Pair) (out : Answer)
    → (e : Exchanged over source sink n before) → s.asked ≡ before → s.base ≡ no_states → IsCall over s.base s.kept s.found s.asked out → journal ≡ s.asked
    → EndsCall over source sink journal out
ends_call over source sink s n journal before out e is base call whole = record {
  exchanges = e.exchanges;
  all = e.all;
  part = e.part;
  is_journal = whole ∙ is ∙ e.is_journal;
  call = record {
    found = s.found;
    kept = s.kept;
    call = subst (λ (j : List Pair). IsCall over no_states s.kept s.found j out) (is ∙ e.is_journal)
        (subst (λ (b : States). IsCall over b s.kept s.found s.asked out) base call);
  };
}

-- ---- the start of a call, and an error that a call hands on

pub start_exchanged : (over : ChainSetting) (a w : Option (List ℕ)) (f k : ℕ) (asked : List Pair) → asked ≡ [] → Exchanged over (seen a f a f) (told w k w k) 2 (asked ++ [])
start_exchanged over a w f k asked e = subst (λ (j : List Pair). Exchanged over (seen a f a f) (told w k w k) 2 j) (sym (ap (λ (j : List Pair). j ++ []) e)) (none_exchanged over a w f k f k)

pub match_err : {A E : Type 0} (r : Result A E) (e : E) (P : A → Type 0) (Q : E → Type 0) → IsErrAnd r (λ f. f ≡ e) → Q e → MatchResult r P Q
match_err (Ok x) e P Q h q = absurd h
match_err (Err f) e P Q h q = subst Q (sym h) q
