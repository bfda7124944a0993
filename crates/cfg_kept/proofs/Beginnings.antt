-- Beginnings of one tree, and what it asks next.
use Rattle.std.proofs.Common.{◌≡◌, List, [], ◌∷◌, ◌++◌, ◌⊎◌, inl, inr, Option, Some, refl, sym, ap, ◌∙◌, subst}
use Rattle.cfg_world.specs.declared.ask.Question.{Question}
use Rattle.cfg_world.specs.Fits.{Pair}
use Rattle.cfg_world.specs.Agreeing.{AnswerAlike}
use Rattle.cfg_world.proofs.Agreeing.{same_entry}
use Rattle.cfg_kept.specs.Kinds.{Value, States, value_at, with_value}
use Rattle.cfg_kept.specs.KeptInquiry.{KeptInquiry, Gives, Puts, Finds, Leaves, Runs, Asks, Begins, leave, onwards}
use Rattle.cfg_kept.specs.Beginnings.{IsPrefix, GoesOn, IsWhole, IsNext, AsksOne, BeginsBehind, BeginsInTurn}
use Rattle.cfg_kept.proofs.Trees.{begins_here, begins_first, begins_then}
use Rattle.cfg_kept.proofs.Agreeing.{same_found}
use Rattle.cfg_kept.proofs.Told.{spot_at, stands_at}

-- the same before both
prefix_more : {A : Type 0} (e f : A) (one other : List A) → e ≡ f → IsPrefix one other → IsPrefix (e ∷ one) (f ∷ other)
prefix_more e f one other same h = (h.0, ap (λ t. f ∷ t) h.1 ∙ ap (λ g. g ∷ (one ++ h.0)) (sym same))

asked_more : (e d : Pair) (found more : List Value) (journal longer : List Pair) → e ≡ d → GoesOn found journal more longer → GoesOn found (e ∷ journal) more (d ∷ longer)
asked_more e d found more journal longer same h = record { finds = h.finds; asks = prefix_more e d journal longer same h.asks }

found_more : (f g : Value) (found more : List Value) (journal longer : List Pair) → f ≡ g → GoesOn found journal more longer → GoesOn (f ∷ found) journal (g ∷ more) longer
found_more f g found more journal longer same h = record { finds = prefix_more f g found more same h.finds; asks = h.asks }

-- everything goes on from nothing
goes_on : (found more : List Value) (journal longer : List Pair) → found ≡ [] → journal ≡ [] → GoesOn found journal more longer
goes_on found more journal longer none nothing = record { finds = (more, ap (λ t. t ++ more) (sym none)); asks = (longer, ap (λ t. t ++ longer) (sym nothing)) }

-- of two beginnings whose answers agree one goes on as the other
pub one_beginning : {R : Type 0} (p : KeptInquiry R) (old : States) (found more : List Value) (journal longer : List Pair) (new newer : Option States) →
    Begins p (Some old) found journal new → Begins p (Some old) more longer newer → AnswerAlike journal longer → GoesOn found journal more longer ⊎ GoesOn more longer found journal
one_beginning (Gives r) old [] more [] longer new newer h k a = inl (goes_on [] more [] longer refl refl)
one_beginning (Gives r) old [] more (e ∷ journal) longer new newer h k a = absurd h
one_beginning (Gives r) old (f ∷ found) more journal longer new newer h k a = absurd h
one_beginning (Puts q n) old [] more [] longer new newer h k a = inl (goes_on [] more [] longer refl refl)
one_beginning (Puts q n) old (f ∷ found) more [] longer new newer h k a = absurd h
one_beginning (Puts q n) old found [] (e ∷ journal) [] new newer h k a = inr (goes_on [] found [] (e ∷ journal) refl refl)
one_beginning (Puts q n) old found (g ∷ more) (e ∷ journal) [] new newer h k a = absurd k
one_beginning (Puts q n) old found more (e ∷ journal) (d ∷ longer) new newer h k a =
    let asks = h.0 ∙ sym k.0 in
    let alike = a asks in
    let same = same_entry e d asks alike.0 in
    elim (one_beginning (n e.1) old found more journal longer new newer h.1 (subst (λ b. Begins (n b) (Some old) more longer newer) (sym alike.0) k.1) alike.1) [
      | inl r ↦ inl (asked_more e d found more journal longer same r)
      | inr r ↦ inr (asked_more d e more found longer journal (sym same) r)
    ]
one_beginning (Finds spot n) old [] more [] longer new newer h k a = inl (goes_on [] more [] longer refl refl)
one_beginning (Finds spot n) old [] more (e ∷ journal) longer new newer h k a = absurd h
one_beginning (Finds spot n) old (f ∷ found) [] journal [] new newer h k a = inr (goes_on [] (f ∷ found) [] journal refl refl)
one_beginning (Finds spot n) old (f ∷ found) [] journal (d ∷ longer) new newer h k a = absurd k
one_beginning (Finds spot n) old (f ∷ found) (g ∷ more) journal longer new newer h k a =
    let same = same_found old spot f g h.0 h.1 k.0 k.1 in
    elim (one_beginning (n f) old found more journal longer new newer h.2 (subst (λ v. Begins (n v) (Some old) more longer newer) (sym same) k.2) a) [
      | inl r ↦ inl (found_more f g found more journal longer same r)
      | inr r ↦ inr (found_more g f more found longer journal (sym same) r)
    ]
one_beginning (Leaves v p) old found more journal longer new newer (inl h) k a = inl (goes_on found more journal longer h.0 h.1)
one_beginning (Leaves v p) old found more journal longer new newer (inr h) (inl k) a = inr (goes_on more found longer journal k.0 k.1)
one_beginning (Leaves v p) old found more journal longer new newer (inr h) (inr k) a = one_beginning p (with_value old v) found more journal longer new newer h k a

-- each whole run whose answers agree goes on as a beginning does
pub begins_whole : {R : Type 0} (p : KeptInquiry R) (old : States) (found more : List Value) (journal longer : List Pair) (x : R) (new newer : Option States) →
    Begins p (Some old) found journal new → Runs p (Some old) more longer x newer → AnswerAlike journal longer → GoesOn found journal more longer
begins_whole (Gives r) old [] more [] longer x new newer h k a = goes_on [] more [] longer refl refl
begins_whole (Gives r) old [] more (e ∷ journal) longer x new newer h k a = absurd h
begins_whole (Gives r) old (f ∷ found) more journal longer x new newer h k a = absurd h
begins_whole (Puts q n) old [] more [] longer x new newer h k a = goes_on [] more [] longer refl refl
begins_whole (Puts q n) old (f ∷ found) more [] longer x new newer h k a = absurd h
begins_whole (Puts q n) old found more (e ∷ journal) [] x new newer h k a = absurd k
begins_whole (Puts q n) old found more (e ∷ journal) (d ∷ longer) x new newer h k a =
    let asks = h.0 ∙ sym k.0 in
    let alike = a asks in
    asked_more e d found more journal longer (same_entry e d asks alike.0)
    (begins_whole (n e.1) old found more journal longer x new newer h.1 (subst (λ b. Runs (n b) (Some old) more longer x newer) (sym alike.0) k.1) alike.1)
begins_whole (Finds spot n) old [] more [] longer x new newer h k a = goes_on [] more [] longer refl refl
begins_whole (Finds spot n) old [] more (e ∷ journal) longer x new newer h k a = absurd h
begins_whole (Finds spot n) old (f ∷ found) [] journal longer x new newer h k a = absurd k
begins_whole (Finds spot n) old (f ∷ found) (g ∷ more) journal longer x new newer h k a =
    let same = same_found old spot f g h.0 h.1 k.0 k.1 in
    found_more f g found more journal longer same (begins_whole (n f) old found more journal longer x new newer h.2 (subst (λ v. Runs (n v) (Some old) more longer x newer) (sym same) k.2) a)
begins_whole (Leaves v p) old found more journal longer x new newer (inl h) k a = goes_on found more journal longer h.0 h.1
begins_whole (Leaves v p) old found more journal longer x new newer (inr h) k a = begins_whole p (with_value old v) found more journal longer x new newer h k a

-- the tree asks some question next
abbrev pub SomeNext : {R : Type 0} → KeptInquiry R → Option States → List Pair → Type 0
SomeNext p old journal = (q : Question) × IsNext p old journal q

-- after a journal that has begun the tree comes to an end, or asks a question
pub whole_or_next : {R : Type 0} (p : KeptInquiry R) (old : States) (found : List Value) (journal : List Pair) (new : Option States) →
    Begins p (Some old) found journal new → IsWhole p (Some old) journal ⊎ SomeNext p (Some old) journal
whole_or_next (Gives r) old [] [] new h = inl ([], r, Some old, (refl, refl))
whole_or_next (Gives r) old [] (e ∷ journal) new h = absurd h
whole_or_next (Gives r) old (f ∷ found) journal new h = absurd h
whole_or_next (Puts q n) old found [] new h = inr (q, ([], Some old, (refl, refl)))
whole_or_next (Puts q n) old found (e ∷ journal) new h = elim (whole_or_next (n e.1) old found journal new h.1) [
  | inl r ↦ inl (r.0, r.1, r.2, (h.0, r.3))
  | inr r ↦ inr (r.0, (r.1.0, r.1.1, (h.0, r.1.2)))
]
whole_or_next (Finds spot n) old [] [] new h =
    let v = value_at old spot in
    elim (whole_or_next (n v) old [] [] (Some old) (begins_here (n v) (Some old))) [
      | inl r ↦ inl (v ∷ r.0, r.1, r.2, (spot_at old spot, stands_at old spot, r.3))
      | inr r ↦ inr (r.0, (v ∷ r.1.0, r.1.1, (spot_at old spot, stands_at old spot, r.1.2)))
    ]
whole_or_next (Finds spot n) old [] (e ∷ journal) new h = absurd h
whole_or_next (Finds spot n) old (f ∷ found) journal new h = elim (whole_or_next (n f) old found journal new h.2) [
  | inl r ↦ inl (f ∷ r.0, r.1, r.2, (h.0, h.1, r.3))
  | inr r ↦ inr (r.0, (f ∷ r.1.0, r.1.1, (h.0, h.1, r.1.2)))
]
whole_or_next (Leaves v p) old found journal new (inl h) =
    let none = whole_or_next p (with_value old v) [] [] (Some (with_value old v)) (begins_here p (Some (with_value old v))) in
    subst (λ j. IsWhole (Leaves v p) (Some old) j ⊎ SomeNext (Leaves v p) (Some old) j) (sym h.1) none
whole_or_next (Leaves v p) old found journal new (inr h) = whole_or_next p (with_value old v) found journal new h

-- there is one question
pub one_next : {R : Type 0} (p : KeptInquiry R) (old : States) (found more : List Value) (journal : List Pair) (q r : Question) (new newer : Option States) →
    Asks p (Some old) found journal q new → Asks p (Some old) more journal r newer → q ≡ r
one_next (Gives x) old found more journal q r new newer h k = absurd h
one_next (Puts s n) old [] [] [] q r new newer h k = sym h.0 ∙ k.0
one_next (Puts s n) old [] (g ∷ more) [] q r new newer h k = absurd k
one_next (Puts s n) old (f ∷ found) more [] q r new newer h k = absurd h
one_next (Puts s n) old found more (e ∷ journal) q r new newer h k = one_next (n e.1) old found more journal q r new newer h.1 k.1
one_next (Finds spot n) old [] more journal q r new newer h k = absurd h
one_next (Finds spot n) old (f ∷ found) [] journal q r new newer h k = absurd k
one_next (Finds spot n) old (f ∷ found) (g ∷ more) journal q r new newer h k =
    one_next (n f) old found more journal q r new newer h.2 (subst (λ v. Asks (n v) (Some old) more journal r newer) (sym (same_found old spot f g h.0 h.1 k.0 k.1)) k.2)
one_next (Leaves v p) old found more journal q r new newer h k = one_next p (with_value old v) found more journal q r new newer h k

-- and no end
pub next_no_end : {R : Type 0} (p : KeptInquiry R) (old : States) (found more : List Value) (journal : List Pair) (q : Question) (x : R) (new newer : Option States) →
    Asks p (Some old) found journal q new → Runs p (Some old) more journal x newer → ⊥
next_no_end (Gives r) old found more journal q x new newer h k = absurd h
next_no_end (Puts s n) old found more [] q x new newer h k = absurd k
next_no_end (Puts s n) old found more (e ∷ journal) q x new newer h k = next_no_end (n e.1) old found more journal q x new newer h.1 k.1
next_no_end (Finds spot n) old [] more journal q x new newer h k = absurd h
next_no_end (Finds spot n) old (f ∷ found) [] journal q x new newer h k = absurd k
next_no_end (Finds spot n) old (f ∷ found) (g ∷ more) journal q x new newer h k =
    next_no_end (n f) old found more journal q x new newer h.2 (subst (λ v. Runs (n v) (Some old) more journal x newer) (sym (same_found old spot f g h.0 h.1 k.0 k.1)) k.2)
next_no_end (Leaves v p) old found more journal q x new newer h k = next_no_end p (with_value old v) found more journal q x new newer h k

asks_one : {R : Type 0} (p : KeptInquiry R) (old : States) (journal : List Pair) (q : Question) → IsNext p (Some old) journal q → AsksOne p (Some old) journal
asks_one p old journal q h = record {
  question = q;
  asked = h;
  alone = λ other k. one_next p old k.0 h.0 journal other q k.1 h.1 k.2 h.2;
  unfinished = λ k. next_no_end p old h.0 k.0 journal q k.1 h.1 k.2 h.2 k.3;
}

pub whole_or_one : {R : Type 0} (p : KeptInquiry R) (old : States) (found : List Value) (journal : List Pair) (new : Option States) →
    Begins p (Some old) found journal new → IsWhole p (Some old) journal ⊎ AsksOne p (Some old) journal
whole_or_one p old found journal new h = elim (whole_or_next p old found journal new h) [
  | inl r ↦ inl r
  | inr r ↦ inr (asks_one p old journal r.0 r.1)
]

not_empty : (journal : List Pair) (e : Pair) (behind : List Pair) → journal ++ e ∷ behind ≡ [] → ⊥
not_empty [] e behind h = cc
not_empty (d ∷ journal) e behind h = cc

-- any further entry is of the question that is next
pub next_entry : {R : Type 0} (p : KeptInquiry R) (old : States) (found more : List Value) (journal : List Pair) (e : Pair) (behind : List Pair) (q : Question) (new newer : Option States) →
    Asks p (Some old) found journal q new → Begins p (Some old) more (journal ++ e ∷ behind) newer → e.0 ≡ q
next_entry (Gives r) old found more journal e behind q new newer h k = absurd h
next_entry (Puts s n) old [] more [] e behind q new newer h k = k.0 ∙ h.0
next_entry (Puts s n) old (f ∷ found) more [] e behind q new newer h k = absurd h
next_entry (Puts s n) old found more (d ∷ journal) e behind q new newer h k = next_entry (n d.1) old found more journal e behind q new newer h.1 k.1
next_entry (Finds spot n) old [] more journal e behind q new newer h k = absurd h
next_entry (Finds spot n) old (f ∷ found) [] [] e behind q new newer h k = absurd k
next_entry (Finds spot n) old (f ∷ found) [] (d ∷ journal) e behind q new newer h k = absurd k
next_entry (Finds spot n) old (f ∷ found) (g ∷ more) journal e behind q new newer h k =
    next_entry (n f) old found more journal e behind q new newer h.2 (subst (λ v. Begins (n v) (Some old) more (journal ++ e ∷ behind) newer) (sym (same_found old spot f g h.0 h.1 k.0 k.1)) k.2)
next_entry (Leaves v p) old found more journal e behind q new newer h (inl k) = absurd (not_empty journal e behind k.1)
next_entry (Leaves v p) old found more journal e behind q new newer h (inr k) = next_entry p (with_value old v) found more journal e behind q new newer h k

module _ {A B : Type 0} where
  asked_behind : (q : Question) (n : _ → KeptInquiry A) (f : A → KeptInquiry B) (old new : Option States) (found : List Value) (e : Pair) (journal : List Pair) → e.0 ≡ q → BeginsBehind (n e.1) f old found journal new → BeginsBehind (Puts q n) f old found (e ∷ journal) new
  asked_behind q n f old new found e journal asks r = record {
    outcome = r.outcome;
    middle = r.middle;
    found_before = r.found_before;
    found_behind = r.found_behind;
    part = e ∷ r.part;
    rest = r.rest;
    finds = r.finds;
    parts = ap (λ t. e ∷ t) r.parts;
    runs = (asks, r.runs);
    begins = r.begins;
  }

  -- one tree after another begins as the first does, or as the second does behind a whole run of the first
  pub begins_splits : (p : KeptInquiry A) (f : A → KeptInquiry B) (old new : Option States) (found : List Value) (journal : List Pair) → Begins (onwards p f) old found journal new → BeginsInTurn p f old found journal new
  begins_splits (Gives x) f old new found journal h = inr (record { outcome = x; middle = old; found_before = []; found_behind = found; part = []; rest = journal; finds = refl; parts = refl; runs = (refl, refl); begins = h })
  begins_splits (Puts q n) f old new [] [] h = inl h
  begins_splits (Puts q n) f old new (g ∷ found) [] h = absurd h
  begins_splits (Puts q n) f old new found (e ∷ journal) h = elim (begins_splits (n e.1) f old new found journal h.1) [
    | inl b ↦ inl (h.0, b)
    | inr r ↦ inr (asked_behind q n f old new found e journal h.0 r)
  ]
  begins_splits (Finds spot n) f old new [] [] h = inl h
  begins_splits (Finds spot n) f old new [] (e ∷ journal) h = absurd h
  begins_splits (Finds spot n) f old new (g ∷ found) journal h = elim (begins_splits (n g) f old new found journal h.2) [
    | inl b ↦ inl (h.0, h.1, b)
    | inr r ↦ inr (record {
      outcome = r.outcome;
      middle = r.middle;
      found_before = g ∷ r.found_before;
      found_behind = r.found_behind;
      part = r.part;
      rest = r.rest;
      finds = ap (λ t. g ∷ t) r.finds;
      parts = r.parts;
      runs = (h.0, h.1, r.runs);
      begins = r.begins;
    })
  ]
  begins_splits (Leaves v p) f old new found journal (inl h) = inl (inl h)
  begins_splits (Leaves v p) f old new found journal (inr h) = elim (begins_splits p f (leave old v) new found journal h) [
    | inl b ↦ inl (inr b)
    | inr r ↦ inr (record {
      outcome = r.outcome;
      middle = r.middle;
      found_before = r.found_before;
      found_behind = r.found_behind;
      part = r.part;
      rest = r.rest;
      finds = r.finds;
      parts = r.parts;
      runs = r.runs;
      begins = r.begins;
    })
  ]

  pub begins_joins : (p : KeptInquiry A) (f : A → KeptInquiry B) (old new : Option States) (found : List Value) (journal : List Pair) → BeginsInTurn p f old found journal new → Begins (onwards p f) old found journal new
  begins_joins p f old new found journal (inl b) = begins_first p f old new found journal b
  begins_joins p f old new found journal (inr r) =
      subst (λ j. Begins (onwards p f) old found j new) (sym r.parts)
      (subst (λ g. Begins (onwards p f) old g (r.part ++ r.rest) new) (sym r.finds)
      (begins_then p f old r.middle new r.found_before r.found_behind r.part r.rest r.outcome r.runs r.begins))
