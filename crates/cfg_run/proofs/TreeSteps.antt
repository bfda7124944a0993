-- What a tree may be handed, and what comes of it.
use Rattle.std.proofs.Common.{◌≡◌, List, [], ◌∷◌, ◌++◌, Option, Some, None, inr, refl, sym, ◌∙◌, ap, subst, append-nil}
use Rattle.cfg_world.specs.declared.ask.Question.{Question}
use Rattle.cfg_world.specs.Agreeing.{AnswerAlike}
use Rattle.cfg_world.specs.Fits.{Pair}
use Rattle.cfg_world.specs.Replayed.{Replayed, all_entries}
use Rattle.cfg_token.specs.Replays.{IsLeftOpen}
use Rattle.cfg_kept.specs.Kinds.{Value, States, with_value}
use Rattle.cfg_kept.specs.KeptInquiry.{KeptInquiry, Gives, Puts, Finds, Leaves, Runs, Asks, Begins, leave}
use Rattle.cfg_kept.proofs.Agreeing.{same_found, same_first}
use Rattle.cfg_kept.proofs.Beginnings.{begins_whole, next_entry}
use Rattle.cfg_kept.proofs.Trees.{begins_here}

-- where a question is next, the journal has begun
pub asks_begins : {R : Type 0} (p : KeptInquiry R) (old new : Option States) (found : List Value) (journal : List Pair) (q : Question) → Asks p old found journal q new → Begins p old found journal new
asks_begins (Gives r) old new found journal q h = absurd h
asks_begins (Puts s n) old new [] [] q h = h.1
asks_begins (Puts s n) old new (f ∷ found) [] q h = absurd h
asks_begins (Puts s n) old new found (e ∷ journal) q h = (h.0, asks_begins (n e.1) old new found journal q h.1)
asks_begins (Finds spot n) old new [] journal q h = absurd h
asks_begins (Finds spot n) old new (f ∷ found) journal q h = (h.0, h.1, asks_begins (n f) old new found journal q h.2)
asks_begins (Leaves v p) old new found journal q h = inr (asks_begins p (leave old v) new found journal q h)

-- and an entry of this question goes on
pub entry_begins : {R : Type 0} (p : KeptInquiry R) (old new : Option States) (found : List Value) (journal : List Pair) (e : Pair) → Asks p old found journal e.0 new →
    (newer : Option States) × Begins p old found (journal ++ e ∷ []) newer
entry_begins (Gives r) old new found journal e h = absurd h
entry_begins (Puts q n) old new [] [] e h = (old, (sym h.0, begins_here (n e.1) old))
entry_begins (Puts q n) old new (f ∷ found) [] e h = absurd h
entry_begins (Puts q n) old new found (d ∷ journal) e h = let r = entry_begins (n d.1) old new found journal e h.1 in (r.0, (h.0, r.1))
entry_begins (Finds spot n) old new [] journal e h = absurd h
entry_begins (Finds spot n) old new (f ∷ found) [] e h = let r = entry_begins (n f) old new found [] e h.2 in (r.0, (h.0, h.1, r.1))
entry_begins (Finds spot n) old new (f ∷ found) (d ∷ journal) e h = let r = entry_begins (n f) old new found (d ∷ journal) e h.2 in (r.0, (h.0, h.1, r.1))
entry_begins (Leaves v p) old new found journal e h = let r = entry_begins p (leave old v) new found journal e h in (r.0, inr r.1)

-- a journal and what goes on behind it have answers that agree
pub alike_front : (part left : List Pair) → AnswerAlike (part ++ left) part
alike_front [] [] = tt
alike_front [] (e ∷ left) = tt
alike_front (e ∷ part) left = λ asks. (refl, alike_front part left)

pub nothing_behind : (part left rest : List Pair) → part ≡ (part ++ left) ++ rest → left ≡ []
nothing_behind [] [] rest h = refl
nothing_behind [] (e ∷ left) rest h = cc
nothing_behind (d ∷ part) left rest h = nothing_behind part left rest (tail_is h)
  where
    tail_is : {A : Type 0} {x y : A} {xs ys : List A} → x ∷ xs ≡ y ∷ ys → xs ≡ ys
    tail_is e = cc

-- a tree that waits behind one journal found the same values, and left the same
pub one_wait : {R : Type 0} (p : KeptInquiry R) (old : States) (found more : List Value) (journal : List Pair) (q r : Question) (new newer : Option States) →
    Asks p (Some old) found journal q new → Asks p (Some old) more journal r newer → (found ≡ more) × (new ≡ newer)
one_wait (Gives x) old found more journal q r new newer h k = absurd h
one_wait (Puts s n) old [] [] [] q r new newer h k = (refl, sym h.1 ∙ k.1)
one_wait (Puts s n) old [] (g ∷ more) [] q r new newer h k = absurd k
one_wait (Puts s n) old (f ∷ found) more [] q r new newer h k = absurd h
one_wait (Puts s n) old found more (e ∷ journal) q r new newer h k = one_wait (n e.1) old found more journal q r new newer h.1 k.1
one_wait (Finds spot n) old [] more journal q r new newer h k = absurd h
one_wait (Finds spot n) old (f ∷ found) [] journal q r new newer h k = absurd k
one_wait (Finds spot n) old (f ∷ found) (g ∷ more) journal q r new newer h k =
    let same = same_found old spot f g h.0 h.1 k.0 k.1 in
    let rest = one_wait (n f) old found more journal q r new newer h.2 (subst (λ v. Asks (n v) (Some old) more journal r newer) (sym same) k.2) in
    (same_first f g found more same rest.0, rest.1)
one_wait (Leaves v p) old found more journal q r new newer h k = one_wait p (with_value old v) found more journal q r new newer h k

-- ---- receipts of which a part was handed out, and the rest is left

module _ {R : Type 0} (p : KeptInquiry R) (old : States) (asked part : List Pair) (first last : Replayed)
    (is : first ≡ record { handed = []; left = asked; unanswered = None }) (grows : last.handed ≡ first.handed ++ part) (made : all_entries last ≡ all_entries first)
    (begun : (found : List Value) × (new : Option States) × Begins p (Some old) found asked new) where
  asked_is : asked ≡ part ++ last.left
  asked_is = sym (made ∙ ap all_entries is) ∙ ap (λ t. t ++ last.left) (grows ∙ ap (λ (r : Replayed). r.handed ++ part) is)

  begun_there : Begins p (Some old) begun.0 (part ++ last.left) begun.1
  begun_there = subst (λ j. Begins p (Some old) begun.0 j begun.1) asked_is begun.2

  part_is : last.left ≡ [] → part ≡ asked
  part_is none = sym (asked_is ∙ ap (λ t. part ++ t) none ∙ append-nil part)

  -- a run is over all of them
  pub all_run : (found : List Value) (out : R) (new : Option States) → Runs p (Some old) found part out new → Runs p (Some old) found asked out new
  all_run found out new r =
      let on = begins_whole p old begun.0 found (part ++ last.left) part out begun.1 new begun_there r (alike_front part last.left) in
      subst (λ j. Runs p (Some old) found j out new) (part_is (nothing_behind part last.left on.asks.0 on.asks.1)) r

  none_left : (left : List Pair) (found : List Value) (q : Question) (new : Option States) → Begins p (Some old) begun.0 (part ++ left) begun.1 → Asks p (Some old) found part q new → IsLeftOpen left (Some q) → left ≡ []
  none_left [] found q new b a unmet = refl
  none_left (e ∷ left) found q new b a unmet = absurd (unmet (next_entry p old found begun.0 part e left q new begun.1 a b))

  -- and so is what waits for a question that the next entry does not have
  pub part_is_all : (found : List Value) (q : Question) (new : Option States) → Asks p (Some old) found part q new → last.unanswered ≡ Some q → IsLeftOpen last.left last.unanswered → part ≡ asked
  part_is_all found q new a shown unmet = part_is (none_left last.left found q new begun_there a (subst (IsLeftOpen last.left) shown unmet))

  pub all_asked : (found : List Value) (q : Question) (new : Option States) → Asks p (Some old) found part q new → last.unanswered ≡ Some q → IsLeftOpen last.left last.unanswered → Asks p (Some old) found asked q new
  all_asked found q new a shown unmet = subst (λ j. Asks p (Some old) found j q new) (part_is_all found q new a shown unmet) a
