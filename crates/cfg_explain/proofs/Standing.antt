-- Where a tree stands behind a journal: it asks a question next, or has come to its end.
use Rattle.std.proofs.Common.{◌≡◌, inl, inr, List, [], ◌∷◌, ◌++◌, Option, Some, None, IfSome, refl, sym, ap, ◌∙◌, subst, append-nil, append_assoc}
use Rattle.cfg_world.specs.declared.ask.Question.{Question}
use Rattle.cfg_world.specs.Fits.{Pair}
use Rattle.cfg_world.specs.Agreeing.{AnswerAlike}
use Rattle.cfg_kept.specs.Kinds.{Value, States}
use Rattle.cfg_kept.specs.KeptInquiry.{KeptInquiry, Gives, Puts, Finds, Leaves, Runs, Begins, leave}
use Rattle.cfg_kept.specs.Beginnings.{IsWhole, IsNext}
use Rattle.cfg_kept.proofs.Beginnings.{one_beginning, begins_whole, one_next, next_no_end, next_entry}
use Rattle.cfg_kept.proofs.Told.{run_begins}
use Rattle.cfg_run.proofs.TreeSteps.{asks_begins}
use Rattle.cfg_explain.proofs.JournalSteps.{longer}

-- each entry of a run has the question that is next behind those before it
pub run_asks : {R : Type 0} (p : KeptInquiry R) (old new : Option States) (found : List Value) (journal : List Pair) (e : Pair) (rest : List Pair) (out : R) →
    Runs p old found (journal ++ e ∷ rest) out new → IsNext p old journal e.0
run_asks (Gives r) old new [] [] e rest out h = absurd h
run_asks (Gives r) old new [] (d ∷ journal) e rest out h = absurd h
run_asks (Gives r) old new (f ∷ found) journal e rest out h = absurd h
run_asks (Puts q n) old new found [] e rest out h = ([], old, (sym h.0, refl))
run_asks (Puts q n) old new found (d ∷ journal) e rest out h = let r = run_asks (n d.1) old new found journal e rest out h.1 in (r.0, r.1, (h.0, r.2))
run_asks (Finds spot n) old new [] journal e rest out h = absurd h
run_asks (Finds spot n) old new (f ∷ found) [] e rest out h = let r = run_asks (n f) old new found [] e rest out h.2 in (f ∷ r.0, r.1, (h.0, h.1, r.2))
run_asks (Finds spot n) old new (f ∷ found) (d ∷ journal) e rest out h = let r = run_asks (n f) old new found (d ∷ journal) e rest out h.2 in (f ∷ r.0, r.1, (h.0, h.1, r.2))
run_asks (Leaves v p) old new found journal e rest out h = run_asks p (leave old v) new found journal e rest out h

-- The tree asks this question next; or there is none, and it has come to its end.
abbrev pub StandsAt : {R : Type 0} → KeptInquiry R → States → List Pair → Option Question → Type 0
StandsAt p old journal (Some q) = IsNext p (Some old) journal q
StandsAt p old journal None = IsWhole p (Some old) journal

-- An entry behind the first journal, that the second has, has another question than the one that is next.
abbrev pub Departs : List Pair → List Pair → Option Question → Type 0
Departs one other next = (e : Pair) (rest : List Pair) → other ≡ one ++ e ∷ rest → IfSome next (λ q. e.0 ≡ q → ⊥)

module _ {R : Type 0} (p : KeptInquiry R) (old : States) where
  -- it has begun so
  stands_begins : (journal : List Pair) (next : Option Question) → StandsAt p old journal next → (found : List Value) × (new : Option States) × Begins p (Some old) found journal new
  stands_begins journal (Some q) s = (s.0, s.1, asks_begins p (Some old) s.1 s.0 journal q s.2)
  stands_begins journal None s = (s.0, s.2, run_begins p (Some old) s.2 s.0 journal s.1 s.3)

  -- a journal that goes on behind one at whose end the tree stands goes on by the question that is next
  goes_on : (one : List Pair) (e : Pair) (rest : List Pair) (next : Option Question) (found : List Value) (new : Option States) → StandsAt p old one next → Begins p (Some old) found (one ++ e ∷ rest) new →
      AnswerAlike (one ++ e ∷ rest) one → (q : Question) × (next ≡ Some q) × (e.0 ≡ q)
  goes_on one e rest (Some q) found new s b alike = (q, refl, next_entry p old s.0 found one e rest q s.1 new s.2 b)
  goes_on one e rest None found new s b alike =
      let g = begins_whole p old found s.0 (one ++ e ∷ rest) one s.1 new s.2 b s.3 alike in
      absurd (longer one e (rest ++ g.asks.0) (g.asks.1 ∙ append_assoc one (e ∷ rest) g.asks.0))

  -- what is next behind one journal is one
  one_state : (journal : List Pair) (next also : Option Question) → StandsAt p old journal next → StandsAt p old journal also → next ≡ also
  one_state journal (Some q) (Some r) s t = ap Some (one_next p old s.0 t.0 journal q r s.1 t.1 s.2 t.2)
  one_state journal (Some q) None s t = absurd (next_no_end p old s.0 t.0 journal q t.1 s.1 t.2 s.2 t.3)
  one_state journal None (Some r) s t = absurd (next_no_end p old t.0 s.0 journal r s.1 t.1 s.2 t.2 s.3)
  one_state journal None None s t = refl

  -- of a journal that goes on behind the other, where none may, nothing is left
  no_more : (one other rest : List Pair) (next also : Option Question) → StandsAt p old one next → StandsAt p old other also → AnswerAlike other one → Departs one other next → other ≡ one ++ rest → one ≡ other
  no_more one other [] next also s t alike departs is = sym (is ∙ append-nil one)
  no_more one other (e ∷ rest) next also s t alike departs is =
      let b = stands_begins other also t in
      let g = goes_on one e rest next b.0 b.1 s (subst (λ j. Begins p (Some old) b.0 j b.1) is b.2) (subst (λ j. AnswerAlike j one) is alike) in
      absurd (subst (λ n. IfSome n (λ q. e.0 ≡ q → ⊥)) g.1 (departs e rest is) g.2)

  -- the tree stands at one place, where neither journal goes on as the other does
  pub one_stand : (one other : List Pair) (next also : Option Question) → StandsAt p old one next → StandsAt p old other also → AnswerAlike one other → AnswerAlike other one →
      Departs one other next → Departs other one also → (one ≡ other) × (next ≡ also)
  one_stand one other next also s t alike back departs parts =
      let b = stands_begins one next s in
      let c = stands_begins other also t in
      let same : one ≡ other = elim (one_beginning p old b.0 c.0 one other b.1 c.1 b.2 c.2 alike) [
        | inl g ↦ no_more one other g.asks.0 next also s t back departs g.asks.1
        | inr g ↦ sym (no_more other one g.asks.0 also next t s alike parts g.asks.1)
      ] in
      (same, one_state one next also s (subst (λ j. StandsAt p old j also) (sym same) t))
