-- A prefix of a call's part is the whole of one, or one question is next behind it.
use Rattle.std.specs.Prelude.{◌⊎◌}
use Rattle.std.proofs.Common.{◌≡◌, ℕ, List, [], ◌∷◌, ◌++◌, Some, None, Result, Err, inl, inr, refl, sym, ap, ◌∙◌, subst, append-nil}
use Rattle.std.proofs.lemmas.List.{append_cancel_left}
use Rattle.cfg_types.specs.declared.errors.ProviderAttempt.{ProviderAttempt}
use Rattle.cfg_world.specs.declared.ask.Question.{Question}
use Rattle.cfg_world.specs.Agreeing.{AnswerAlike}
use Rattle.cfg_world.specs.Fits.{Pair}
use Rattle.cfg_kept.specs.Kinds.{Value, States, with_value}
use Rattle.cfg_kept.specs.KeptInquiry.{KeptInquiry, Gives, Puts, Finds, Leaves, Runs, Asks, found_by, kept_after}
use Rattle.cfg_kept.proofs.Agreeing.{same_found, same_first}
use Rattle.cfg_kept.proofs.Beginnings.{one_next}
use Rattle.cfg_kept.proofs.Told.{told_back}
use Rattle.cfg_meta.specs.AnswerRules.{AnswerRules, passed_over, attempt_of}
use Rattle.cfg_meta.specs.MemberParts.{Keeping, IsMemberPart, IsMemberQuestion, GoesThrough, AreMemberParts}
use Rattle.cfg_meta.specs.NextQuestions.{HasEnded, AsksOne}
use Rattle.cfg_meta.proofs.OneCall.{one_member, alike_parts, not_both}

head_is : {A : Type 0} {x y : A} {xs ys : List A} → x ∷ xs ≡ y ∷ ys → x ≡ y
head_is e = cc

tail_is : {A : Type 0} {x y : A} {xs ys : List A} → x ∷ xs ≡ y ∷ ys → xs ≡ ys
tail_is e = cc

no_entry : (e : Pair) (more : List Pair) → e ∷ more ≡ [] → ⊥
no_entry e more h = cc

nothing_before : (one rest : List Pair) → one ++ rest ≡ [] → one ≡ []
nothing_before [] rest h = refl
nothing_before (e ∷ one) rest h = absurd (no_entry e (one ++ rest) h)

alike_itself : (part : List Pair) → AnswerAlike part part
alike_itself [] = tt
alike_itself (e ∷ part) = λ asks. (refl, alike_itself part)

same_alike : (one other : List Pair) → one ≡ other → AnswerAlike one other
same_alike one other same = subst (AnswerAlike one) same (alike_itself one)

-- ---- one tree

-- A run over a journal asks the question of each entry behind those before it.
runs_asks : {R : Type 0} (p : KeptInquiry R) (old new : States) (found : List Value) (one : List Pair) (e : Pair) (more : List Pair) (out : R) →
    Runs p (Some old) found (one ++ e ∷ more) out (Some new) → (before : List Value) × (middle : States) × Asks p (Some old) before one e.0 (Some middle)
runs_asks (Gives r) old new [] [] e more out h = absurd h
runs_asks (Gives r) old new [] (d ∷ one) e more out h = absurd h
runs_asks (Gives r) old new (f ∷ found) one e more out h = absurd h
runs_asks (Puts q n) old new found [] e more out h = ([], old, (sym h.0, refl))
runs_asks (Puts q n) old new found (d ∷ one) e more out h = let r = runs_asks (n d.1) old new found one e more out h.1 in (r.0, r.1, (h.0, r.2))
runs_asks (Finds spot n) old new [] one e more out h = absurd h
runs_asks (Finds spot n) old new (f ∷ found) one e more out h = let r = runs_asks (n f) old new found one e more out h.2 in (f ∷ r.0, r.1, (h.0, h.1, r.2))
runs_asks (Leaves v p) old new found one e more out h = runs_asks p (with_value old v) new found one e more out h

-- A tree that came to its end over the first part of a journal asks nothing behind the whole.
asks_no_run : {R : Type 0} (p : KeptInquiry R) (old : States) (found more : List Value) (part rest : List Pair) (q : Question) (x : R) (new newer : States) →
    Asks p (Some old) found (part ++ rest) q (Some new) → Runs p (Some old) more part x (Some newer) → ⊥
asks_no_run (Gives r) old found more part rest q x new newer h k = absurd h
asks_no_run (Puts s n) old found more [] rest q x new newer h k = absurd k
asks_no_run (Puts s n) old found more (e ∷ part) rest q x new newer h k = asks_no_run (n e.1) old found more part rest q x new newer h.1 k.1
asks_no_run (Finds spot n) old [] more part rest q x new newer h k = absurd h
asks_no_run (Finds spot n) old (f ∷ found) [] part rest q x new newer h k = absurd k
asks_no_run (Finds spot n) old (f ∷ found) (g ∷ more) part rest q x new newer h k =
    asks_no_run (n f) old found more part rest q x new newer h.2 (subst (λ v. Runs (n v) (Some old) more part x (Some newer)) (sym (same_found old spot f g h.0 h.1 k.0 k.1)) k.2)
asks_no_run (Leaves v p) old found more part rest q x new newer h k = asks_no_run p (with_value old v) found more part rest q x new newer h k

-- ---- one member

part_runs : {R : Type 0} {is_tree : KeptInquiry R → Type 0} {old new : Keeping} {part : List Pair} {given : R} (m : IsMemberPart is_tree old new part given) →
    Runs m.tree (Some old.states) (found_by m.tree old.states part) part given (Some (kept_after m.tree old.states part))
part_runs {old = old} {part = part} {given = given} m = told_back m.tree old.states (Some (kept_after m.tree old.states part)) (found_by m.tree old.states part) part given (refl, refl, m.reads)

-- its part has a question next behind each of its beginnings
member_next : {R : Type 0} (is_tree : KeptInquiry R → Type 0) (old new : Keeping) (one : List Pair) (e : Pair) (more : List Pair) (given : R) →
    IsMemberPart is_tree old new (one ++ e ∷ more) given → (newer : Keeping) × IsMemberQuestion is_tree old newer one e.0
member_next is_tree old new one e more given m =
    let part = one ++ e ∷ more in
    let r = runs_asks m.tree old.states (kept_after m.tree old.states part) (found_by m.tree old.states part) one e more given (part_runs m) in
    (record { states = r.1; found = old.found ++ r.0 }, record { tree = m.tree; is_its = m.is_its; found = r.0; finds = refl; asks = r.2 })

-- of one list the beginning ends within the first part of another division, or behind it
divided : (one rest first then : List Pair) → one ++ rest ≡ first ++ then →
    ((more : List Pair) × (one ≡ first ++ more) × (then ≡ more ++ rest)) ⊎ ((e : Pair) × (more : List Pair) × (first ≡ one ++ e ∷ more))
divided one rest [] then h = inl (one, refl, sym h)
divided [] rest (e ∷ first) then h = inr (e, first, refl)
divided (d ∷ one) rest (e ∷ first) then h = elim (divided one rest first then (tail_is h)) [
  | inl r ↦ inl (r.0, same_first d e one (first ++ r.0) (head_is h) r.1, r.2)
  | inr r ↦ inr (r.0, r.1, same_first e d first (one ++ r.0 ∷ r.1) (sym (head_is h)) r.2)
]

-- ---- all members

module _ {M V E : Type 0} (rules : AnswerRules E) (name_of : M → List ℕ) (is_tree : M → KeptInquiry (Result V E) → Type 0) where
  abbrev Attempts : Type 0
  Attempts = List (ProviderAttempt E)

  abbrev Gave : Result V E → M → Keeping → Keeping → List Pair → Type 0
  Gave out member old new mine = IsMemberPart (is_tree member) old new mine out × (passed_over rules out ≡ None)

  abbrev Asked : Question → M → Keeping → Keeping → List Pair → Type 0
  Asked q member old new mine = IsMemberQuestion (is_tree member) old new mine q

  abbrev Ends : Result V E → List M → Attempts → List Keeping → List Keeping → List Pair → Type 0
  Ends out members attempts olds news part = GoesThrough rules name_of is_tree (Gave out) (λ told. out ≡ Err (rules.none_loaded told)) members attempts olds news part

  abbrev Next : Question → List M → Attempts → List Keeping → List Keeping → List Pair → Type 0
  Next q members attempts olds news part = GoesThrough rules name_of is_tree (Asked q) (λ told. ⊥) members attempts olds news part

  abbrev EndsOrNext : List M → Attempts → List Keeping → List Pair → Type 0
  EndsOrNext members attempts olds part =
      ((news : List Keeping) × (out : Result V E) × Ends out members attempts olds news part) ⊎ ((q : Question) × (news : List Keeping) × Next q members attempts olds news part)

  prefix_of : (members : List M) (attempts : Attempts) (olds news : List Keeping) (one rest : List Pair) (out : Result V E) → Ends out members attempts olds news (one ++ rest) → EndsOrNext members attempts olds one
  prefix_of [] attempts olds news one rest out h = inl (news, out, (nothing_before one rest h.0, h.1, h.2))
  prefix_of (m ∷ members) attempts [] news one rest out h = absurd h
  prefix_of (m ∷ members) attempts (old ∷ olds) [] one rest out h = absurd h
  prefix_of (m ∷ members) attempts (old ∷ olds) (new ∷ news) one rest out (inl h) =
      let more_attempts = attempts ++ attempt_of (name_of m) h.3 ∷ [] in
      elim (divided one rest h.0 h.1 h.4) [
        | inl r ↦ elim (prefix_of members more_attempts olds news r.0 rest out (subst (λ j. Ends out members more_attempts olds news j) r.2 h.7)) [
          | inl k ↦ inl (new ∷ k.0, k.1, inl (h.0, r.0, h.2, h.3, r.1, h.5, h.6, k.2))
          | inr k ↦ inr (k.0, new ∷ k.1, inl (h.0, r.0, h.2, h.3, r.1, h.5, h.6, k.2))
        ]
        | inr r ↦
            let n = member_next (is_tree m) old new one r.0 r.1 h.2 (subst (λ j. IsMemberPart (is_tree m) old new j h.2) r.2 h.5) in
            inr (r.0.0, n.0 ∷ olds, inr (n.1, refl))
      ]
  prefix_of (m ∷ members) attempts (old ∷ olds) (new ∷ news) one [] out (inr h) =
      inl (new ∷ news, out, inr ((subst (λ j. IsMemberPart (is_tree m) old new j out) (append-nil one) h.0.0, h.0.1), h.1))
  prefix_of (m ∷ members) attempts (old ∷ olds) (new ∷ news) one (e ∷ rest) out (inr h) =
      let n = member_next (is_tree m) old new one e rest out h.0.0 in inr (e.0, n.0 ∷ olds, inr (n.1, refl))

  module _ (one_tree : (m : M) (s t : KeptInquiry (Result V E)) → is_tree m s → is_tree m t → s ≡ t) where
    asks_no_part : (m : M) (old new newer : Keeping) (part first rest : List Pair) (q : Question) (given : Result V E) →
        IsMemberQuestion (is_tree m) old new part q → part ≡ first ++ rest → IsMemberPart (is_tree m) old newer first given → ⊥
    asks_no_part m old new newer part first rest q given a is b =
        asks_no_run b.tree old.states a.found (found_by b.tree old.states first) first rest q given new.states (kept_after b.tree old.states first)
        (subst (λ t. Asks t (Some old.states) a.found (first ++ rest) q (Some new.states)) (one_tree m a.tree b.tree a.is_its b.is_its) (subst (λ j. Asks a.tree (Some old.states) a.found j q (Some new.states)) is a.asks)) (part_runs b)

    -- Two ways through the members over one part, of which the first ends at a question, end at one member.
    module _ {T : Type 0} (q : Question) (at_member : M → Keeping → Keeping → List Pair → Type 0) (at_end : Attempts → Type 0)
        (no_part : (m : M) (old new newer : Keeping) (part first rest : List Pair) (given : Result V E) (e : E) →
        at_member m old new part → part ≡ first ++ rest → IsMemberPart (is_tree m) old newer first given → passed_over rules given ≡ Some e → ⊥)
        (both : (m : M) (old new newer : Keeping) (part : List Pair) → Asked q m old new part → at_member m old newer part → T) where
      meet : (members : List M) (attempts others : Attempts) (olds news newer : List Keeping) (part : List Pair) →
          Next q members attempts olds news part → GoesThrough rules name_of is_tree at_member at_end members others olds newer part → T
      meet [] attempts others olds news newer part h k = absurd h.2
      meet (m ∷ members) attempts others [] news newer part h k = absurd h
      meet (m ∷ members) attempts others (old ∷ olds) [] newer part h k = absurd h
      meet (m ∷ members) attempts others (old ∷ olds) (new ∷ news) [] part h k = absurd k
      meet (m ∷ members) attempts others (old ∷ olds) (new ∷ news) (n ∷ newer) part (inl h) (inl k) =
          let same = one_member (is_tree m) (one_tree m) old new n h.0 k.0 h.1 k.1 h.2 k.2 h.5 k.5 (alike_parts part part h.0 h.1 k.0 k.1 h.4 k.4 (alike_itself part)) in
          let rest : k.1 ≡ h.1 = append_cancel_left h.0 k.1 h.1 (ap (λ t. t ++ k.1) same.0 ∙ sym k.4 ∙ h.4) in
          meet members (attempts ++ attempt_of (name_of m) h.3 ∷ []) (others ++ attempt_of (name_of m) k.3 ∷ []) olds news newer h.1 h.7
          (subst (λ j. GoesThrough rules name_of is_tree at_member at_end members (others ++ attempt_of (name_of m) k.3 ∷ []) olds newer j) rest k.7)
      meet (m ∷ members) attempts others (old ∷ olds) (new ∷ news) (n ∷ newer) part (inl h) (inr k) = absurd (no_part m old n new part h.0 h.1 h.2 h.3 k.0 h.4 h.5 h.6)
      meet (m ∷ members) attempts others (old ∷ olds) (new ∷ news) (n ∷ newer) part (inr h) (inl k) = absurd (asks_no_part m old new n part k.0 k.1 q k.2 h.0 k.4 k.5)
      meet (m ∷ members) attempts others (old ∷ olds) (new ∷ news) (n ∷ newer) part (inr h) (inr k) = both m old new n part h.0 k.0

    one_asked : (q r : Question) (m : M) (old new newer : Keeping) (part : List Pair) → Asked q m old new part → Asked r m old newer part → q ≡ r
    one_asked q r m old new newer part a b =
        one_next a.tree old.states a.found b.found part q r (Some new.states) (Some newer.states) a.asks
        (subst (λ t. Asks t (Some old.states) b.found part r (Some newer.states)) (one_tree m b.tree a.tree b.is_its a.is_its) b.asks)

    gave_no_part : (out : Result V E) (m : M) (old new newer : Keeping) (part first rest : List Pair) (given : Result V E) (e : E) →
        Gave out m old new part → part ≡ first ++ rest → IsMemberPart (is_tree m) old newer first given → passed_over rules given ≡ Some e → ⊥
    gave_no_part out m old new newer part first rest given e a is b passed =
        let r = one_member (is_tree m) (one_tree m) old newer new first part rest [] given out b a.0 (alike_parts part part first rest part [] is (sym (append-nil part)) (alike_itself part)) in
        not_both (passed_over rules given) (passed_over rules out) e passed a.1 (ap (λ g. passed_over rules g) r.2)

    one_next_of : (members : List M) (olds news newer : List Keeping) (part : List Pair) (q r : Question) → Next q members [] olds news part → Next r members [] olds newer part → q ≡ r
    one_next_of members olds news newer part q r h k =
        meet q (Asked r) (λ told. ⊥) (λ m old new newer part first rest given e a is b passed. asks_no_part m old new newer part first rest r given a is b) (one_asked q r) members [] [] olds news newer part h k

    next_not_ended : (members : List M) (olds news newer : List Keeping) (part : List Pair) (q : Question) (out : Result V E) → Next q members [] olds news part → Ends out members [] olds newer part → ⊥
    next_not_ended members olds news newer part q out h k =
        meet q (Gave out) (λ told. out ≡ Err (rules.none_loaded told)) (gave_no_part out)
        (λ m old new newer part a b. asks_no_part m old new newer part part [] q out a (sym (append-nil part)) b.0) members [] [] olds news newer part h k

    pub one_question : (members : List M) (olds news : List Keeping) (one rest : List Pair) (out : Result V E) → AreMemberParts rules name_of is_tree members olds news (one ++ rest) out →
        HasEnded rules name_of is_tree members olds one ⊎ AsksOne rules name_of is_tree members olds one
    one_question members olds news one rest out h = elim (prefix_of members [] olds news one rest out h) [
      | inl r ↦ inl r
      | inr r ↦ inr (record {
        question = r.0;
        asked = (r.1, r.2);
        alone = λ other k. one_next_of members olds k.0 r.1 one other r.0 k.1 r.2;
        unfinished = λ k. next_not_ended members olds r.1 k.0 one r.0 k.1 r.2 k.2;
      })
    ]
