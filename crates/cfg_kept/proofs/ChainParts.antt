-- A chain's journal is its members' parts, in order.
use Rattle.std.proofs.Common.{◌≡◌, List, [], ◌∷◌, ◌++◌, Option, Some, None, Result, Err, inl, inr, refl, sym, ap, ◌∙◌, subst, append-nil}
use Rattle.cfg_types.specs.declared.errors.ProviderAttempt.{ProviderAttempt}
use Rattle.cfg_world.specs.Fits.{Pair}
use Rattle.cfg_kept.specs.Kinds.{Value, States}
use Rattle.cfg_kept.specs.KeptInquiry.{KeptInquiry, Gives, Reads, Runs, Begins}
use Rattle.cfg_kept.proofs.Trees.{runs_then, begins_then, begins_first}
use Rattle.cfg_kept.proofs.Splits.{split_onwards}
use Rattle.cfg_kept.proofs.Told.{run_begins}
use Rattle.cfg_kept.proofs.Beginnings.{begins_splits}
use Rattle.cfg_kept.specs.Chains.{Chain, passed, attempt, go_on, chain}
use Rattle.cfg_kept.specs.ChainParts.{MemberReads, AreParts, AreBegunParts}

module _ {M V E : Type 0} (c : Chain M V E) where
  abbrev Attempts : Type 0
  Attempts = List (ProviderAttempt E)

  abbrev then_others : List M → M → Attempts → Result V E → KeptInquiry (Result V E)
  then_others members member attempts out = go_on c (chain c members) member attempts out (passed c out)

  -- what follows the first member's part
  after_first : (member : M) (members : List M) (attempts : Attempts) (found found_first found_then : List Value) (journal part rest : List Pair) (middle out : Result V E) (o : Option E) →
      passed c middle ≡ o → found ≡ found_first ++ found_then → journal ≡ part ++ rest → Reads (c.tree member) found_first part middle →
      ((more : Attempts) → Reads (chain c members more) found_then rest out → AreParts c (MemberReads c) members more found_then rest out) →
      Reads (go_on c (chain c members) member attempts middle o) found_then rest out → AreParts c (MemberReads c) (member ∷ members) attempts found journal out
  after_first member members attempts found found_first found_then journal part rest middle out (Some e) is finds parts first others h =
      inl (found_first, found_then, part, rest, middle, e, finds, parts, first, is, others _ h)
  after_first member members attempts found found_first [] journal part [] middle out None is finds parts first others h =
      inr (
        subst (λ j. Reads (c.tree member) found j out) (sym (parts ∙ append-nil part))
            (subst (λ f. Reads (c.tree member) f part out) (sym (finds ∙ append-nil found_first))
            (subst (λ x. Reads (c.tree member) found_first part x) h.0 first)),
        ap (passed c) (sym h.0) ∙ is,
      )
  after_first member members attempts found found_first [] journal part (x ∷ rest) middle out None is finds parts first others h = absurd h
  after_first member members attempts found found_first (f ∷ found_then) journal part rest middle out None is finds parts first others h = absurd h

  pub chain_parts : (members : List M) (attempts : Attempts) (found : List Value) (journal : List Pair) (out : Result V E) →
      Reads (chain c members attempts) found journal out → AreParts c (MemberReads c) members attempts found journal out
  unfolding chain
  chain_parts [] attempts [] [] out h = (refl, refl, sym h.0)
  chain_parts [] attempts [] (x ∷ journal) out h = absurd h
  chain_parts [] attempts (f ∷ found) journal out h = absurd h
  chain_parts (member ∷ members) attempts found journal out h =
      let s = split_onwards (c.tree member) (then_others members member attempts) found journal out h in
      after_first member members attempts found s.found_first s.found_then journal s.part s.rest s.middle out (passed c s.middle) refl s.finds s.parts s.first (λ more. chain_parts members more s.found_then s.rest out) s.then

  -- and the other way
  pub parts_chain : (members : List M) (attempts : Attempts) (found : List Value) (journal : List Pair) (out : Result V E) →
      AreParts c (MemberReads c) members attempts found journal out → Reads (chain c members attempts) found journal out
  unfolding chain
  parts_chain [] attempts found journal out h =
      subst (λ f. Reads (Gives (Err (c.none_loaded attempts))) f journal out) (sym h.0)
      (subst (λ j. Reads (Gives (Err (c.none_loaded attempts))) [] j out) (sym h.1) (sym h.2, refl))
  parts_chain (member ∷ members) attempts found journal out (inl h) =
      subst (λ f. Reads (chain c (member ∷ members) attempts) f journal out) (sym h.6)
      (subst (λ j. Reads (chain c (member ∷ members) attempts) (h.0 ++ h.1) j out) (sym h.7)
      (runs_then (c.tree member) (then_others members member attempts) None None None h.0 h.1 h.2 h.3 h.4 out h.8
      (subst (λ o. Reads (go_on c (chain c members) member attempts h.4 o) h.1 h.3 out) (sym h.9) (parts_chain members (attempts ++ attempt c member h.5 ∷ []) h.1 h.3 out h.10))))
  parts_chain (member ∷ members) attempts found journal out (inr h) =
      subst (λ f. Reads (chain c (member ∷ members) attempts) f journal out) (append-nil found)
      (subst (λ j. Reads (chain c (member ∷ members) attempts) (found ++ []) j out) (append-nil journal)
      (runs_then (c.tree member) (then_others members member attempts) None None None found [] journal [] out out h.0
      (subst (λ o. Reads (go_on c (chain c members) member attempts out o) [] [] out) (sym h.1) (refl, refl))))

  -- a beginning behind a member that was read
  begun_behind : (member : M) (members : List M) (attempts : Attempts) (old middle new : Option States) (found found_first found_then : List Value) (journal part rest : List Pair) (given : Result V E) (o : Option E) →
      passed c given ≡ o → found ≡ found_first ++ found_then → journal ≡ part ++ rest → Runs (c.tree member) old found_first part given middle →
      ((more : Attempts) → Begins (chain c members more) middle found_then rest new → AreBegunParts c members middle found_then rest new) →
      Begins (go_on c (chain c members) member attempts given o) middle found_then rest new → AreBegunParts c (member ∷ members) old found journal new
  begun_behind member members attempts old middle new found found_first found_then journal part rest given (Some e) is finds parts first others h =
      inl (found_first, found_then, part, rest, middle, given, e, finds, parts, first, is, others _ h)
  begun_behind member members attempts old middle new found found_first [] journal part [] given None is finds parts first others h =
      inr (
      subst (λ j. Begins (c.tree member) old found j new) (sym (parts ∙ append-nil part))
      (subst (λ f. Begins (c.tree member) old f part new) (sym (finds ∙ append-nil found_first))
      (subst (λ k. Begins (c.tree member) old found_first part k) h (run_begins (c.tree member) old middle found_first part given first)))
      )
  begun_behind member members attempts old middle new found found_first [] journal part (x ∷ rest) given None is finds parts first others h = absurd h
  begun_behind member members attempts old middle new found found_first (f ∷ found_then) journal part rest given None is finds parts first others h = absurd h

  pub chain_begun : (members : List M) (attempts : Attempts) (old new : Option States) (found : List Value) (journal : List Pair) →
      Begins (chain c members attempts) old found journal new → AreBegunParts c members old found journal new
  unfolding chain
  chain_begun [] attempts old new [] [] h = (refl, refl, h)
  chain_begun [] attempts old new [] (x ∷ journal) h = absurd h
  chain_begun [] attempts old new (f ∷ found) journal h = absurd h
  chain_begun (member ∷ members) attempts old new found journal h =
      elim (begins_splits (c.tree member) (then_others members member attempts) old new found journal h) [
        | inl b ↦ inr b
        | inr s ↦ begun_behind member members attempts old s.middle new found s.found_before s.found_behind journal s.part s.rest s.outcome (passed c s.outcome) refl s.finds s.parts s.runs
            (λ more. chain_begun members more s.middle new s.found_behind s.rest) s.begins
      ]

  pub begun_chain : (members : List M) (attempts : Attempts) (old new : Option States) (found : List Value) (journal : List Pair) →
      AreBegunParts c members old found journal new → Begins (chain c members attempts) old found journal new
  unfolding chain
  begun_chain [] attempts old new found journal h =
      subst (λ f. Begins {R = Result V E} (Gives (Err (c.none_loaded attempts))) old f journal new) (sym h.0)
      (subst (λ j. Begins {R = Result V E} (Gives (Err (c.none_loaded attempts))) old [] j new) (sym h.1) h.2)
  begun_chain (member ∷ members) attempts old new found journal (inl h) =
      subst (λ f. Begins (chain c (member ∷ members) attempts) old f journal new) (sym h.7)
      (subst (λ j. Begins (chain c (member ∷ members) attempts) old (h.0 ++ h.1) j new) (sym h.8)
      (begins_then (c.tree member) (then_others members member attempts) old h.4 new h.0 h.1 h.2 h.3 h.5 h.9
      (subst (λ o. Begins (go_on c (chain c members) member attempts h.5 o) h.4 h.1 h.3 new) (sym h.10) (begun_chain members (attempts ++ attempt c member h.6 ∷ []) h.4 new h.1 h.3 h.11))))
  begun_chain (member ∷ members) attempts old new found journal (inr h) = begins_first (c.tree member) (then_others members member attempts) old new found journal h

  -- the same with more said of each part
  pub parts_more : {P Q : M → List Value → List Pair → Result V E → Type 0} →
      ((member : M) (found : List Value) (part : List Pair) (out : Result V E) → P member found part out → Q member found part out) →
      (members : List M) (attempts : Attempts) (found : List Value) (journal : List Pair) (out : Result V E) → AreParts c P members attempts found journal out → AreParts c Q members attempts found journal out
  parts_more more [] attempts found journal out h = h
  parts_more more (member ∷ members) attempts found journal out (inl h) =
      inl (h.0, h.1, h.2, h.3, h.4, h.5, h.6, h.7, more member h.0 h.2 h.4 h.8, h.9, parts_more more members (attempts ++ attempt c member h.5 ∷ []) h.1 h.3 out h.10)
  parts_more more (member ∷ members) attempts found journal out (inr h) = inr (more member found journal out h.0, h.1)
