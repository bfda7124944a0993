-- Members that were passed over, one after the other.
use Rattle.std.proofs.Common.{◌≡◌, ℕ, zero, suc, ◌<◌, ◌≤◌, List, [], ◌∷◌, ◌++◌, Some, Result, inl, inr, get_or, set, length, refl, sym, ap, ◌∙◌, subst, append_assoc, append-nil, arith}
use Rattle.cfg_types.specs.declared.errors.ProviderAttempt.{ProviderAttempt}
use Rattle.cfg_world.specs.Fits.{Pair}
use Rattle.cfg_kept.specs.KeptInquiry.{KeptInquiry}
use Rattle.cfg_meta.specs.AnswerRules.{AnswerRules, passed_over, attempt_of}
use Rattle.cfg_meta.specs.MemberParts.{Keeping, IsMemberPart, GoesThrough}

module _ {M V E : Type 0} (rules : AnswerRules E) (name_of : M → List ℕ) (is_tree : M → KeptInquiry (Result V E) → Type 0) where
  abbrev Attempts : Type 0
  Attempts = List (ProviderAttempt E)

  -- So many members were passed over, each with its part, and these attempts tell of them.
  abbrev pub Passed : ℕ → List M → Attempts → List Keeping → List Keeping → List Pair → Attempts → Type 0
  Passed zero members attempts olds news part told = (part ≡ []) × (news ≡ olds) × (told ≡ attempts)
  Passed (suc i) (member ∷ members) attempts (old ∷ olds) (new ∷ news) part told =
      (first : List Pair) × (rest : List Pair) × (given : Result V E) × (e : E)
      × (part ≡ first ++ rest) × IsMemberPart (is_tree member) old new first given × (passed_over rules given ≡ Some e)
      × Passed i members (attempts ++ attempt_of (name_of member) e ∷ []) olds news rest told
  Passed (suc i) members attempts olds news part told = ⊥

  first_passed : (member : M) (members : List M) (attempts told : Attempts) (old k new : Keeping) (olds news : List Keeping) (part mine : List Pair) (given : Result V E) (e : E) →
      news ≡ old ∷ olds → part ≡ [] → told ≡ attempts →
      IsMemberPart (is_tree member) (get_or news 0 k) new mine given → passed_over rules given ≡ Some e →
      Passed 1 (member ∷ members) attempts (old ∷ olds) (set news 0 new) (part ++ mine) (told ++ attempt_of (name_of member) e ∷ [])
  first_passed member members attempts told old k new olds news part mine given e same none tells =
      subst (λ n. IsMemberPart (is_tree member) (get_or n 0 k) new mine given → passed_over rules given ≡ Some e → Passed 1 (member ∷ members) attempts (old ∷ olds) (set n 0 new) (part ++ mine) (told ++ attempt_of (name_of member) e ∷ []))
      (sym same)
      (λ is_mine is_passed. (mine, [], given, e, ap (λ t. t ++ mine) none ∙ sym (append-nil mine), is_mine, is_passed, (refl, refl, ap (λ t. t ++ attempt_of (name_of member) e ∷ []) tells)))

  -- one member more
  pub passed_more : (i : ℕ) (members : List M) (attempts told : Attempts) (olds news : List Keeping) (part mine : List Pair) (d : M) (k new : Keeping) (given : Result V E) (e : E) →
      Passed i members attempts olds news part told → i < length members → length olds ≡ length members →
      IsMemberPart (is_tree (get_or members i d)) (get_or news i k) new mine given → passed_over rules given ≡ Some e →
      Passed (suc i) members attempts olds (set news i new) (part ++ mine) (told ++ attempt_of (name_of (get_or members i d)) e ∷ [])
  passed_more zero (member ∷ members) attempts told (old ∷ olds) news part mine d k new given e h lt len is_mine is_passed =
      first_passed member members attempts told old k new olds news part mine given e h.1 h.0 h.2 is_mine is_passed
  passed_more zero (member ∷ members) attempts told [] news part mine d k new given e h lt len is_mine is_passed = absurd (omega arith)
  passed_more zero [] attempts told olds news part mine d k new given e h lt len is_mine is_passed = absurd (omega arith)
  passed_more (suc i) (member ∷ members) attempts told (old ∷ olds) (n ∷ news) part mine d k new given e h lt len is_mine is_passed = (
    h.0,
    h.1 ++ mine,
    h.2,
    h.3,
    ap (λ t. t ++ mine) h.4 ∙ append_assoc h.0 h.1 mine,
    h.5,
    h.6,
    passed_more i members (attempts ++ attempt_of (name_of member) h.3 ∷ []) told olds news h.1 mine d k new given e h.7 (omega arith) (omega arith) is_mine is_passed,
  )
  passed_more (suc i) [] attempts told olds news part mine d k new given e h lt len is_mine is_passed = absurd h
  passed_more (suc i) (member ∷ members) attempts told [] news part mine d k new given e h lt len is_mine is_passed = absurd h
  passed_more (suc i) (member ∷ members) attempts told (old ∷ olds) [] part mine d k new given e h lt len is_mine is_passed = absurd h

  module _ (at_member : M → Keeping → Keeping → List Pair → Type 0) (at_end : Attempts → Type 0) where
    abbrev Goes : List M → Attempts → List Keeping → List Keeping → List Pair → Type 0
    Goes members attempts olds news part = GoesThrough rules name_of is_tree at_member at_end members attempts olds news part

    -- all were passed over
    pub goes_to_end : (i : ℕ) (members : List M) (attempts told : Attempts) (olds news : List Keeping) (part : List Pair) →
        Passed i members attempts olds news part told → length members ≤ i → at_end told → Goes members attempts olds news part
    goes_to_end zero [] attempts told olds news part h le end = (h.0, h.1, subst at_end h.2 end)
    goes_to_end zero (member ∷ members) attempts told olds news part h le end = absurd (omega arith)
    goes_to_end (suc i) [] attempts told olds news part h le end = absurd h
    goes_to_end (suc i) (member ∷ members) attempts told [] news part h le end = absurd h
    goes_to_end (suc i) (member ∷ members) attempts told (old ∷ olds) [] part h le end = absurd h
    goes_to_end (suc i) (member ∷ members) attempts told (old ∷ olds) (new ∷ news) part h le end =
        inl (h.0, h.1, h.2, h.3, h.4, h.5, h.6, goes_to_end i members (attempts ++ attempt_of (name_of member) h.3 ∷ []) told olds news h.1 h.7 (omega arith) end)

    at_first : (member : M) (members : List M) (attempts : Attempts) (old k new : Keeping) (olds news : List Keeping) (part mine : List Pair) →
        news ≡ old ∷ olds → part ≡ [] → at_member member (get_or news 0 k) new mine → Goes (member ∷ members) attempts (old ∷ olds) (set news 0 new) (part ++ mine)
    at_first member members attempts old k new olds news part mine same none =
        subst (λ n. at_member member (get_or n 0 k) new mine → Goes (member ∷ members) attempts (old ∷ olds) (set n 0 new) (part ++ mine)) (sym same)
        (λ is_mine. inr (subst (λ p. at_member member old new (p ++ mine)) (sym none) is_mine, refl))

    -- the next one is the last
    pub goes_to_member : (i : ℕ) (members : List M) (attempts told : Attempts) (olds news : List Keeping) (part mine : List Pair) (d : M) (k new : Keeping) →
        Passed i members attempts olds news part told → i < length members → length olds ≡ length members →
        at_member (get_or members i d) (get_or news i k) new mine → Goes members attempts olds (set news i new) (part ++ mine)
    goes_to_member zero (member ∷ members) attempts told (old ∷ olds) news part mine d k new h lt len is_mine = at_first member members attempts old k new olds news part mine h.1 h.0 is_mine
    goes_to_member zero (member ∷ members) attempts told [] news part mine d k new h lt len is_mine = absurd (omega arith)
    goes_to_member zero [] attempts told olds news part mine d k new h lt len is_mine = absurd (omega arith)
    goes_to_member (suc i) (member ∷ members) attempts told (old ∷ olds) (n ∷ news) part mine d k new h lt len is_mine =
        inl (
          h.0,
          h.1 ++ mine,
          h.2,
          h.3,
          ap (λ t. t ++ mine) h.4 ∙ append_assoc h.0 h.1 mine,
          h.5,
          h.6,
          goes_to_member i members (attempts ++ attempt_of (name_of member) h.3 ∷ []) told olds news h.1 mine d k new h.7 (omega arith) (omega arith) is_mine,
        )
    goes_to_member (suc i) [] attempts told olds news part mine d k new h lt len is_mine = absurd h
    goes_to_member (suc i) (member ∷ members) attempts told [] news part mine d k new h lt len is_mine = absurd h
    goes_to_member (suc i) (member ∷ members) attempts told (old ∷ olds) [] part mine d k new h lt len is_mine = absurd h
