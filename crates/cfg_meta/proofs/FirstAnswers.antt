-- Which answer of which member is the chain's.
use Rattle.std.proofs.Common.{◌≡◌, ℕ, List, [], ◌∷◌, ◌++◌, ◌⊎◌, Bool, true, false, Some, None, Result, Ok, Err, inl, inr, map, refl, sym, ap, ◌∙◌, subst, append_assoc, append-nil}
use Rattle.std.specs.Prelude.{◌↔◌, if◌then◌else◌}
use Rattle.std.specs.List.{AllByRecursion}
use Rattle.cfg_types.specs.declared.errors.ProviderAttempt.{ProviderAttempt}
use Rattle.cfg_world.specs.Fits.{Pair}
use Rattle.cfg_kept.specs.KeptInquiry.{KeptInquiry}
use Rattle.cfg_meta.specs.AnswerRules.{AnswerRules, passed_over, attempt_of}
use Rattle.cfg_meta.specs.MemberParts.{Keeping, IsMemberPart, GoesThrough, AreMemberParts}
use Rattle.cfg_meta.specs.FirstAnswers.{Passed, members_in, olds_in, news_in, parts_in, told_of, WasPassed, IsFirstAnswer, IsNoneLoaded}

module _ {M V E : Type 0} (rules : AnswerRules E) (name_of : M → List ℕ) (is_tree : M → KeptInquiry (Result V E) → Type 0) where
  -- ---- an answer that is passed over

  same_error : (e f : E) (b : Bool) → (if b then Some e else None) ≡ Some f → (b ≡ true) × (e ≡ f)
  same_error e f true h = (refl, cc)
  same_error e f false h = cc

  passed_error : (given : Result V E) (e : E) → passed_over rules given ≡ Some e → (given ≡ Err e) × (rules.is_not_loaded e ≡ true)
  passed_error (Ok value) e h = cc
  passed_error (Err f) e h = let p = same_error f e (rules.is_not_loaded f) h in (ap Err p.1, ap rules.is_not_loaded (sym p.1) ∙ p.0)

  error_passed : (e : E) → rules.is_not_loaded e ≡ true → passed_over {V = V} rules (Err e) ≡ Some e
  error_passed e h = ap (λ b. if b then Some e else None) h

  -- ---- from the parts

  abbrev Goes : Result V E → List M → List (ProviderAttempt E) → List Keeping → List Keeping → List Pair → Type 0
  Goes out members attempts olds news part =
      GoesThrough rules name_of is_tree (λ member old new mine. IsMemberPart (is_tree member) old new mine out × (passed_over rules out ≡ None)) (λ told. out ≡ Err (rules.none_loaded told)) members attempts olds news part

  -- Each member was passed over, behind these attempts.
  record NoneBehind (attempts : List (ProviderAttempt E)) (members : List M) (olds news : List Keeping) (part : List Pair) (out : Result V E) : Type 0 where
    all : List (Passed M E)
    others : List Keeping
    order : members ≡ members_in all
    passed : AllByRecursion (WasPassed rules name_of is_tree) all
    keeps : olds ≡ olds_in all ++ others
    leaves : news ≡ news_in all ++ others
    asks : part ≡ parts_in all
    tells : out ≡ Err (rules.none_loaded (attempts ++ map (told_of name_of) all))

  -- one part before others, and what is behind them
  joined : (whole first rest parts behind : List Pair) → whole ≡ first ++ rest → rest ≡ parts ++ behind → whole ≡ (first ++ parts) ++ behind
  joined whole first rest parts behind h r = h ∙ ap (λ x. first ++ x) r ∙ sym (append_assoc first parts behind)

  first_behind : (members : List M) (attempts : List (ProviderAttempt E)) (olds news : List Keeping) (part : List Pair) (out : Result V E) →
      Goes out members attempts olds news part → IsFirstAnswer rules name_of is_tree members olds news part out ⊎ NoneBehind attempts members olds news part out
  first_behind [] attempts olds news part out h =
      inr (record { all = []; others = olds; order = refl; passed = tt; keeps = refl; leaves = h.1; asks = h.0; tells = h.2 ∙ ap (λ t. Err (rules.none_loaded t)) (sym (append-nil attempts)) })
  first_behind (member ∷ members) attempts [] news part out h = absurd h
  first_behind (member ∷ members) attempts (old ∷ olds) [] part out h = absurd h
  first_behind (member ∷ members) attempts (old ∷ olds) (new ∷ news) part out (inl h) =
      let e = h.3 in
      let is = passed_error h.2 e h.6 in
      let first : Passed M E = record { who = member; old = old; new = new; part = h.0; error = e } in
      let was : WasPassed rules name_of is_tree first = record { gave = subst (λ g. IsMemberPart (is_tree member) old new h.0 g) is.0 h.5; not_loaded = is.1 } in
      elim (first_behind members (attempts ++ attempt_of (name_of member) e ∷ []) olds news h.1 out h.7) [
        | inl r ↦
            inl (record {
              before = first ∷ r.before;
              who = r.who;
              old = r.old;
              new = r.new;
              answered = r.answered;
              not_asked = r.not_asked;
              others = r.others;
              order = ap (λ t. member ∷ t) r.order;
              passed = (was, r.passed);
              gave = r.gave;
              stays = r.stays;
              keeps = ap (λ t. old ∷ t) r.keeps;
              leaves = ap (λ t. new ∷ t) r.leaves;
              asks = joined part h.0 h.1 (parts_in r.before) r.answered h.4 r.asks;
            })
        | inr r ↦
            inr (record {
              all = first ∷ r.all;
              others = r.others;
              order = ap (λ t. member ∷ t) r.order;
              passed = (was, r.passed);
              keeps = ap (λ t. old ∷ t) r.keeps;
              leaves = ap (λ t. new ∷ t) r.leaves;
              asks = h.4 ∙ ap (λ x. h.0 ++ x) r.asks;
              tells = r.tells ∙ ap (λ t. Err (rules.none_loaded t)) (append_assoc attempts (attempt_of (name_of member) e ∷ []) (map (told_of name_of) r.all));
            })
      ]
  first_behind (member ∷ members) attempts (old ∷ olds) (new ∷ news) part out (inr h) =
      inl (record {
        before = [];
        who = member;
        old = old;
        new = new;
        answered = part;
        not_asked = members;
        others = olds;
        order = refl;
        passed = tt;
        gave = h.0.0;
        stays = h.0.1;
        keeps = refl;
        leaves = ap (λ t. new ∷ t) h.1;
        asks = refl;
      })

  answered : (members : List M) (olds news : List Keeping) (part : List Pair) (out : Result V E) → AreMemberParts rules name_of is_tree members olds news part out →
      IsFirstAnswer rules name_of is_tree members olds news part out ⊎ IsNoneLoaded rules name_of is_tree members olds news part out
  answered members olds news part out h = elim (first_behind members [] olds news part out h) [
    | inl r ↦ inl r
    | inr r ↦ inr (record { all = r.all; others = r.others; order = r.order; passed = r.passed; keeps = r.keeps; leaves = r.leaves; asks = r.asks; tells = r.tells })
  ]

  -- ---- to the parts

  goes_to_answer : (before : List (Passed M E)) (attempts : List (ProviderAttempt E)) (who : M) (not_asked : List M) (old new : Keeping) (others : List Keeping) (own : List Pair) (out : Result V E) →
      AllByRecursion (WasPassed rules name_of is_tree) before → IsMemberPart (is_tree who) old new own out → passed_over rules out ≡ None →
      Goes out (members_in before ++ who ∷ not_asked) attempts (olds_in before ++ old ∷ others) (news_in before ++ new ∷ others) (parts_in before ++ own)
  goes_to_answer [] attempts who not_asked old new others own out passed gave stays = inr ((gave, stays), refl)
  goes_to_answer (p ∷ before) attempts who not_asked old new others own out passed gave stays =
      inl (
        p.part,
        parts_in before ++ own,
        Err p.error,
        p.error,
        append_assoc p.part (parts_in before) own,
        passed.0.gave,
        error_passed p.error passed.0.not_loaded,
        goes_to_answer before (attempts ++ attempt_of (name_of p.who) p.error ∷ []) who not_asked old new others own out passed.1 gave stays,
      )

  goes_to_none : (all : List (Passed M E)) (attempts : List (ProviderAttempt E)) (others : List Keeping) (out : Result V E) →
      AllByRecursion (WasPassed rules name_of is_tree) all → out ≡ Err (rules.none_loaded (attempts ++ map (told_of name_of) all)) →
      Goes out (members_in all) attempts (olds_in all ++ others) (news_in all ++ others) (parts_in all)
  goes_to_none [] attempts others out passed tells = (refl, refl, tells ∙ ap (λ t. Err (rules.none_loaded t)) (append-nil attempts))
  goes_to_none (p ∷ all) attempts others out passed tells =
      inl (
        p.part,
        parts_in all,
        Err p.error,
        p.error,
        refl,
        passed.0.gave,
        error_passed p.error passed.0.not_loaded,
        goes_to_none all (attempts ++ attempt_of (name_of p.who) p.error ∷ []) others out passed.1
            (tells ∙ ap (λ t. Err (rules.none_loaded t)) (sym (append_assoc attempts (attempt_of (name_of p.who) p.error ∷ []) (map (told_of name_of) all)))),
      )

  -- over lists that are these
  over_lists : (out : Result V E) (members them : List M) (olds before news after : List Keeping) (part mine : List Pair) → members ≡ them → olds ≡ before → news ≡ after → part ≡ mine →
      AreMemberParts rules name_of is_tree them before after mine out → AreMemberParts rules name_of is_tree members olds news part out
  over_lists out members them olds before news after part mine m o n p h =
      subst (λ l. AreMemberParts rules name_of is_tree l olds news part out) (sym m)
      (subst (λ l. AreMemberParts rules name_of is_tree them l news part out) (sym o)
      (subst (λ l. AreMemberParts rules name_of is_tree them before l part out) (sym n) (subst (λ l. AreMemberParts rules name_of is_tree them before after l out) (sym p) h)))

  told_parts : (members : List M) (olds news : List Keeping) (part : List Pair) (out : Result V E) →
      IsFirstAnswer rules name_of is_tree members olds news part out ⊎ IsNoneLoaded rules name_of is_tree members olds news part out → AreMemberParts rules name_of is_tree members olds news part out
  told_parts members olds news part out (inl r) =
      over_lists out members (members_in r.before ++ r.who ∷ r.not_asked) olds (olds_in r.before ++ r.old ∷ r.others) news (news_in r.before ++ r.new ∷ r.others) part (parts_in r.before ++ r.answered)
      r.order r.keeps r.leaves r.asks (goes_to_answer r.before [] r.who r.not_asked r.old r.new r.others r.answered out r.passed r.gave r.stays)
  told_parts members olds news part out (inr r) =
      over_lists out members (members_in r.all) olds (olds_in r.all ++ r.others) news (news_in r.all ++ r.others) part (parts_in r.all) r.order r.keeps r.leaves r.asks (goes_to_none r.all [] r.others out r.passed r.tells)

  pub first_answer : (members : List M) (olds news : List Keeping) (part : List Pair) (out : Result V E) →
      AreMemberParts rules name_of is_tree members olds news part out ↔ (IsFirstAnswer rules name_of is_tree members olds news part out ⊎ IsNoneLoaded rules name_of is_tree members olds news part out)
  first_answer members olds news part out = (answered members olds news part out, told_parts members olds news part out)
