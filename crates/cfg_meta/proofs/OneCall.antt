-- Members over answers that agree, from what is kept of them, have one journal and come to one outcome.
use Rattle.std.proofs.Common.{◌≡◌, ℕ, List, [], ◌∷◌, ◌++◌, Option, Some, None, Result, Err, inl, inr, refl, sym, ap, ◌∙◌, subst, append-nil}
use Rattle.cfg_types.specs.declared.errors.ProviderAttempt.{ProviderAttempt}
use Rattle.cfg_world.specs.Agreeing.{AnswerAlike}
use Rattle.cfg_world.specs.Fits.{Pair}
use Rattle.cfg_world.proofs.Agreeing.{same_entry}
use Rattle.cfg_kept.specs.Kinds.{Value, States, with_value}
use Rattle.cfg_kept.specs.KeptInquiry.{KeptInquiry, Gives, Puts, Finds, Leaves, Runs, found_by, kept_after}
use Rattle.cfg_kept.proofs.Agreeing.{same_found, same_first}
use Rattle.cfg_kept.proofs.Told.{told_back}
use Rattle.cfg_meta.specs.AnswerRules.{AnswerRules, passed_over, attempt_of}
use Rattle.cfg_meta.specs.MemberParts.{Keeping, IsMemberPart, GoesThrough, AreMemberParts}
use Rattle.cfg_meta.proofs.MemberSteps.{some_is}

-- of two runs of one tree, with more behind each
one_part : {R : Type 0} (p : KeptInquiry R) (old : States) (found more : List Value) (journal longer rest others : List Pair) (x y : R) (new newer : Option States) →
    Runs p (Some old) found journal x new → Runs p (Some old) more longer y newer → AnswerAlike (journal ++ rest) (longer ++ others) → (journal ≡ longer) × (found ≡ more) × (x ≡ y) × (new ≡ newer) × AnswerAlike rest others
one_part (Gives r) old [] [] [] [] rest others x y new newer h k a = (refl, refl, sym h.0 ∙ k.0, sym h.1 ∙ k.1, a)
one_part (Gives r) old [] [] [] (d ∷ longer) rest others x y new newer h k a = absurd k
one_part (Gives r) old [] [] (e ∷ journal) longer rest others x y new newer h k a = absurd h
one_part (Gives r) old [] (g ∷ more) journal longer rest others x y new newer h k a = absurd k
one_part (Gives r) old (f ∷ found) more journal longer rest others x y new newer h k a = absurd h
one_part (Puts q n) old found more [] longer rest others x y new newer h k a = absurd h
one_part (Puts q n) old found more (e ∷ journal) [] rest others x y new newer h k a = absurd k
one_part (Puts q n) old found more (e ∷ journal) (d ∷ longer) rest others x y new newer h k a =
    let asks = h.0 ∙ sym k.0 in
    let alike = a asks in
    let r = one_part (n e.1) old found more journal longer rest others x y new newer h.1 (subst (λ b. Runs (n b) (Some old) more longer y newer) (sym alike.0) k.1) alike.1 in
    (same_first e d journal longer (same_entry e d asks alike.0) r.0, r.1, r.2, r.3, r.4)
one_part (Finds spot n) old [] more journal longer rest others x y new newer h k a = absurd h
one_part (Finds spot n) old (f ∷ found) [] journal longer rest others x y new newer h k a = absurd k
one_part (Finds spot n) old (f ∷ found) (g ∷ more) journal longer rest others x y new newer h k a =
    let same = same_found old spot f g h.0 h.1 k.0 k.1 in
    let r = one_part (n f) old found more journal longer rest others x y new newer h.2 (subst (λ v. Runs (n v) (Some old) more longer y newer) (sym same) k.2) a in
    (r.0, same_first f g found more same r.1, r.2, r.3, r.4)
one_part (Leaves v p) old found more journal longer rest others x y new newer h k a = one_part p (with_value old v) found more journal longer rest others x y new newer h k a

-- a part by this tree
record ByTree {R : Type 0} (tree : KeptInquiry R) (old new : Keeping) (part : List Pair) (given : R) : Type 0 where
  runs : Runs tree (Some old.states) (found_by tree old.states part) part given (Some (kept_after tree old.states part))
  finds : new.found ≡ old.found ++ found_by tree old.states part
  keeps : new.states ≡ kept_after tree old.states part

by_tree : {R : Type 0} {is_tree : KeptInquiry R → Type 0} {old new : Keeping} {part : List Pair} {given : R} (m : IsMemberPart is_tree old new part given) → ByTree m.tree old new part given
by_tree {old = old} {part = part} {given = given} m = record {
  runs = told_back m.tree old.states (Some (kept_after m.tree old.states part)) (found_by m.tree old.states part) part given (refl, refl, m.reads);
  finds = m.finds;
  keeps = m.keeps;
}

same_keeping : (one other : Keeping) → one.states ≡ other.states → one.found ≡ other.found → one ≡ other
same_keeping one other states found = λ i. record { states = states i; found = found i }

pub one_member : {R : Type 0} (is_tree : KeptInquiry R → Type 0) → ((s t : KeptInquiry R) → is_tree s → is_tree t → s ≡ t) →
    (old new newer : Keeping) (part longer rest others : List Pair) (x y : R) → IsMemberPart is_tree old new part x → IsMemberPart is_tree old newer longer y → AnswerAlike (part ++ rest) (longer ++ others) →
    (part ≡ longer) × (new ≡ newer) × (x ≡ y) × AnswerAlike rest others
one_member is_tree one_tree old new newer part longer rest others x y h k a =
    let p = by_tree h in
    let q = subst (λ t. ByTree t old newer longer y) (one_tree k.tree h.tree k.is_its h.is_its) (by_tree k) in
    let r = one_part h.tree old.states (found_by h.tree old.states part) (found_by h.tree old.states longer) part longer rest others x y (Some (kept_after h.tree old.states part)) (Some (kept_after h.tree old.states longer)) p.runs q.runs a in
    let states = p.keeps ∙ some_is (kept_after h.tree old.states part) (kept_after h.tree old.states longer) r.3 ∙ sym q.keeps in
    let found = p.finds ∙ ap (λ f. old.found ++ f) r.1 ∙ sym q.finds in
    (r.0, same_keeping new newer states found, r.2, r.4)

pub alike_parts : (one other first rest former others : List Pair) → one ≡ first ++ rest → other ≡ former ++ others → AnswerAlike one other → AnswerAlike (first ++ rest) (former ++ others)
alike_parts one other first rest former others p q a = subst (λ t. AnswerAlike (first ++ rest) t) q (subst (λ t. AnswerAlike t other) p a)

pub not_both : {E : Type 0} (o u : Option E) (e : E) → o ≡ Some e → u ≡ None → o ≡ u → ⊥
not_both o u e some none same = absurd cc

same_lists : (one other first former rest others : List Pair) → one ≡ first ++ rest → other ≡ former ++ others → first ≡ former → rest ≡ others → one ≡ other
same_lists one other first former rest others p q f r = p ∙ ap (λ t. first ++ t) r ∙ ap (λ t. t ++ others) f ∙ sym q

module _ {M V E : Type 0} (rules : AnswerRules E) (name_of : M → List ℕ) (is_tree : M → KeptInquiry (Result V E) → Type 0) (one_tree : (m : M) (s t : KeptInquiry (Result V E)) → is_tree m s → is_tree m t → s ≡ t) where
  abbrev Goes : Result V E → List M → List (ProviderAttempt E) → List Keeping → List Keeping → List Pair → Type 0
  Goes out members attempts olds news part =
      GoesThrough rules name_of is_tree (λ member old new mine. IsMemberPart (is_tree member) old new mine out × (passed_over rules out ≡ None)) (λ told. out ≡ Err (rules.none_loaded told)) members attempts olds news part

  one_through : (members : List M) (attempts : List (ProviderAttempt E)) (olds news newer : List Keeping) (one other : List Pair) (x y : Result V E) →
      Goes x members attempts olds news one → Goes y members attempts olds newer other → AnswerAlike one other → (one ≡ other) × (news ≡ newer) × (x ≡ y)
  one_through [] attempts olds news newer one other x y h k a = (h.0 ∙ sym k.0, h.1 ∙ sym k.1, h.2 ∙ sym k.2)
  one_through (m ∷ members) attempts [] news newer one other x y h k a = absurd h
  one_through (m ∷ members) attempts (old ∷ olds) [] newer one other x y h k a = absurd h
  one_through (m ∷ members) attempts (old ∷ olds) (new ∷ news) [] one other x y h k a = absurd k
  one_through (m ∷ members) attempts (old ∷ olds) (new ∷ news) (n ∷ newer) one other x y (inl h) (inl k) a =
      let r = one_member (is_tree m) (one_tree m) old new n h.0 k.0 h.1 k.1 h.2 k.2 h.5 k.5 (alike_parts one other h.0 h.1 k.0 k.1 h.4 k.4 a) in
      let error = some_is k.3 h.3 (sym k.6 ∙ ap (λ g. passed_over rules g) (sym r.2) ∙ h.6) in
      let rest = one_through members (attempts ++ attempt_of (name_of m) h.3 ∷ []) olds news newer h.1 k.1 x y h.7
      (subst (λ e. Goes y members (attempts ++ attempt_of (name_of m) e ∷ []) olds newer k.1) error k.7) r.3 in
      (same_lists one other h.0 k.0 h.1 k.1 h.4 k.4 r.0 rest.0, ap (λ t. new ∷ t) rest.1 ∙ ap (λ t. t ∷ newer) r.1, rest.2)
  one_through (m ∷ members) attempts (old ∷ olds) (new ∷ news) (n ∷ newer) one other x y (inl h) (inr k) a =
      let r = one_member (is_tree m) (one_tree m) old new n h.0 other h.1 [] h.2 y h.5 k.0.0 (alike_parts one other h.0 h.1 other [] h.4 (sym (append-nil other)) a) in
      absurd (not_both (passed_over rules h.2) (passed_over rules y) h.3 h.6 k.0.1 (ap (λ g. passed_over rules g) r.2))
  one_through (m ∷ members) attempts (old ∷ olds) (new ∷ news) (n ∷ newer) one other x y (inr h) (inl k) a =
      let r = one_member (is_tree m) (one_tree m) old new n one k.0 [] k.1 x k.2 h.0.0 k.5 (alike_parts one other one [] k.0 k.1 (sym (append-nil one)) k.4 a) in
      absurd (not_both (passed_over rules k.2) (passed_over rules x) k.3 k.6 h.0.1 (ap (λ g. passed_over rules g) (sym r.2)))
  one_through (m ∷ members) attempts (old ∷ olds) (new ∷ news) (n ∷ newer) one other x y (inr h) (inr k) a =
      let r = one_member (is_tree m) (one_tree m) old new n one other [] [] x y h.0.0 k.0.0 (alike_parts one other one [] other [] (sym (append-nil one)) (sym (append-nil other)) a) in
      (r.0, ap (λ t. t ∷ news) r.1 ∙ ap (λ t. n ∷ t) (h.1 ∙ sym k.1), r.2)

  pub one_call : (members : List M) (olds news newer : List Keeping) (one other : List Pair) (x y : Result V E) →
      AreMemberParts rules name_of is_tree members olds news one x → AreMemberParts rules name_of is_tree members olds newer other y → AnswerAlike one other → (one ≡ other) × (news ≡ newer) × (x ≡ y)
  one_call members olds news newer one other x y h k a = one_through members [] olds news newer one other x y h k a
