-- Members that have begun are a prefix of each whole call of them whose answers agree.
use Rattle.std.proofs.Common.{◌≡◌, ℕ, List, [], ◌∷◌, ◌++◌, Option, Some, None, Result, inl, inr, refl, sym, ap, ◌∙◌, subst, append_assoc}
use Rattle.cfg_types.specs.declared.errors.ProviderAttempt.{ProviderAttempt}
use Rattle.cfg_world.specs.Agreeing.{AnswerAlike}
use Rattle.cfg_world.specs.Beginnings.{IsPrefix}
use Rattle.cfg_world.specs.Fits.{Pair}
use Rattle.cfg_kept.specs.KeptInquiry.{KeptInquiry, Runs, found_by, kept_after}
use Rattle.cfg_kept.proofs.Agreeing.{one_run}
use Rattle.cfg_kept.proofs.Beginnings.{begins_whole}
use Rattle.cfg_kept.proofs.Told.{told_back}
use Rattle.cfg_meta.specs.AnswerRules.{AnswerRules, passed_over, attempt_of}
use Rattle.cfg_meta.specs.MemberParts.{Keeping, IsMemberPart, HasBegun, GoesThrough}

-- ---- journals whose answers agree

-- so do those of their first parts
alike_first : (one rest other : List Pair) → AnswerAlike (one ++ rest) other → AnswerAlike one other
alike_first [] rest other a = tt
alike_first (e ∷ one) rest [] a = tt
alike_first (e ∷ one) rest (f ∷ other) a = λ same. ((a same).0, alike_first one rest other (a same).1)

alike_with_first : (one other rest : List Pair) → AnswerAlike one (other ++ rest) → AnswerAlike one other
alike_with_first [] other rest a = tt
alike_with_first (e ∷ one) [] rest a = tt
alike_with_first (e ∷ one) (f ∷ other) rest a = λ same. ((a same).0, alike_with_first one other rest (a same).1)

-- and of what stands behind one first part
alike_behind : (first rest others : List Pair) → AnswerAlike (first ++ rest) (first ++ others) → AnswerAlike rest others
alike_behind [] rest others a = a
alike_behind (e ∷ first) rest others a = alike_behind first rest others (a refl).1

-- ---- prefixes

nothing_prefix : (one other : List Pair) → one ≡ [] → IsPrefix one other
nothing_prefix one other none = (other, ap (λ t. t ++ other) (sym none))

prefix_of_first : (one first rest whole : List Pair) → whole ≡ first ++ rest → IsPrefix one first → IsPrefix one whole
prefix_of_first one first rest whole parts p = (p.0 ++ rest, parts ∙ ap (λ t. t ++ rest) p.1 ∙ append_assoc one p.0 rest)

prefix_behind : (one other first former rest others : List Pair) → one ≡ first ++ rest → other ≡ former ++ others → first ≡ former → IsPrefix rest others → IsPrefix one other
prefix_behind one other first former rest others p q same r =
    (r.0, q ∙ ap (λ t. t ++ others) (sym same) ∙ ap (λ t. first ++ t) r.1 ∙ sym (append_assoc first rest r.0) ∙ ap (λ t. t ++ r.0) (sym p))

-- ---- one member

module _ {R : Type 0} (is_tree : KeptInquiry R → Type 0) (one_tree : (s t : KeptInquiry R) → is_tree s → is_tree t → s ≡ t) (old new newer : Keeping) where
  runs_part : (later : Keeping) (part : List Pair) (x : R) (m : IsMemberPart is_tree old later part x) (tree : KeptInquiry R) → is_tree tree →
      Runs tree (Some old.states) (found_by tree old.states part) part x (Some (kept_after tree old.states part))
  runs_part later part x m tree is =
      subst (λ t. Runs t (Some old.states) (found_by t old.states part) part x (Some (kept_after t old.states part))) (one_tree m.tree tree m.is_its is)
      (told_back m.tree old.states (Some (kept_after m.tree old.states part)) (found_by m.tree old.states part) part x (refl, refl, m.reads))

  same_part : (part longer : List Pair) (x y : R) → IsMemberPart is_tree old new part x → IsMemberPart is_tree old newer longer y → AnswerAlike part longer → (part ≡ longer) × (x ≡ y)
  same_part part longer x y h k a =
      let r = one_run h.tree old.states (found_by h.tree old.states part) (found_by h.tree old.states longer) part longer x y (Some (kept_after h.tree old.states part)) (Some (kept_after h.tree old.states longer))
      (runs_part new part x h h.tree h.is_its) (runs_part newer longer y k h.tree h.is_its) a in
      (r.0, r.2)

  begun_part : (part longer : List Pair) (y : R) → HasBegun is_tree old new part → IsMemberPart is_tree old newer longer y → AnswerAlike part longer → IsPrefix part longer
  begun_part part longer y (inl b) k a =
      (begins_whole b.tree old.states b.found (found_by b.tree old.states longer) part longer y (Some new.states) (Some (kept_after b.tree old.states longer)) b.begins (runs_part newer longer y k b.tree b.is_its) a).asks
  begun_part part longer y (inr u) k a = nothing_prefix part longer u.0

-- ---- all members

not_both : {E : Type 0} (o u : Option E) (e : E) → o ≡ Some e → u ≡ None → o ≡ u → ⊥
not_both o u e some none same = absurd cc

alike_parts : (one other first former : List Pair) → one ≡ first → other ≡ former → AnswerAlike one other → AnswerAlike first former
alike_parts one other first former p q a = subst (λ t. AnswerAlike first t) q (subst (λ t. AnswerAlike t other) p a)

module _ {M V E : Type 0} (rules : AnswerRules E) (name_of : M → List ℕ) (is_tree : M → KeptInquiry (Result V E) → Type 0) (one_tree : (m : M) (s t : KeptInquiry (Result V E)) → is_tree m s → is_tree m t → s ≡ t) where
  pub begun_prefix : (members : List M) (attempts told : List (ProviderAttempt E)) (at_end : List (ProviderAttempt E) → Type 0) (olds news newer : List Keeping) (one other : List Pair) (y : Result V E) →
      GoesThrough rules name_of is_tree (λ member old new mine. HasBegun (is_tree member) old new mine) (λ _. Unit {0}) members attempts olds news one →
      GoesThrough rules name_of is_tree (λ member old new mine. IsMemberPart (is_tree member) old new mine y × (passed_over rules y ≡ None)) at_end members told olds newer other →
      AnswerAlike one other → IsPrefix one other
  begun_prefix [] attempts told at_end olds news newer one other y h k a = nothing_prefix one other h.0
  begun_prefix (m ∷ members) attempts told at_end [] news newer one other y h k a = absurd h
  begun_prefix (m ∷ members) attempts told at_end (old ∷ olds) [] newer one other y h k a = absurd h
  begun_prefix (m ∷ members) attempts told at_end (old ∷ olds) (new ∷ news) [] one other y h k a = absurd k
  begun_prefix (m ∷ members) attempts told at_end (old ∷ olds) (new ∷ news) (n ∷ newer) one other y (inl h) (inl k) a =
      let both = alike_parts one other (h.0 ++ h.1) (k.0 ++ k.1) h.4 k.4 a in
      let same = same_part (is_tree m) (one_tree m) old new n h.0 k.0 h.2 k.2 h.5 k.5 (alike_with_first h.0 k.0 k.1 (alike_first h.0 h.1 (k.0 ++ k.1) both)) in
      let rest = alike_behind h.0 h.1 k.1 (subst (λ t. AnswerAlike (h.0 ++ h.1) (t ++ k.1)) (sym same.0) both) in
      prefix_behind one other h.0 k.0 h.1 k.1 h.4 k.4 same.0 (begun_prefix members (attempts ++ attempt_of (name_of m) h.3 ∷ []) (told ++ attempt_of (name_of m) k.3 ∷ []) at_end olds news newer h.1 k.1 y h.7 k.7 rest)
  begun_prefix (m ∷ members) attempts told at_end (old ∷ olds) (new ∷ news) (n ∷ newer) one other y (inl h) (inr k) a =
      let same = same_part (is_tree m) (one_tree m) old new n h.0 other h.2 y h.5 k.0.0 (alike_first h.0 h.1 other (alike_parts one other (h.0 ++ h.1) other h.4 refl a)) in
      absurd (not_both (passed_over rules h.2) (passed_over rules y) h.3 h.6 k.0.1 (ap (λ g. passed_over rules g) same.1))
  begun_prefix (m ∷ members) attempts told at_end (old ∷ olds) (new ∷ news) (n ∷ newer) one other y (inr h) (inl k) a =
      prefix_of_first one k.0 k.1 other k.4 (begun_part (is_tree m) (one_tree m) old new n one k.0 k.2 h.0 k.5 (alike_with_first one k.0 k.1 (alike_parts one other one (k.0 ++ k.1) refl k.4 a)))
  begun_prefix (m ∷ members) attempts told at_end (old ∷ olds) (new ∷ news) (n ∷ newer) one other y (inr h) (inr k) a =
      begun_part (is_tree m) (one_tree m) old new n one other y h.0 k.0.0 a
