-- What the readers of whole objects answer, by the grammar.
use Rattle.std.proofs.Common.{◌≡◌, ◌⊎◌, ℕ, ◌+◌, ◌-◌, inl, inr, List, [], ◌∷◌, ◌++◌, length, drop, Bool, true, false, cond, Option, Some, None, refl, sym, ap, subst, ◌∙◌, append_assoc, arith, length-append}
use Rattle.std.specs.Prelude.{◌==◌, Result, Ok, Err, IfOk}
use Rattle.std.proofs.lemmas.Bool.{eqb-false, ne_eqb, eqb-true}
use Rattle.std.proofs.lemmas.List.{append_cancel_right, drop_at, append-nil}
use Rattle.cfg_types.specs.declared.document.JsonError.{JsonError}
use Rattle.cfg_types.specs.declared.document.JsonError.TheVariants as json
use Rattle.cfg_json.specs.Ascii.{left_curly_bracket}
use Rattle.cfg_json.specs.WhiteSpace.{is_json_white_space, IsWhiteSpace}
use Rattle.cfg_json.specs.Reads.{Reads}
use Rattle.cfg_json.specs.Objects.{IsObject, HasObject}
use Rattle.cfg_json.specs.Reading.{after_white_space}
use Rattle.cfg_json.specs.ReadingObjects.{ReadMembers, Answer, answer_of, opened, object_at, object_answer}
use Rattle.cfg_json.specs.Answers.{Answers, MemberList, OpensObject, OpensOther, HasNoObject, OnlyWhiteSpaceFrom, only_white_space, only_from, only_answer, with_end, list_answer, only_list_answer}
use Rattle.cfg_json.specs.declared.member.Member.{Member}
use Rattle.cfg_json.proofs.Options.{given_is}
use Rattle.cfg_json.proofs.WhiteSpaceLaws.{NoWhiteSpace, white_space_again, WhiteSpace, white_space_takes}
use Rattle.cfg_json.proofs.ObjectsAgain.{object_again, answer_again, end_is}
use Rattle.cfg_json.proofs.ObjectsTake.{ObjectTaken, object_takes_at}

abbrev done : {Y : Type 0} → Y → Result Y JsonError
done x = Ok x

ok_same : {Y : Type 0} (a b : Y) → done a ≡ done b → a ≡ b
ok_same a b e = cc

abbrev failed : JsonError → Answer
failed e = Err e

-- what reading gives is the answer that it makes
pub answers_from_reads : {X : Type 0} (v : X → ReadMembers) (r : Result X JsonError) (o : Option ReadMembers) → Reads v r o → Answers v r (answer_of o)
answers_from_reads v (Ok x) o e = ap answer_of e
answers_from_reads v (Err e) o h = elim h [
  | inl m ↦ inl m
  | inr p ↦ inr (ap answer_of p.1 ∙ ap failed (sym p.0))
]

-- an error other than that memory ran out is the answer
error_is : {X Y : Type 0} (v : X → Y) (r : Result X JsonError) (a : Result Y JsonError) (e : JsonError) → (e ≡ json.OutOfMemory → ⊥) → Answers v r a → r ≡ Err e → a ≡ Err e
error_is v r a e other h is = elim (subst (λ (x : Result _ JsonError). Answers v x a) is h) [
  | inl m ↦ absurd (other m)
  | inr s ↦ s
]

not_object_stays : json.NotObject ≡ json.OutOfMemory → ⊥
not_object_stays e = absurd cc

syntax_stays : json.Syntax ≡ json.OutOfMemory → ⊥
syntax_stays e = absurd cc

more_stays : json.More ≡ json.OutOfMemory → ⊥
more_stays e = absurd cc

-- ---- what each answer says of the bytes

has_at_front : (bytes : List ℕ) (t : List ℕ) (b : WhiteSpace bytes) (ms : List Member) (rest : List ℕ) → after_white_space bytes ≡ left_curly_bracket ∷ t → ObjectTaken (length b.white_space) (left_curly_bracket ∷ t) ms rest → HasObject bytes ms (length bytes - length rest)
has_at_front bytes t b ms rest is f = record {
  white_space = b.white_space;
  text = f.0;
  rest = rest;
  is = b.is ∙ ap (λ (y : List ℕ). b.white_space ++ y) (is ∙ f.1);
  is_white_space = b.are;
  object = f.2;
  ends = omega (arith, ap length b.is, ap length is, ap length f.1, length-append b.white_space (after_white_space bytes), length-append f.0 rest);
}

-- no white space stands at the front of what follows white space
no_white_space_left : (t : List ℕ) → NoWhiteSpace (after_white_space t)
unfolding after_white_space
no_white_space_left [] = tt
no_white_space_left (x ∷ t) = left x t (is_json_white_space x) refl (no_white_space_left t) where
  left : (x : ℕ) (t : List ℕ) (b : Bool) → is_json_white_space x ≡ b → NoWhiteSpace (after_white_space t) → NoWhiteSpace (cond b (after_white_space t) (x ∷ t))
  left x t true e more = more
  left x t false e more = e

-- what each answer says of the bytes
abbrev Cause : List ℕ → Answer → Type 0
Cause bytes (Ok r) = HasObject bytes r.0 (length bytes - length r.1)
Cause bytes (Err json.NotObject) = OpensOther bytes
Cause bytes (Err json.Syntax) = OpensObject bytes
Cause bytes (Err json.More) = ⊥
Cause bytes (Err json.OutOfMemory) = ⊥

at_front : (bytes : List ℕ) (b : WhiteSpace bytes) (u : List ℕ) → after_white_space bytes ≡ u → bytes ≡ b.white_space ++ u
at_front bytes b u is = b.is ∙ ap (λ (y : List ℕ). b.white_space ++ y) is

cause_read : (bytes t : List ℕ) (o : Option ReadMembers) → after_white_space bytes ≡ left_curly_bracket ∷ t → object_at (length bytes) t ≡ o → Cause bytes (answer_of o)
cause_read bytes t None is e = let b = white_space_takes bytes in (b.white_space, t, b.are, at_front bytes b (left_curly_bracket ∷ t) is)
cause_read bytes t (Some r) is e =
    let b = white_space_takes bytes in
    let place : length bytes ≡ length b.white_space + length (left_curly_bracket ∷ t) = ap length (at_front bytes b (left_curly_bracket ∷ t) is) ∙ length-append b.white_space (left_curly_bracket ∷ t) in
    has_at_front bytes t b r.0 r.1 is (object_takes_at (length bytes) (length b.white_space) t r place e)

cause_opened : (bytes : List ℕ) (x : ℕ) (t : List ℕ) (b : Bool) → after_white_space bytes ≡ x ∷ t → is_json_white_space x ≡ false → (x == left_curly_bracket) ≡ b → Cause bytes (cond b (answer_of (object_at (length bytes) t)) (Err json.NotObject))
cause_opened bytes x t true is not_white_space e = cause_read bytes t (object_at (length bytes) t) (is ∙ ap (λ (y : ℕ). y ∷ t) (eqb-true x left_curly_bracket e)) refl
cause_opened bytes x t false is not_white_space e = let b = white_space_takes bytes in inr (b.white_space, x, t, b.are, not_white_space, eqb-false x left_curly_bracket e, at_front bytes b (x ∷ t) is)

cause_at : (bytes u : List ℕ) → after_white_space bytes ≡ u → NoWhiteSpace u → Cause bytes (opened (length bytes) u)
cause_at bytes [] is n = let b = white_space_takes bytes in inl (subst IsWhiteSpace (sym (at_front bytes b [] is ∙ append-nil b.white_space)) b.are)
cause_at bytes (x ∷ t) is n = cause_opened bytes x t (x == left_curly_bracket) is n refl

cause : (bytes : List ℕ) → Cause bytes (object_answer bytes)
unfolding object_answer
cause bytes = cause_at bytes (after_white_space bytes) refl (no_white_space_left bytes)

cause_of : (bytes : List ℕ) (a : Answer) → object_answer bytes ≡ a → Cause bytes a
cause_of bytes a e = subst (Cause bytes) e (cause bytes)

-- ---- where each answer comes

all_white_space : (bytes : List ℕ) → IsWhiteSpace bytes → after_white_space bytes ≡ []
all_white_space bytes h = sym (ap after_white_space (append-nil bytes)) ∙ white_space_again bytes [] h tt

white_space_all : (bytes : List ℕ) → after_white_space bytes ≡ [] → IsWhiteSpace bytes
white_space_all bytes e = let b = white_space_takes bytes in subst IsWhiteSpace (sym (at_front bytes b [] e ∙ append-nil b.white_space)) b.are

not_opened : (bytes : List ℕ) → OpensOther bytes → object_answer bytes ≡ Err json.NotObject
unfolding object_answer
not_opened bytes h = elim h [
  | inl b ↦ ap (opened (length bytes)) (all_white_space bytes b)
  | inr o ↦
      let is : after_white_space bytes ≡ o.1 ∷ o.2 = ap after_white_space o.6 ∙ white_space_again o.0 (o.1 ∷ o.2) o.3 o.4 in
      let other : (o.1 == left_curly_bracket) ≡ false = ne_eqb o.1 left_curly_bracket o.5 in
      ap (opened (length bytes)) is ∙ rw other refl
]

opened_is : (bytes rest : List ℕ) → after_white_space bytes ≡ left_curly_bracket ∷ rest → object_answer bytes ≡ answer_of (object_at (length bytes) rest)
unfolding object_answer
opened_is bytes rest is = ap (opened (length bytes)) is

broken_at : (bytes rest : List ℕ) (o : Option ReadMembers) → after_white_space bytes ≡ left_curly_bracket ∷ rest → object_at (length bytes) rest ≡ o → HasNoObject bytes → answer_of o ≡ Err json.Syntax
broken_at bytes rest None is e none = refl
broken_at bytes rest (Some r) is e none = absurd (none r.0 _ (cause_read bytes rest (Some r) is e))

broken_answer : (bytes : List ℕ) → OpensObject bytes → HasNoObject bytes → object_answer bytes ≡ Err json.Syntax
broken_answer bytes h none =
    let is : after_white_space bytes ≡ left_curly_bracket ∷ h.1 = ap after_white_space h.3 ∙ white_space_again h.0 (left_curly_bracket ∷ h.1) h.2 refl in
    opened_is bytes h.1 is ∙ broken_at bytes h.1 (object_at (length bytes) h.1) is refl none

ok_or_error : {Y : Type 0} (x : Y) (e : JsonError) (a : Result Y JsonError) → a ≡ Ok x → a ≡ Err e → ⊥
ok_or_error x e a p q = absurd cc

no_object : (bytes : List ℕ) (e : JsonError) → object_answer bytes ≡ Err e → HasNoObject bytes
no_object bytes e is list end h = ok_or_error (list, h.rest) e (object_answer bytes) (answer_again bytes list end h) is

-- ---- with the place of the end

with_end_ok : (total : ℕ) (a : Answer) (p : MemberList) → with_end total a ≡ Ok p → (r : ReadMembers) × (a ≡ Ok r) × (p.0 ≡ r.0) × (p.1 ≡ total - length r.1)
with_end_ok total (Ok r) p e = let made : MemberList = (r.0, total - length r.1) in let same : made ≡ p = ok_same made p e in (r, refl, ap (λ (q : MemberList). q.0) (sym same), ap (λ (q : MemberList). q.1) (sym same))
with_end_ok total (Err d) p e = absurd cc

with_end_err : (total : ℕ) (a : Answer) (e : JsonError) → with_end total a ≡ Err e → a ≡ Err e
with_end_err total (Ok r) e h = absurd cc
with_end_err total (Err d) e h = cc

end_of_object : (bytes : List ℕ) (list : List Member) (end : ℕ) (h : HasObject bytes list end) → with_end (length bytes) (Ok (list, h.rest)) ≡ Ok (list, end)
end_of_object bytes list end h = ap (λ (n : ℕ). Ok (list, n)) (sym (end_is bytes list end h))

answers_along : {X Y : Type 0} (v : X → Y) (r : Result X JsonError) (a b : Result Y JsonError) → a ≡ b → Answers v r a → Answers v r b
answers_along v r a b e h = subst (Answers v r) e h

has_from : (bytes : List ℕ) (p : MemberList) (r : ReadMembers) → object_answer bytes ≡ Ok r → p.0 ≡ r.0 → p.1 ≡ length bytes - length r.1 → HasObject bytes p.0 p.1
has_from bytes p r e a b = subst (λ (n : ℕ). HasObject bytes p.0 n) (sym b) (subst (λ (l : List Member). HasObject bytes l (length bytes - length r.1)) (sym a) (cause_of bytes (Ok r) e))

module _ {X : Type 0} (v : X → MemberList) (bytes : List ℕ) where
  pub found_is : (r : Result X JsonError) → Answers v r (list_answer bytes) → IfOk r (λ m. HasObject bytes (v m).0 (v m).1)
  unfolding list_answer
  found_is (Ok m) h = let p = with_end_ok (length bytes) (object_answer bytes) (v m) h in has_from bytes (v m) p.0 p.1 p.2 p.3
  found_is (Err e) h = tt

  pub only_is : (r : Result X JsonError) → Answers v r (list_answer bytes) → (list : List Member) (end : ℕ) → HasObject bytes list end → Answers v r (Ok (list, end))
  unfolding list_answer
  only_is r h list end o = answers_along v r _ _ (ap (with_end (length bytes)) (answer_again bytes list end o) ∙ end_of_object bytes list end o) h

  pub not_object_is : (r : Result X JsonError) → Answers v r (list_answer bytes) → r ≡ Err json.NotObject → OpensOther bytes
  unfolding list_answer
  not_object_is r h is = cause_of bytes (Err json.NotObject) (with_end_err _ _ _ (error_is v r (list_answer bytes) json.NotObject not_object_stays h is))

  pub opens_other_is : (r : Result X JsonError) → Answers v r (list_answer bytes) → OpensOther bytes → Answers v r (Err json.NotObject)
  unfolding list_answer
  opens_other_is r h o = answers_along v r _ _ (ap (with_end (length bytes)) (not_opened bytes o)) h

  pub syntax_is : (r : Result X JsonError) → Answers v r (list_answer bytes) → r ≡ Err json.Syntax → OpensObject bytes × HasNoObject bytes
  unfolding list_answer
  syntax_is r h is =
      let e : object_answer bytes ≡ Err json.Syntax = with_end_err _ _ _ (error_is v r (list_answer bytes) json.Syntax syntax_stays h is) in
      (cause_of bytes (Err json.Syntax) e, no_object bytes json.Syntax e)

  pub broken_is : (r : Result X JsonError) → Answers v r (list_answer bytes) → OpensObject bytes → HasNoObject bytes → Answers v r (Err json.Syntax)
  unfolding list_answer
  broken_is r h o none = answers_along v r _ _ (ap (with_end (length bytes)) (broken_answer bytes o none)) h

  pub never_more_is : (r : Result X JsonError) → Answers v r (list_answer bytes) → r ≡ Err json.More → ⊥
  unfolding list_answer
  never_more_is r h is = cause_of bytes (Err json.More) (with_end_err _ _ _ (error_is v r (list_answer bytes) json.More more_stays h is))

-- ---- nothing but the object

-- what follows the object
rest_is : (bytes : List ℕ) (list : List Member) (end : ℕ) (h : HasObject bytes list end) → drop end bytes ≡ h.rest
rest_is bytes list end h =
    let cut : bytes ≡ (h.white_space ++ h.text) ++ h.rest = h.is ∙ sym (append_assoc h.white_space h.text h.rest) in
    let size : length (h.white_space ++ h.text) ≡ end = length-append h.white_space h.text ∙ sym h.ends in
    ap (drop end) cut ∙ drop_at (h.white_space ++ h.text) h.rest end size

left_is : (bytes : List ℕ) (p : MemberList) (r : ReadMembers) (h : HasObject bytes p.0 p.1) → object_answer bytes ≡ Ok r → drop p.1 bytes ≡ r.1
left_is bytes p r h e =
    let made : ReadMembers = (p.0, h.rest) in
    rest_is bytes p.0 p.1 h ∙ ap (λ (q : ReadMembers). q.1) (ok_same made r (sym (answer_again bytes p.0 p.1 h) ∙ e))

only_ok : (bytes : List ℕ) (a : Answer) (r : ReadMembers) → only_from bytes a ≡ Ok r → (a ≡ Ok r) × (after_white_space r.1 ≡ [])
only_ok bytes (Ok s) r e = last s r (after_white_space s.1) refl e where
  last : (s r : ReadMembers) (u : List ℕ) → after_white_space s.1 ≡ u → only_white_space bytes s u ≡ Ok r → (done s ≡ Ok r) × (after_white_space r.1 ≡ [])
  last s r [] is e = (e, ap (λ (q : ReadMembers). after_white_space q.1) (ok_same r s (sym e)) ∙ is)
  last s r (x ∷ t) is e = absurd cc
only_ok bytes (Err d) r e = absurd cc

-- an error of the object's own, or more behind it
abbrev OnlyFails : List ℕ → Answer → JsonError → Type 0
OnlyFails bytes a json.NotObject = a ≡ Err json.NotObject
OnlyFails bytes a json.Syntax = a ≡ Err json.Syntax
OnlyFails bytes a json.More = (a ≡ Err json.More) ⊎ ((r : ReadMembers) × (a ≡ Ok r) × (IsWhiteSpace r.1 → ⊥))
OnlyFails bytes a json.OutOfMemory = Unit {0}

only_more : (bytes : List ℕ) (s : ReadMembers) (u : List ℕ) (e : JsonError) → after_white_space s.1 ≡ u → only_white_space bytes s u ≡ Err e → OnlyFails bytes (Ok s) e
only_more bytes s [] e is h = absurd cc
only_more bytes s (x ∷ t) json.NotObject is h = absurd cc
only_more bytes s (x ∷ t) json.Syntax is h = absurd cc
only_more bytes s (x ∷ t) json.OutOfMemory is h = tt
only_more bytes s (x ∷ t) json.More is h = inr (s, refl, (λ b. nil_cons x t (sym (all_white_space s.1 b) ∙ is))) where
  nil_cons : (x : ℕ) (t : List ℕ) → [] ≡ x ∷ t → ⊥
  nil_cons x t e = absurd cc

only_err : (bytes : List ℕ) (a : Answer) (e : JsonError) → only_from bytes a ≡ Err e → OnlyFails bytes a e
only_err bytes (Ok s) e h = only_more bytes s (after_white_space s.1) e refl h
only_err bytes (Err d) json.NotObject h = h
only_err bytes (Err d) json.Syntax h = h
only_err bytes (Err d) json.More h = inl h
only_err bytes (Err d) json.OutOfMemory h = tt

ends_there : (bytes : List ℕ) (r : ReadMembers) → IsWhiteSpace r.1 → only_from bytes (Ok r) ≡ Ok r
ends_there bytes r b = ap (only_white_space bytes r) (all_white_space r.1 b)

goes_on : (bytes : List ℕ) (r : ReadMembers) → (IsWhiteSpace r.1 → ⊥) → only_from bytes (Ok r) ≡ Err json.More
goes_on bytes r none = more (after_white_space r.1) refl where
  more : (u : List ℕ) → after_white_space r.1 ≡ u → only_white_space bytes r u ≡ Err json.More
  more [] is = absurd (none (white_space_all r.1 is))
  more (x ∷ t) is = refl

module _ {X : Type 0} (v : X → MemberList) (bytes : List ℕ) where
  pub only_found_is : (r : Result X JsonError) → Answers v r (only_list_answer bytes) → IfOk r (λ m. HasObject bytes (v m).0 (v m).1 × OnlyWhiteSpaceFrom bytes (v m).1)
  unfolding only_list_answer only_answer
  only_found_is (Ok m) h =
      let p = with_end_ok (length bytes) (only_answer bytes) (v m) h in
      let q = only_ok bytes (object_answer bytes) p.0 p.1 in
      let o = has_from bytes (v m) p.0 q.0 p.2 p.3 in
      (o, subst IsWhiteSpace (sym (left_is bytes (v m) p.0 o q.0)) (white_space_all p.0.1 q.1))
  only_found_is (Err e) h = tt

  pub only_only_is : (r : Result X JsonError) → Answers v r (only_list_answer bytes) → (list : List Member) (end : ℕ) → HasObject bytes list end → OnlyWhiteSpaceFrom bytes end → Answers v r (Ok (list, end))
  unfolding only_list_answer only_answer
  only_only_is r h list end o b =
      let not_white_space : IsWhiteSpace o.rest = subst IsWhiteSpace (rest_is bytes list end o) b in
      answers_along v r _ _ (ap (λ (a : Answer). with_end (length bytes) (only_from bytes a)) (answer_again bytes list end o) ∙ ap (with_end (length bytes)) (ends_there bytes (list, o.rest) not_white_space) ∙ end_of_object bytes list end o) h

  pub only_not_object_is : (r : Result X JsonError) → Answers v r (only_list_answer bytes) → r ≡ Err json.NotObject → OpensOther bytes
  unfolding only_list_answer only_answer
  only_not_object_is r h is = cause_of bytes (Err json.NotObject) (only_err bytes (object_answer bytes) json.NotObject (with_end_err _ _ _ (error_is v r (only_list_answer bytes) json.NotObject not_object_stays h is)))

  pub only_opens_other_is : (r : Result X JsonError) → Answers v r (only_list_answer bytes) → OpensOther bytes → Answers v r (Err json.NotObject)
  unfolding only_list_answer only_answer
  only_opens_other_is r h o = answers_along v r _ _ (ap (λ (a : Answer). with_end (length bytes) (only_from bytes a)) (not_opened bytes o)) h

  pub only_syntax_is : (r : Result X JsonError) → Answers v r (only_list_answer bytes) → r ≡ Err json.Syntax → OpensObject bytes × HasNoObject bytes
  unfolding only_list_answer only_answer
  only_syntax_is r h is =
      let e : object_answer bytes ≡ Err json.Syntax = only_err bytes (object_answer bytes) json.Syntax (with_end_err _ _ _ (error_is v r (only_list_answer bytes) json.Syntax syntax_stays h is)) in
      (cause_of bytes (Err json.Syntax) e, no_object bytes json.Syntax e)

  pub only_broken_is : (r : Result X JsonError) → Answers v r (only_list_answer bytes) → OpensObject bytes → HasNoObject bytes → Answers v r (Err json.Syntax)
  unfolding only_list_answer only_answer
  only_broken_is r h o none = answers_along v r _ _ (ap (λ (a : Answer). with_end (length bytes) (only_from bytes a)) (broken_answer bytes o none)) h

  pub only_more_is : (r : Result X JsonError) → Answers v r (only_list_answer bytes) → r ≡ Err json.More → (list : List Member) × (end : ℕ) × HasObject bytes list end × ¬ (OnlyWhiteSpaceFrom bytes end)
  unfolding only_list_answer only_answer
  only_more_is r h is = elim (only_err bytes (object_answer bytes) json.More (with_end_err _ _ _ (error_is v r (only_list_answer bytes) json.More more_stays h is))) [
    | inl a ↦ absurd (cause_of bytes (Err json.More) a)
    | inr a ↦
        let p : MemberList = (a.0.0, length bytes - length a.0.1) in
        let o : HasObject bytes p.0 p.1 = cause_of bytes (Ok a.0) a.1 in
        (a.0.0, length bytes - length a.0.1, o, (λ b. a.2 (subst IsWhiteSpace (left_is bytes p a.0 o a.1) b)))
  ]

  pub followed_is : (r : Result X JsonError) → Answers v r (only_list_answer bytes) → (list : List Member) (end : ℕ) → HasObject bytes list end → ¬ (OnlyWhiteSpaceFrom bytes end) → Answers v r (Err json.More)
  unfolding only_list_answer only_answer
  followed_is r h list end o none =
      answers_along v r _ _ (ap (λ (a : Answer). with_end (length bytes) (only_from bytes a)) (answer_again bytes list end o) ∙ ap (with_end (length bytes)) (goes_on bytes (list, o.rest) (λ b. none (subst IsWhiteSpace (sym (rest_is bytes list end o)) b)))) h

-- ---- laws

pub one_list_is : (bytes : List ℕ) (list : List Member) (end : ℕ) (other : List Member) (place : ℕ) → HasObject bytes list end → HasObject bytes other place → (list ≡ other) × (end ≡ place)
one_list_is bytes list end other place h k =
    let a : MemberList = (list, end) in
    let b : MemberList = (other, place) in
    let same : a ≡ b = ok_same a b
    (sym (ap (with_end (length bytes)) (answer_again bytes list end h) ∙ end_of_object bytes list end h) ∙ (ap (with_end (length bytes)) (answer_again bytes other place k) ∙ end_of_object bytes other place k)) in
    (ap (λ (p : MemberList). p.0) same, ap (λ (p : MemberList). p.1) same)

cons_same : (x : ℕ) (t u : List ℕ) → x ∷ t ≡ x ∷ u → t ≡ u
cons_same x t u e = cc

pub one_text_is : (at : ℕ) (t u x y : List ℕ) (list other : List Member) → IsObject at t list → IsObject at u other → t ++ x ≡ u ++ y → (t ≡ u) × (list ≡ other) × (x ≡ y)
one_text_is at t u x y list other h k e =
    let total : ℕ = at + length (t ++ x) in
    let f = object_again at t list h total x refl in
    let g = object_again at u other k total y (ap (λ (z : List ℕ). at + length z) e) in
    let inside : f.inside ≡ g.inside = cons_same left_curly_bracket f.inside g.inside (sym f.is ∙ e ∙ g.is) in
    let a : ReadMembers = (list, x) in
    let b : ReadMembers = (other, y) in
    let same : a ≡ b = given_is a b (sym f.reads ∙ ap (object_at total) inside ∙ g.reads) in
    let left : x ≡ y = ap (λ (p : ReadMembers). p.1) same in
    (append_cancel_right t u x (e ∙ ap (λ (z : List ℕ). u ++ z) (sym left)), ap (λ (p : ReadMembers). p.0) same, left)
