-- What is read as an object is spelled so.
use Rattle.std.specs.Option.{option_or}
use Rattle.std.proofs.Common.{◌≡◌, ℕ, zero, suc, ◌+◌, ◌-◌, inl, inr, List, [], ◌∷◌, ◌++◌, length, take, Bool, true, false, cond, Option, Some, refl, sym, ap, subst, ◌∙◌, append_assoc, arith, length-append}
use Rattle.std.specs.Prelude.{◌||◌, ◌==◌}
use Rattle.std.proofs.lemmas.Bool.{or_cases, eqb-true}
use Rattle.std.proofs.lemmas.Str.{chars-IsAscii}
use Rattle.std.proofs.lemmas.List.{take_at}
use Rattle.cfg_base.specs.Text.{characters}
use Rattle.cfg_base.proofs.TextLemmas.{characters-chars}
use Rattle.cfg_json.specs.Ascii.{quotation_mark, comma, left_square_bracket, left_curly_bracket, right_curly_bracket}
use Rattle.cfg_json.specs.Reads.{◌>>=◌}
use Rattle.cfg_json.specs.Values.{IsValue}
use Rattle.cfg_json.specs.Objects.{inner_depth, IsMemberValue, IsMember, AreMembers, IsObject}
use Rattle.cfg_json.specs.Reading.{after_white_space, number_at, word_at, string_at, utf8_of}
use Rattle.cfg_json.specs.ReadingValues.{Read, key_at, inside_at, value_at}
use Rattle.cfg_json.specs.ReadingObjects.{ReadValue, text_from, number_value_at, text_value_at, nested_value_at, word_value_at, member_value_at, member_at, MemberTurn, after_member, member_turn_at, ReadMembers, go_on_members, members_at, object_from, object_at}
use Rattle.cfg_json.specs.declared.member.Member.{Member}
use Rattle.cfg_json.specs.declared.member.MemberValue.{MemberValue}
use Rattle.cfg_json.specs.declared.member.MemberValue.TheVariants as value
use Rattle.cfg_json.proofs.Options.{given, nothing, none_is, given_is, bind_some, chosen, tested, either}
use Rattle.cfg_json.proofs.WhiteSpaceLaws.{white_space_takes}
use Rattle.cfg_json.proofs.NumberLaws.{number_takes, number_ascii}
use Rattle.cfg_json.proofs.StringLaws.{string_takes, utf8_takes}
use Rattle.cfg_json.proofs.LeafLaws.{Head, value_head, word_takes, key_takes}
use Rattle.cfg_json.proofs.ValuesTake.{value_takes}

-- the value of a member at the front
abbrev ValueFront : ℕ → List ℕ → MemberValue → List ℕ → Type 0
ValueFront at all m rest = (text : List ℕ) × (all ≡ text ++ rest) × IsMemberValue at text m

text_takes : (at : ℕ) (t : List ℕ) (r : ReadValue) → text_value_at t ≡ given r → ValueFront at (quotation_mark ∷ t) r.0 r.1
unfolding text_value_at
text_takes at t r e =
    let p = bind_some (string_at t) (λ p. Some (value.Text p.0, p.1)) r e in
    let s = string_takes t p.0.0 p.0.1 p.1 in
    let made : ReadValue = (value.Text p.0.0, p.0.1) in
    subst (λ (q : ReadValue). ValueFront at (quotation_mark ∷ t) q.0 q.1) (given_is made r p.2) (s.string, s.is, IsMemberValue.text at s.string p.0.0 s.is_string)

text_from_takes : (bytes n : List ℕ) → text_from bytes ≡ given n → characters bytes ≡ n
unfolding text_from
text_from_takes bytes n e =
    let p = bind_some (utf8_of bytes) (λ t. Some (characters t)) n e in
    ap characters (utf8_takes bytes p.0 p.1).0 ∙ given_is (characters p.0) n p.2

number_value_takes : (at : ℕ) (t : List ℕ) (r : ReadValue) → number_value_at t ≡ given r → ValueFront at t r.0 r.1
unfolding number_value_at
number_value_takes at t r e =
    let p = bind_some (number_at t) (λ r. text_from (take (length t - length r) t) >>= λ n. Some (value.Number n, r)) r e in
    let q = bind_some (text_from (take (length t - length p.0) t)) (λ n. Some (value.Number n, p.0)) r p.2 in
    let f = number_takes t p.0 p.1 in
    let size : length f.0 ≡ length t - length p.0 = omega (arith, ap length f.1, length-append f.0 p.0) in
    let front : take (length t - length p.0) t ≡ f.0 = ap (take (length t - length p.0)) f.1 ∙ take_at f.0 p.0 _ size in
    let is : f.0 ≡ q.0 = sym (characters-chars f.0 ∙ chars-IsAscii f.0 (number_ascii f.0 f.2)) ∙ sym (ap characters front) ∙ text_from_takes _ q.0 q.1 in
    let made : ReadValue = (value.Number q.0, p.0) in
    subst (λ (y : ReadValue). ValueFront at t y.0 y.1) (given_is made r q.2)
    (f.0, f.1, subst (λ (n : List ℕ). IsMemberValue at f.0 (value.Number n)) is (IsMemberValue.number at f.0 f.2))

word_value_takes : (at : ℕ) (t : List ℕ) (r : ReadValue) → word_value_at t ≡ given r → ValueFront at t r.0 r.1
unfolding word_value_at
word_value_takes at t r e =
    let p = bind_some (word_at t) (λ r. Some (value.Other, r)) r e in
    let w = word_takes t p.0 p.1 in
    let made : ReadValue = (value.Other, p.0) in
    subst (λ (q : ReadValue). ValueFront at t q.0 q.1) (given_is made r p.2) (w.0, w.1, IsMemberValue.word at w.0 w.2)

-- the first byte of a value is the first byte of what it stands at the front of
same_head : (x y : ℕ) (t u : List ℕ) → x ∷ t ≡ y ∷ u → x ≡ y
same_head x y t u e = cc

begins : (x : ℕ) (t f rest : List ℕ) → Head f → x ∷ t ≡ f ++ rest → (u : List ℕ) × (f ≡ x ∷ u)
begins x t f rest h e =
    let same : x ≡ h.first = same_head x h.first t (h.others ++ rest) (e ∙ ap (λ (y : List ℕ). y ++ rest) h.is) in
    (h.others, h.is ∙ ap (λ (y : ℕ). y ∷ h.others) (sym same))

-- an object stands in an object
object_has : (d : ℕ) (t : List ℕ) (r : Read) → value_at (suc d) (left_curly_bracket ∷ t) ≡ given r → r.0 ≡ true
unfolding value_at
object_has d t r e =
    let q = bind_some (inside_at true (value_at d) t) (λ q. Some (true, q.1)) r e in
    let made : Read = (true, q.0.1) in
    sym (ap (λ (y : Read). y.0) (given_is made r q.2))

abbrev an_object : ℕ → List ℕ → Read → Option ReadValue
an_object total t p = Some (value.Object (total - length t) (total - length p.1), p.1)

abbrev an_array : Read → Option ReadValue
an_array p = Some (value.Array p.0, p.1)

object_front : (total at : ℕ) (t : List ℕ) (p : Read) (f : List ℕ) (b : Bool) → total ≡ at + length (left_curly_bracket ∷ t) → left_curly_bracket ∷ t ≡ f ++ p.1 → IsValue inner_depth f b → b ≡ true
    → ValueFront at (left_curly_bracket ∷ t) (value.Object (total - length (left_curly_bracket ∷ t)) (total - length p.1)) p.1
object_front total at t p f b is e h has =
    let from : at ≡ total - length (left_curly_bracket ∷ t) = omega (arith, is) in
    let to : at + length f ≡ total - length p.1 = omega (arith, is, ap length e, length-append f p.1) in
    let k = begins left_curly_bracket t f p.1 (value_head inner_depth f b h) e in
    let v : IsValue inner_depth (left_curly_bracket ∷ k.0) true = subst (λ (y : List ℕ). IsValue inner_depth y true) k.1 (subst (λ (c : Bool). IsValue inner_depth f c) has h) in
    let m : IsMemberValue at f (value.Object at (at + length f)) = subst (λ (y : List ℕ). IsMemberValue at y (value.Object at (at + length y))) (sym k.1) (IsMemberValue.object at k.0 v) in
    (f, e, subst (λ (n : ℕ). IsMemberValue at f (value.Object (total - length (left_curly_bracket ∷ t)) n)) to (subst (λ (n : ℕ). IsMemberValue at f (value.Object n (at + length f))) from m))

object_takes : (total at : ℕ) (t : List ℕ) (r : ReadValue) → total ≡ at + length (left_curly_bracket ∷ t) → (value_at inner_depth (left_curly_bracket ∷ t) >>= an_object total (left_curly_bracket ∷ t)) ≡ given r → ValueFront at (left_curly_bracket ∷ t) r.0 r.1
object_takes total at t r is e =
    let p = bind_some (value_at inner_depth (left_curly_bracket ∷ t)) (an_object total (left_curly_bracket ∷ t)) r e in
    let f = value_takes inner_depth (left_curly_bracket ∷ t) p.0 p.1 in
    let made : ReadValue = (value.Object (total - length (left_curly_bracket ∷ t)) (total - length p.0.1), p.0.1) in
    subst (λ (q : ReadValue). ValueFront at (left_curly_bracket ∷ t) q.0 q.1) (given_is made r p.2) (object_front total at t p.0 f.0 p.0.0 is f.1 f.2 (object_has 126 t p.0 p.1))

array_takes : (at : ℕ) (t : List ℕ) (r : ReadValue) → (value_at inner_depth (left_square_bracket ∷ t) >>= an_array) ≡ given r → ValueFront at (left_square_bracket ∷ t) r.0 r.1
array_takes at t r e =
    let p = bind_some (value_at inner_depth (left_square_bracket ∷ t)) an_array r e in
    let f = value_takes inner_depth (left_square_bracket ∷ t) p.0 p.1 in
    let k = begins left_square_bracket t f.0 p.0.1 (value_head inner_depth f.0 p.0.0 f.2) f.1 in
    let v : IsValue inner_depth (left_square_bracket ∷ k.0) p.0.0 = subst (λ (y : List ℕ). IsValue inner_depth y p.0.0) k.1 f.2 in
    let made : ReadValue = (value.Array p.0.0, p.0.1) in
    subst (λ (q : ReadValue). ValueFront at (left_square_bracket ∷ t) q.0 q.1) (given_is made r p.2) (f.0, f.1, subst (λ (y : List ℕ). IsMemberValue at y (value.Array p.0.0)) (sym k.1) (IsMemberValue.array at k.0 p.0.0 v))

nested_object : (total : ℕ) (t : List ℕ) → nested_value_at total true t ≡ (value_at inner_depth t >>= an_object total t)
unfolding nested_value_at
nested_object total t = refl

nested_array : (total : ℕ) (t : List ℕ) → nested_value_at total false t ≡ (value_at inner_depth t >>= an_array)
unfolding nested_value_at
nested_array total t = refl

nested_takes : (total at x : ℕ) (t : List ℕ) (r : ReadValue) → total ≡ at + length (x ∷ t) → ((x == left_curly_bracket) || (x == left_square_bracket)) ≡ true → nested_value_at total (x == left_curly_bracket) (x ∷ t) ≡ given r → ValueFront at (x ∷ t) r.0 r.1
nested_takes total at x t r is k e =
    elim (or_cases (x == left_curly_bracket) (x == left_square_bracket) k) [
      | inl a ↦ (let same : left_curly_bracket ≡ x = sym (eqb-true x left_curly_bracket a) in
          subst (λ (y : ℕ). total ≡ at + length (y ∷ t) → nested_value_at total (y == left_curly_bracket) (y ∷ t) ≡ given r → ValueFront at (y ∷ t) r.0 r.1) same
          (λ i h. object_takes total at t r i (sym (nested_object total (left_curly_bracket ∷ t)) ∙ h)) is e)
      | inr a ↦ (let same : left_square_bracket ≡ x = sym (eqb-true x left_square_bracket a) in
          subst (λ (y : ℕ). nested_value_at total (y == left_curly_bracket) (y ∷ t) ≡ given r → ValueFront at (y ∷ t) r.0 r.1) same
          (λ h. array_takes at t r (sym (nested_array total (left_square_bracket ∷ t)) ∙ h)) e)
    ]

pub value_takes_at : (total at : ℕ) (t : List ℕ) (r : ReadValue) → total ≡ at + length t → member_value_at total t ≡ given r → ValueFront at t r.0 r.1
unfolding member_value_at
value_takes_at total at [] r is e = absurd (none_is r e)
value_takes_at total at (x ∷ t) r is e =
    elim (chosen (x == quotation_mark) (text_value_at t) (cond ((x == left_curly_bracket) || (x == left_square_bracket)) (nested_value_at total (x == left_curly_bracket) (x ∷ t)) (option_or (word_value_at (x ∷ t)) (number_value_at (x ∷ t)))) (given r) e) [
      | inl w ↦ subst (λ (y : ℕ). ValueFront at (y ∷ t) r.0 r.1) (sym (eqb-true x quotation_mark w.0)) (text_takes at t r w.1)
      | inr w ↦ (elim (chosen ((x == left_curly_bracket) || (x == left_square_bracket)) (nested_value_at total (x == left_curly_bracket) (x ∷ t)) (option_or (word_value_at (x ∷ t)) (number_value_at (x ∷ t))) (given r) w.1) [
        | inl v ↦ nested_takes total at x t r is v.0 v.1
        | inr v ↦ (elim (either (word_value_at (x ∷ t)) (number_value_at (x ∷ t)) r v.1) [
          | inl a ↦ word_value_takes at (x ∷ t) r a
          | inr a ↦ number_value_takes at (x ∷ t) r a
        ])
      ])
    ]

-- ---- members

-- a member at the front
abbrev MemberFront : ℕ → List ℕ → Member → List ℕ → Type 0
MemberFront at all m rest = (text : List ℕ) × (all ≡ text ++ rest) × IsMember at text m

abbrev ReadMember : Type 0
ReadMember = Member × List ℕ

member_parts : (key before v after rest : List ℕ) → (key ++ (before ++ (v ++ after))) ++ rest ≡ key ++ (before ++ (v ++ (after ++ rest)))
member_parts key before v after rest =
    append_assoc key (before ++ (v ++ after)) rest ∙ ap (λ (y : List ℕ). key ++ y) (append_assoc before (v ++ after) rest ∙ ap (λ (y : List ℕ). before ++ y) (append_assoc v after rest))

member_from : (total at : ℕ) (t name behind left : List ℕ) (m : MemberValue) → total ≡ at + length t → key_at t ≡ given (name, behind) → member_value_at total (after_white_space behind) ≡ given (m, left)
    → MemberFront at t (record { key = name; value = m }) (after_white_space left)
member_from total at t name behind left m is k v =
    let key = key_takes t (name, behind) k in
    let b = white_space_takes behind in
    let place : total ≡ at + length key.key + length b.white_space + length (after_white_space behind) = omega (arith, is, ap length key.is, length-append key.key behind, ap length b.is, length-append b.white_space (after_white_space behind)) in
    let f = value_takes_at total (at + length key.key + length b.white_space) (after_white_space behind) (m, left) place v in
    let a = white_space_takes left in
    let cut : t ≡ key.key ++ (b.white_space ++ (f.0 ++ (a.white_space ++ after_white_space left))) =
    key.is ∙ ap (λ (y : List ℕ). key.key ++ y) (b.is ∙ ap (λ (y : List ℕ). b.white_space ++ y) (f.1 ∙ ap (λ (y : List ℕ). f.0 ++ y) a.is)) in (
      key.key ++ (b.white_space ++ (f.0 ++ a.white_space)),
      cut ∙ sym (member_parts key.key b.white_space f.0 a.white_space (after_white_space left)),
      record { key = key.key; before = b.white_space; value = f.0; after = a.white_space; is = refl; is_key = key.is_key; white_space_before = b.are; is_value = f.2; white_space_after = a.are },
    )

member_takes : (total at : ℕ) (t : List ℕ) (r : ReadMember) → total ≡ at + length t → member_at total t ≡ given r → MemberFront at t r.0 r.1
unfolding member_at
member_takes total at t r is e =
    let k = bind_some (key_at t) (λ k. member_value_at total (after_white_space k.1) >>= λ v. Some (record { key = k.0; value = v.0 }, after_white_space v.1)) r e in
    let v = bind_some (member_value_at total (after_white_space k.0.1)) (λ v. Some (record { key = k.0.0; value = v.0 }, after_white_space v.1)) r k.2 in
    let made : ReadMember = (record { key = k.0.0; value = v.0.0 }, after_white_space v.0.1) in
    subst (λ (q : ReadMember). MemberFront at t q.0 q.1) (given_is made r v.2) (member_from total at t k.0.0 k.0.1 v.0.1 v.0.0 is k.1 v.1)

-- the byte behind a member
after_takes : (m : Member) (t : List ℕ) (p : MemberTurn) → after_member m t ≡ given p → (t ≡ (cond p.1 right_curly_bracket comma) ∷ p.2) × (p.0 ≡ m)
after_takes m [] p e = absurd (none_is p e)
after_takes m (x ∷ t) p e =
    elim (chosen (x == right_curly_bracket) (given (m, true, t)) (cond (x == comma) (given (m, false, t)) nothing) (given p) e) [
      | inl w ↦ (let is : MemberTurn = (m, true, t) in
          subst (λ (q : MemberTurn). (x ∷ t ≡ (cond q.1 right_curly_bracket comma) ∷ q.2) × (q.0 ≡ m)) (given_is is p w.1) (ap (λ (y : ℕ). y ∷ t) (eqb-true x right_curly_bracket w.0), refl))
      | inr w ↦ (let v = tested (x == comma) (m, false, t) p w.1 in
          subst (λ (q : MemberTurn). (x ∷ t ≡ (cond q.1 right_curly_bracket comma) ∷ q.2) × (q.0 ≡ m)) v.1 (ap (λ (y : ℕ). y ∷ t) (eqb-true x comma v.0), refl))
    ]

record TurnTakes (at : ℕ) (t : List ℕ) (p : MemberTurn) : Type 0 where
  text : List ℕ
  is : t ≡ text ++ (cond p.1 right_curly_bracket comma ∷ p.2)
  member : IsMember at text p.0

turn_takes : (total at : ℕ) (t : List ℕ) (p : MemberTurn) → total ≡ at + length t → member_turn_at total t ≡ given p → TurnTakes at t p
unfolding member_turn_at
turn_takes total at t p is e =
    let q = bind_some (member_at total t) (λ q. after_member q.0 q.1) p e in
    let f = member_takes total at t q.0 is q.1 in
    let a = after_takes q.0.0 q.0.1 p q.2 in
    record { text = f.0; is = f.1 ∙ ap (λ (y : List ℕ). f.0 ++ y) a.0; member = subst (λ (m : Member). IsMember at f.0 m) (sym a.1) f.2 }

-- members at the front
abbrev MembersFront : ℕ → List ℕ → List Member → List ℕ → Type 0
MembersFront at all ms rest = (text : List ℕ) × (all ≡ text ++ rest) × AreMembers at text ms

ended : (at : ℕ) (t : List ℕ) (m : Member) (next : List ℕ) (r : ReadMembers) → TurnTakes at t (m, true, next) → given (m ∷ [], next) ≡ given r → MembersFront at t r.0 r.1
ended at t m next r h e =
    let is : ReadMembers = (m ∷ [], next) in
    subst (λ (q : ReadMembers). MembersFront at t q.0 q.1) (given_is is r e)
    (h.text ++ right_curly_bracket ∷ [], h.is ∙ sym (append_assoc h.text (right_curly_bracket ∷ []) next), AreMembers.last at h.text _ m h.member refl)

went_on : (at : ℕ) (t : List ℕ) (m : Member) (next : List ℕ) (q r : ReadMembers) (h : TurnTakes at t (m, false, next)) → MembersFront (at + length h.text + 1) next q.0 q.1 → given (m ∷ q.0, q.1) ≡ given r → MembersFront at t r.0 r.1
went_on at t m next q r h more e =
    let is : ReadMembers = (m ∷ q.0, q.1) in
    subst (λ (y : ReadMembers). MembersFront at t y.0 y.1) (given_is is r e)
    (h.text ++ comma ∷ more.0, h.is ∙ ap (λ (y : List ℕ). h.text ++ comma ∷ y) more.1 ∙ sym (append_assoc h.text (comma ∷ more.0) q.1), AreMembers.more at h.text more.0 _ m q.0 h.member more.2 refl)

turned : (total at n : ℕ) (t : List ℕ) (m : Member) (e : Bool) (next : List ℕ) (r : ReadMembers) → total ≡ at + length t → TurnTakes at t (m, e, next)
    → go_on_members m e next (members_at total n) ≡ given r → ((place : ℕ) (s : ReadMembers) → total ≡ place + length next → members_at total n next ≡ given s → MembersFront place next s.0 s.1) → MembersFront at t r.0 r.1
turned total at n t m true next r is h e more = ended at t m next r h e
turned total at n t m false next r is h e more =
    let q = bind_some (members_at total n next) (λ q. Some (m ∷ q.0, q.1)) r e in
    let place : total ≡ at + length h.text + 1 + length next = omega (arith, is, ap length h.is, length-append h.text (comma ∷ next)) in
    went_on at t m next q.0 r h (more (at + length h.text + 1) q.0 place q.1) q.2

members_take : (total n at : ℕ) (t : List ℕ) (r : ReadMembers) → total ≡ at + length t → members_at total n t ≡ given r → MembersFront at t r.0 r.1
unfolding members_at
members_take total zero at t r is e = absurd (none_is r e)
members_take total (suc n) at t r is e =
    let p = bind_some (member_turn_at total t) (λ p. go_on_members p.0 p.1 p.2 (members_at total n)) r e in
    turned total at n t p.0.0 p.0.1 p.0.2 r is (turn_takes total at t p.0 is p.1) p.2 (λ place s i h. members_take total n place p.0.2 s i h)

-- ---- the object

-- an object at the front
abbrev pub ObjectTaken : ℕ → List ℕ → List Member → List ℕ → Type 0
ObjectTaken at all ms rest = (text : List ℕ) × (all ≡ text ++ rest) × IsObject at text ms

from_takes : (total at : ℕ) (t u : List ℕ) (r : ReadMembers) → total ≡ at + length (left_curly_bracket ∷ t) → after_white_space t ≡ u → object_from total t u ≡ given r → ObjectTaken at (left_curly_bracket ∷ t) r.0 r.1
from_takes total at t [] r is b e = absurd (none_is r e)
from_takes total at t (x ∷ u) r is b e =
    elim (chosen (x == right_curly_bracket) (given ([], u)) (members_at total (length t) t) (given r) e) [
      | inl w ↦ (let made : ReadMembers = ([], u) in
          let k = white_space_takes t in
          let cut : left_curly_bracket ∷ t ≡ (left_curly_bracket ∷ (k.white_space ++ right_curly_bracket ∷ [])) ++ u =
          ap (λ (y : List ℕ). left_curly_bracket ∷ y) (k.is ∙ ap (λ (y : List ℕ). k.white_space ++ y) (b ∙ ap (λ (y : ℕ). y ∷ u) (eqb-true x right_curly_bracket w.0)) ∙ sym (append_assoc k.white_space (right_curly_bracket ∷ []) u)) in
          subst (λ (q : ReadMembers). ObjectTaken at (left_curly_bracket ∷ t) q.0 q.1) (given_is made r w.1) (left_curly_bracket ∷ (k.white_space ++ right_curly_bracket ∷ []), cut, IsObject.empty at k.white_space _ k.are refl))
      | inr w ↦ (let place : total ≡ at + 1 + length t = omega (arith, is) in
          let f = members_take total (length t) (at + 1) t r place w.1 in
          (left_curly_bracket ∷ f.0, ap (λ (y : List ℕ). left_curly_bracket ∷ y) f.1, IsObject.members at f.0 _ r.0 f.2 refl))
    ]

pub object_takes_at : (total at : ℕ) (t : List ℕ) (r : ReadMembers) → total ≡ at + length (left_curly_bracket ∷ t) → object_at total t ≡ given r → ObjectTaken at (left_curly_bracket ∷ t) r.0 r.1
unfolding object_at
object_takes_at total at t r is e = from_takes total at t (after_white_space t) r is refl e
