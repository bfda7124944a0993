-- What is spelled as an object is read, whatever follows.
use Rattle.std.proofs.Common.{◌≡◌, ℕ, zero, suc, ◌+◌, ◌-◌, ◌<◌, ◌≤◌, inl, inr, List, [], ◌∷◌, ◌++◌, length, take, Bool, true, false, Option, Some, None, refl, sym, ap, ◌∙◌, append_assoc, arith, length-append}
use Rattle.std.specs.Prelude.{◌||◌, ◌==◌, codes, Ok}
use Rattle.std.proofs.lemmas.Bool.{or_from}
use Rattle.std.proofs.lemmas.Str.{IsUtf8-from_ascii, chars-IsAscii}
use Rattle.std.proofs.lemmas.List.{take_at}
use Rattle.cfg_base.specs.Text.{characters}
use Rattle.cfg_base.proofs.TextLemmas.{characters-chars}
use Rattle.cfg_json.specs.Ascii.{quotation_mark, comma, left_square_bracket, small_f, small_n, small_t, left_curly_bracket, right_curly_bracket}
use Rattle.cfg_json.specs.WhiteSpace.{IsWhiteSpace}
use Rattle.cfg_json.specs.Numbers.{IsNumber}
use Rattle.cfg_json.specs.Values.{IsWord}
use Rattle.cfg_json.specs.Objects.{inner_depth, IsMemberValue, IsMember, AreMembers, IsObject, HasObject}
use Rattle.cfg_json.specs.Reading.{after_white_space, word_at, string_at, utf8_of}
use Rattle.cfg_json.specs.ReadingValues.{key_at, value_at}
use Rattle.cfg_json.specs.ReadingObjects.{ReadValue, text_from, number_value_at, text_value_at, nested_value_at, word_value_at, member_value_at, member_at, member_turn_at, ReadMembers, members_at, object_at, opened, object_answer}
use Rattle.cfg_json.specs.declared.member.Member.{Member}
use Rattle.cfg_json.specs.declared.member.MemberValue.{MemberValue}
use Rattle.cfg_json.specs.declared.member.MemberValue.TheVariants as value
use Rattle.cfg_json.proofs.WhiteSpaceLaws.{white_space_again}
use Rattle.cfg_json.proofs.NumberLaws.{EndsNumber, number_again, number_ascii}
use Rattle.cfg_json.proofs.StringLaws.{string_again}
use Rattle.cfg_json.proofs.LeafLaws.{Head, number_head, number_head_is, number_no_word, not_number, word_head_is, head_no_white_space, word_again, key_again}
use Rattle.cfg_json.proofs.ValuesAgain.{Closes, close_ends, comma_ends, white_space_end, Starts, starts_then, key_starts, starts_at, starts_behind, split, value_again}
use Rattle.cfg_json.proofs.Utf8.{utf8_of-valid}

-- ---- values of members

text_read : (inside s rest : List ℕ) → string_at inside ≡ Some (s, rest) → text_value_at inside ≡ Some (value.Text s, rest)
unfolding text_value_at
text_read inside s rest e = rw e refl

text_member : (total : ℕ) (inside s rest : List ℕ) → string_at inside ≡ Some (s, rest) → member_value_at total (quotation_mark ∷ inside) ≡ Some (value.Text s, rest)
unfolding member_value_at
text_member total inside s rest e = text_read inside s rest e

length_before : (v rest : List ℕ) → length (v ++ rest) - length rest ≡ length v
length_before v rest = omega (arith, length-append v rest)

text_from_ascii : (n : List ℕ) → IsNumber n → text_from n ≡ Some n
unfolding text_from
text_from_ascii n h =
    let ascii = number_ascii n h in
    let e : utf8_of n ≡ Some n = utf8_of-valid n (IsUtf8-from_ascii n ascii) in
    let chars_are : characters n ≡ n = characters-chars n ∙ chars-IsAscii n ascii in
    rw e (ap (λ (t : List ℕ). Some t) chars_are)

number_read : (n rest : List ℕ) → IsNumber n → EndsNumber rest → number_value_at (n ++ rest) ≡ Some (value.Number n, rest)
unfolding number_value_at
number_read n rest h ends =
    let e = number_again n rest h ends in
    let text : text_from (take (length (n ++ rest) - length rest) (n ++ rest)) ≡ Some n = ap text_from (take_at n rest _ (sym (length_before n rest))) ∙ text_from_ascii n h in
    rw (e, text) refl

number_member : (total x : ℕ) (t : List ℕ) (r : Option ReadValue) → (x == quotation_mark) ≡ false → ((x == left_curly_bracket) || (x == left_square_bracket)) ≡ false → word_at (x ∷ t) ≡ None → number_value_at (x ∷ t) ≡ r → member_value_at total (x ∷ t) ≡ r
unfolding member_value_at word_value_at
number_member total x t r q b w e = rw (q, b, w) e

number_member_at : (total : ℕ) (t : List ℕ) (x : ℕ) (u : List ℕ) (r : Option ReadValue) → t ≡ x ∷ u → (x == quotation_mark) ≡ false → ((x == left_curly_bracket) || (x == left_square_bracket)) ≡ false → word_at (x ∷ u) ≡ None → number_value_at t ≡ r → member_value_at total t ≡ r
number_member_at total t x u r is q b w e = ap (member_value_at total) is ∙ number_member total x u r q b w (sym (ap number_value_at is) ∙ e)

word_member : (total x : ℕ) (t rest : List ℕ) → (x == quotation_mark) ≡ false → ((x == left_curly_bracket) || (x == left_square_bracket)) ≡ false → word_at (x ∷ t) ≡ Some rest → member_value_at total (x ∷ t) ≡ Some (value.Other, rest)
unfolding member_value_at word_value_at
word_member total x t rest q b w = rw (q, b, w) refl

word_member_at : (total : ℕ) (t : List ℕ) (x : ℕ) (u rest : List ℕ) → t ≡ x ∷ u → (x == quotation_mark) ≡ false → ((x == left_curly_bracket) || (x == left_square_bracket)) ≡ false → word_at t ≡ Some rest → member_value_at total t ≡ Some (value.Other, rest)
word_member_at total t x u rest is q b w = ap (member_value_at total) is ∙ word_member total x u rest q b (sym (ap word_at is) ∙ w)

word_value : (total : ℕ) (t rest : List ℕ) → IsWord t → member_value_at total (t ++ rest) ≡ Some (value.Other, rest)
word_value total t rest h = let w : word_at (t ++ rest) ≡ Some rest = word_again t rest h in elim h [
  | inl a ↦ word_member_at total (t ++ rest) small_t (codes "rue" ++ rest) rest (ap (λ (y : List ℕ). y ++ rest) a) refl refl w
  | inr b ↦ (elim b [
    | inl a ↦ word_member_at total (t ++ rest) small_f (codes "alse" ++ rest) rest (ap (λ (y : List ℕ). y ++ rest) a) refl refl w
    | inr a ↦ word_member_at total (t ++ rest) small_n (codes "ull" ++ rest) rest (ap (λ (y : List ℕ). y ++ rest) a) refl refl w
  ])
]

object_member : (total at : ℕ) (t rest : List ℕ) → value_at inner_depth ((left_curly_bracket ∷ t) ++ rest) ≡ Some (true, rest) → total ≡ at + length ((left_curly_bracket ∷ t) ++ rest)
    → member_value_at total ((left_curly_bracket ∷ t) ++ rest) ≡ Some (value.Object at (at + length (left_curly_bracket ∷ t)), rest)
unfolding member_value_at nested_value_at
object_member total at t rest e is =
    let from : total - length ((left_curly_bracket ∷ t) ++ rest) ≡ at = omega (arith, is) in
    let to : total - length rest ≡ at + length (left_curly_bracket ∷ t) = omega (arith, is, length-append (left_curly_bracket ∷ t) rest) in
    rw e (ap (λ (n : ℕ). Some (value.Object n (total - length rest), rest)) from ∙ ap (λ (n : ℕ). Some (value.Object at n, rest)) to)

array_member : (total : ℕ) (t rest : List ℕ) (b : Bool) → value_at inner_depth ((left_square_bracket ∷ t) ++ rest) ≡ Some (b, rest) → member_value_at total ((left_square_bracket ∷ t) ++ rest) ≡ Some (value.Array b, rest)
unfolding member_value_at nested_value_at
array_member total t rest b e = rw e refl

pub member_value_again : (at : ℕ) (v : List ℕ) (m : MemberValue) → IsMemberValue at v m → (total : ℕ) (rest : List ℕ) → total ≡ at + length (v ++ rest) → EndsNumber rest → member_value_at total (v ++ rest) ≡ Some (m, rest)
member_value_again _ _ _ (IsMemberValue.text at t s h) total rest is ends =
    let f = string_again t s h rest in
    ap (member_value_at total) f.is ∙ text_member total f.inside s rest f.reads
member_value_again _ _ _ (IsMemberValue.number at t h) total rest is ends =
    let k = number_head t h in
    number_member_at total (t ++ rest) k.first (k.others ++ rest) _ (ap (λ (y : List ℕ). y ++ rest) k.is) (not_number k.first quotation_mark refl refl k.digit)
    (or_from _ _ (not_number k.first left_curly_bracket refl refl k.digit) (not_number k.first left_square_bracket refl refl k.digit)) (number_no_word k.first (k.others ++ rest) k.digit) (number_read t rest h ends)
member_value_again _ _ _ (IsMemberValue.object at t h) total rest is ends = object_member total at t rest (value_again inner_depth (left_curly_bracket ∷ t) true h rest ends) is
member_value_again _ _ _ (IsMemberValue.array at t b h) total rest is ends = array_member total t rest b (value_again inner_depth (left_square_bracket ∷ t) b h rest ends)
member_value_again _ _ _ (IsMemberValue.word at t h) total rest is ends = word_value total t rest h

member_value_head : (at : ℕ) (v : List ℕ) (m : MemberValue) → IsMemberValue at v m → Head v
member_value_head _ _ _ (IsMemberValue.text at t s h) = record { first = quotation_mark; others = _; is = h.is; not_white_space = refl; bracket = refl; brace = refl }
member_value_head _ _ _ (IsMemberValue.number at t h) = number_head_is t h
member_value_head _ _ _ (IsMemberValue.object at t h) = record { first = left_curly_bracket; others = t; is = refl; not_white_space = refl; bracket = refl; brace = refl }
member_value_head _ _ _ (IsMemberValue.array at t b h) = record { first = left_square_bracket; others = t; is = refl; not_white_space = refl; bracket = refl; brace = refl }
member_value_head _ _ _ (IsMemberValue.word at t h) = word_head_is t h

-- ---- members

member_parts : (key before v after rest : List ℕ) → (key ++ (before ++ (v ++ after))) ++ rest ≡ key ++ (before ++ (v ++ (after ++ rest)))
member_parts key before v after rest =
    append_assoc key (before ++ (v ++ after)) rest ∙ ap (λ (y : List ℕ). key ++ y) (append_assoc before (v ++ after) rest ∙ ap (λ (y : List ℕ). before ++ y) (append_assoc v after rest))

four_lengths : (a b c d : List ℕ) → length (a ++ (b ++ (c ++ d))) ≡ length a + length b + length (c ++ d)
four_lengths a b c d = omega (arith, length-append a (b ++ (c ++ d)), length-append b (c ++ d))

member_read : (total : ℕ) (t name behind value_text left rest : List ℕ) (m : MemberValue) → key_at t ≡ Some (name, behind) → after_white_space behind ≡ value_text → member_value_at total value_text ≡ Some (m, left) → after_white_space left ≡ rest
    → member_at total t ≡ Some (record { key = name; value = m }, rest)
unfolding member_at
member_read total t name behind value_text left rest m k b v a = rw (k, b, v) (ap (λ (y : List ℕ). Some (record { key = name; value = m }, y)) a)

pub member_again : (at : ℕ) (t : List ℕ) (m : Member) → IsMember at t m → (total x : ℕ) (rest : List ℕ) → Closes x → total ≡ at + length (t ++ x ∷ rest) → member_at total (t ++ x ∷ rest) ≡ Some (m, x ∷ rest)
member_again at t m h total x rest c is =
    let behind : List ℕ = h.before ++ (h.value ++ (h.after ++ x ∷ rest)) in
    let cut : t ++ x ∷ rest ≡ h.key ++ behind = ap (λ (y : List ℕ). y ++ x ∷ rest) h.is ∙ member_parts h.key h.before h.value h.after (x ∷ rest) in
    let place : total ≡ at + length h.key + length h.before + length (h.value ++ (h.after ++ x ∷ rest)) = omega (arith, is, ap length cut, four_lengths h.key h.before h.value (h.after ++ x ∷ rest)) in
    member_read total (t ++ x ∷ rest) m.key behind (h.value ++ (h.after ++ x ∷ rest)) (h.after ++ x ∷ rest) (x ∷ rest) m.value
    (ap key_at cut ∙ key_again h.key m.key behind h.is_key)
    (white_space_again h.before _ h.white_space_before (head_no_white_space h.value _ (member_value_head _ h.value m.value h.is_value)))
    (member_value_again _ h.value m.value h.is_value total (h.after ++ x ∷ rest) place (white_space_end h.after x rest h.white_space_after c))
    (white_space_again h.after (x ∷ rest) h.white_space_after c.not_white_space)

member_starts : (at : ℕ) (t : List ℕ) (m : Member) → IsMember at t m → Starts true t
member_starts at t m h = starts_at true (h.key ++ (h.before ++ (h.value ++ h.after))) t h.is (key_starts h.key m.key (h.before ++ (h.value ++ h.after)) h.is_key)

members_start : (at : ℕ) (t : List ℕ) (ms : List Member) → AreMembers at t ms → Starts true t
members_start _ _ _ (AreMembers.last at v t m h e) = starts_then true v t (member_starts at v m h) _ e
members_start _ _ _ (AreMembers.more at v u t m ms h hs e) = starts_then true v t (member_starts at v m h) _ e

turn_ends : (total : ℕ) (t : List ℕ) (m : Member) (rest : List ℕ) → member_at total t ≡ Some (m, right_curly_bracket ∷ rest) → member_turn_at total t ≡ Some (m, true, rest)
unfolding member_turn_at
turn_ends total t m rest e = rw e refl

turn_goes : (total : ℕ) (t : List ℕ) (m : Member) (rest : List ℕ) → member_at total t ≡ Some (m, comma ∷ rest) → member_turn_at total t ≡ Some (m, false, rest)
unfolding member_turn_at
turn_goes total t m rest e = rw e refl

last_turn : (total n : ℕ) (t : List ℕ) (m : Member) (rest : List ℕ) → 0 < n → member_turn_at total t ≡ Some (m, true, rest) → members_at total n t ≡ Some (m ∷ [], rest)
unfolding members_at
last_turn total zero t m rest lt e = absurd (omega arith)
last_turn total (suc n) t m rest lt e = rw e refl

next_turn : (total n : ℕ) (t : List ℕ) (m : Member) (ms : List Member) (next rest : List ℕ) → member_turn_at total t ≡ Some (m, false, next) → members_at total n next ≡ Some (ms, rest) → members_at total (suc n) t ≡ Some (m ∷ ms, rest)
unfolding members_at
next_turn total n t m ms next rest e more = rw (e, more) refl

members_again : (at : ℕ) (t : List ℕ) (ms : List Member) → AreMembers at t ms → (total : ℕ) (rest : List ℕ) (n : ℕ) → total ≡ at + length (t ++ rest) → length t ≤ n → members_at total n (t ++ rest) ≡ Some (ms, rest)
members_again _ _ _ (AreMembers.last at v t m h e) total rest n is le =
    let cut = split v [] t rest right_curly_bracket e in
    last_turn total n (t ++ rest) m rest (omega (arith, le, ap length e, length-append v (right_curly_bracket ∷ [])))
    (turn_ends total (t ++ rest) m rest (ap (member_at total) cut ∙ member_again at v m h total right_curly_bracket rest (close_ends true) (is ∙ ap (λ (y : List ℕ). at + length y) cut)))
members_again _ _ _ (AreMembers.more at v u t m ms h hs e) total rest zero is le = absurd (omega (arith, le, ap length e, length-append v (comma ∷ u)))
members_again _ _ _ (AreMembers.more at v u t m ms h hs e) total rest (suc n) is le =
    let cut = split v u t rest comma e in
    let place : total ≡ at + length v + 1 + length (u ++ rest) = omega (arith, is, ap length cut, length-append v (comma ∷ (u ++ rest))) in
    next_turn total n (t ++ rest) m ms (u ++ rest) rest
    (turn_goes total (t ++ rest) m (u ++ rest) (ap (member_at total) cut ∙ member_again at v m h total comma (u ++ rest) comma_ends (is ∙ ap (λ (y : List ℕ). at + length y) cut)))
    (members_again _ u ms hs total rest n place (omega (arith, le, ap length e, length-append v (comma ∷ u))))

-- ---- the object

-- an object at the front: what stands behind its brace
pub record ObjectFront (total : ℕ) (t : List ℕ) (ms : List Member) (rest : List ℕ) : Type 0 where
  pub inside : List ℕ
  pub is : t ++ rest ≡ left_curly_bracket ∷ inside
  pub reads : object_at total inside ≡ Some (ms, rest)

empty_reads : (total : ℕ) (w rest : List ℕ) → IsWhiteSpace w → object_at total (w ++ right_curly_bracket ∷ rest) ≡ Some ([], rest)
unfolding object_at
empty_reads total w rest h = let e : after_white_space (w ++ right_curly_bracket ∷ rest) ≡ right_curly_bracket ∷ rest = white_space_again w (right_curly_bracket ∷ rest) h refl in rw e refl

members_read : (total : ℕ) (t : List ℕ) (r : Option ReadMembers) → Starts true t → (rest : List ℕ) → members_at total (length (t ++ rest)) (t ++ rest) ≡ r → object_at total (t ++ rest) ≡ r
unfolding object_at
members_read total t r s rest e =
    let is : after_white_space (t ++ rest) ≡ s.first ∷ (s.others ++ rest) = starts_behind true t s rest in
    let opens = s.opens in
    rw (is, opens) e

pub object_again : (at : ℕ) (t : List ℕ) (ms : List Member) → IsObject at t ms → (total : ℕ) (rest : List ℕ) → total ≡ at + length (t ++ rest) → ObjectFront total t ms rest
object_again _ _ _ (IsObject.empty at w t h e) total rest is = record {
  inside = w ++ right_curly_bracket ∷ rest;
  is = ap (λ (y : List ℕ). y ++ rest) e ∙ ap (λ (y : List ℕ). left_curly_bracket ∷ y) (append_assoc w (right_curly_bracket ∷ []) rest);
  reads = empty_reads total w rest h;
}
object_again _ _ _ (IsObject.members at u t ms h e) total rest is =
    let place : total ≡ at + 1 + length (u ++ rest) = omega (arith, is, ap length (ap (λ (y : List ℕ). y ++ rest) e)) in
    record {
      inside = u ++ rest;
      is = ap (λ (y : List ℕ). y ++ rest) e;
      reads = members_read total u _ (members_start _ u ms h) rest (members_again _ u ms h total rest _ place (omega (arith, length-append u rest)));
    }

pub opened_again : (total : ℕ) (inside : List ℕ) (ms : List Member) (rest : List ℕ) → object_at total inside ≡ Some (ms, rest) → opened total (left_curly_bracket ∷ inside) ≡ Ok (ms, rest)
opened_again total inside ms rest e = rw e refl

pub answer_again : (bytes : List ℕ) (ms : List Member) (end : ℕ) (h : HasObject bytes ms end) → object_answer bytes ≡ Ok (ms, h.rest)
unfolding object_answer
answer_again bytes ms end h =
    let place : length bytes ≡ length h.white_space + length (h.text ++ h.rest) = ap length h.is ∙ length-append h.white_space (h.text ++ h.rest) in
    let f = object_again (length h.white_space) h.text ms h.object (length bytes) h.rest place in
    let behind : after_white_space bytes ≡ left_curly_bracket ∷ f.inside = ap after_white_space (h.is ∙ ap (λ (y : List ℕ). h.white_space ++ y) f.is) ∙ white_space_again h.white_space (left_curly_bracket ∷ f.inside) h.is_white_space refl in
    ap (opened (length bytes)) behind ∙ opened_again (length bytes) f.inside ms h.rest f.reads

pub end_is : (bytes : List ℕ) (ms : List Member) (end : ℕ) (h : HasObject bytes ms end) → end ≡ length bytes - length h.rest
end_is bytes ms end h = omega (arith, h.ends, ap length h.is, length-append h.white_space (h.text ++ h.rest), length-append h.text h.rest)
