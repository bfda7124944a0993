-- The bytes of a member that is an object are an object.
use Rattle.std.proofs.Common.{◌≡◌, ℕ, suc, ◌+◌, ◌-◌, inl, inr, List, [], ◌∷◌, ◌++◌, length, take, drop, Bool, true, false, refl, sym, ap, ◌∙◌, append_assoc, arith, length-append}
use Rattle.std.specs.Prelude.{codes}
use Rattle.std.proofs.lemmas.Bool.{eqb-false, true≢false}
use Rattle.std.proofs.lemmas.List.{append-nil, take_at, drop_at}
use Rattle.cfg_json.specs.Ascii.{quotation_mark, comma, left_square_bracket, right_square_bracket, small_f, small_n, small_t, left_curly_bracket, right_curly_bracket}
use Rattle.cfg_json.specs.WhiteSpace.{IsWhiteSpace}
use Rattle.cfg_json.specs.Values.{close_of, IsWord, IsValue, IsItem, AreItems}
use Rattle.cfg_json.specs.Objects.{inner_depth, IsMemberValue, IsMember, AreMembers, IsObject, HasObject}
use Rattle.cfg_json.specs.Places.{between}
use Rattle.cfg_json.specs.declared.member.Member.{Member}
use Rattle.cfg_json.specs.declared.member.MemberValue.{MemberValue}
use Rattle.cfg_json.specs.declared.member.MemberValue.TheVariants as value
use Rattle.cfg_json.proofs.LeafLaws.{number_head, not_number}

-- ---- what nests to a depth nests to the next one

mutual
  deeper_value : (d : ℕ) (t : List ℕ) (b : Bool) → IsValue d t b → IsValue (suc d) t b
  deeper_value _ _ _ (IsValue.string d t s h) = IsValue.string (suc d) t s h
  deeper_value _ _ _ (IsValue.number d t h) = IsValue.number (suc d) t h
  deeper_value _ _ _ (IsValue.word d t h) = IsValue.word (suc d) t h
  deeper_value _ _ _ (IsValue.no_items d w h) = IsValue.no_items (suc d) w h
  deeper_value _ _ _ (IsValue.items d t b h) = IsValue.items (suc d) t b (deeper_items false d t b h)
  deeper_value _ _ _ (IsValue.no_members d w h) = IsValue.no_members (suc d) w h
  deeper_value _ _ _ (IsValue.members d t b h) = IsValue.members (suc d) t b (deeper_items true d t b h)

  deeper_item : (k : Bool) (d : ℕ) (t : List ℕ) (b : Bool) → IsItem k d t b → IsItem k (suc d) t b
  deeper_item _ _ _ _ (IsItem.bare d v before after t b h hb ha is) = IsItem.bare (suc d) v before after t b (deeper_value d v b h) hb ha is
  deeper_item _ _ _ _ (IsItem.keyed d key name v t b h hv is) = IsItem.keyed (suc d) key name v t b h (deeper_item false d v b hv) is

  deeper_items : (k : Bool) (d : ℕ) (t : List ℕ) (b : Bool) → AreItems k d t b → AreItems k (suc d) t b
  deeper_items _ _ _ _ (AreItems.last k d v t b h e) = AreItems.last k (suc d) v t b (deeper_item k d v b h) e
  deeper_items _ _ _ _ (AreItems.more k d v u t b c h hs e) = AreItems.more k (suc d) v u t b c (deeper_item k d v b h) (deeper_items k d u c hs) e

-- ---- a value that is an object has a list of members

-- values of this depth may stand in a member of the outer object
abbrev Fits : ℕ → Type 0
Fits d = (t : List ℕ) (b : Bool) → IsValue d t b → IsValue inner_depth t b

as_value : (d : ℕ) (v : List ℕ) (b : Bool) → IsValue d v b → Fits d → (at : ℕ) → (m : MemberValue) × IsMemberValue at v m
as_value _ _ _ (IsValue.string d t s h) fits at = (value.Text s, IsMemberValue.text at t s h)
as_value _ _ _ (IsValue.number d t h) fits at = (value.Number t, IsMemberValue.number at t h)
as_value _ _ _ (IsValue.word d t h) fits at = (value.Other, IsMemberValue.word at t h)
as_value _ _ _ (IsValue.no_items d w h) fits at = (value.Array false, IsMemberValue.array at (w ++ right_square_bracket ∷ []) false (fits _ _ (IsValue.no_items d w h)))
as_value _ _ _ (IsValue.items d t b h) fits at = (value.Array b, IsMemberValue.array at t b (fits _ _ (IsValue.items d t b h)))
as_value _ _ _ (IsValue.no_members d w h) fits at = (value.Object at (at + length (left_curly_bracket ∷ (w ++ right_curly_bracket ∷ []))), IsMemberValue.object at (w ++ right_curly_bracket ∷ []) (fits _ _ (IsValue.no_members d w h)))
as_value _ _ _ (IsValue.members d t b h) fits at = (value.Object at (at + length (left_curly_bracket ∷ t)), IsMemberValue.object at t (fits _ _ (IsValue.members d t b h)))

record Bare (d : ℕ) (t : List ℕ) : Type 0 where
  before : List ℕ
  text : List ℕ
  after : List ℕ
  has : Bool
  is : t ≡ before ++ (text ++ after)
  is_value : IsValue d text has
  white_before : IsWhiteSpace before
  white_after : IsWhiteSpace after

bare_is : (k : Bool) (d : ℕ) (t : List ℕ) (b : Bool) → IsItem k d t b → k ≡ false → Bare d t
bare_is _ _ _ _ (IsItem.bare d v before after t b h hb ha is) e = record { before = before; text = v; after = after; has = b; is = is; is_value = h; white_before = hb; white_after = ha }
bare_is _ _ _ _ (IsItem.keyed d key name v t b h hv is) e = absurd (true≢false e)

as_member : (k : Bool) (d : ℕ) (t : List ℕ) (b : Bool) → IsItem k d t b → k ≡ true → Fits d → (at : ℕ) → (m : Member) × IsMember at t m
as_member _ _ _ _ (IsItem.bare d v before after t b h hb ha is) e fits at = absurd (true≢false (sym e))
as_member _ _ _ _ (IsItem.keyed d key name v t b h hv is) e fits at =
    let r = bare_is false d v b hv refl in
    let w = as_value d r.text r.has r.is_value fits (at + length key + length r.before) in (
      record { key = name; value = w.0 },
      record {
        key = key;
        before = r.before;
        value = r.text;
        after = r.after;
        is = is ∙ ap (λ (y : List ℕ). key ++ y) r.is;
        is_key = h;
        white_space_before = r.white_before;
        is_value = w.1;
        white_space_after = r.white_after;
      },
    )

as_members : (k : Bool) (d : ℕ) (t : List ℕ) (b : Bool) → AreItems k d t b → k ≡ true → Fits d → (at : ℕ) → (ms : List Member) × AreMembers at t ms
as_members _ _ _ _ (AreItems.last k d v t b h e) is fits at =
    let m = as_member k d v b h is fits at in
    (m.0 ∷ [], AreMembers.last at v t m.0 m.1 (e ∙ ap (λ (x : Bool). v ++ close_of x ∷ []) is))
as_members _ _ _ _ (AreItems.more k d v u t b c h hs e) is fits at =
    let m = as_member k d v b h is fits at in
    let ms = as_members k d u c hs is fits (at + length v + 1) in
    (m.0 ∷ ms.0, AreMembers.more at v u t m.0 ms.0 m.1 ms.1 e)

first_is : (x y : ℕ) (t u : List ℕ) → x ∷ t ≡ y ∷ u → x ≡ y
first_is x y t u e = cc

no_brace : (x : ℕ) (t u : List ℕ) → (x ≡ left_curly_bracket → ⊥) → x ∷ t ≡ left_curly_bracket ∷ u → ⊥
no_brace x t u other e = other (first_is x left_curly_bracket t u e)

word_no_brace : (t u : List ℕ) → IsWord t → t ≡ left_curly_bracket ∷ u → ⊥
word_no_brace t u h e = elim h [
  | inl a ↦ no_brace small_t (codes "rue") u (λ n. omega arith) (sym a ∙ e)
  | inr b ↦ (elim b [
    | inl a ↦ no_brace small_f (codes "alse") u (λ n. omega arith) (sym a ∙ e)
    | inr a ↦ no_brace small_n (codes "ull") u (λ n. omega arith) (sym a ∙ e)
  ])
]

as_object : (d : ℕ) (t : List ℕ) (b : Bool) → IsValue d t b → (tail : List ℕ) → t ≡ left_curly_bracket ∷ tail → Fits d → (ms : List Member) × IsObject 0 t ms
as_object _ _ _ (IsValue.string d t s h) tail e fits = absurd (no_brace quotation_mark _ tail (λ n. omega arith) (sym h.is ∙ e))
as_object _ _ _ (IsValue.number d t h) tail e fits = let k = number_head t h in absurd (no_brace k.first k.others tail (eqb-false k.first left_curly_bracket (not_number k.first left_curly_bracket refl refl k.digit)) (sym k.is ∙ e))
as_object _ _ _ (IsValue.word d t h) tail e fits = absurd (word_no_brace t tail h e)
as_object _ _ _ (IsValue.no_items d w h) tail e fits = absurd (no_brace left_square_bracket _ tail (λ n. omega arith) e)
as_object _ _ _ (IsValue.items d t b h) tail e fits = absurd (no_brace left_square_bracket _ tail (λ n. omega arith) e)
as_object _ _ _ (IsValue.no_members d w h) tail e fits = ([], IsObject.empty 0 w _ h refl)
as_object _ _ _ (IsValue.members d t b h) tail e fits = let ms = as_members true d t b h refl (λ u c v. fits u c (deeper_value d u c v)) 1 in (ms.0, IsObject.members 0 t _ ms.0 ms.1 refl)

-- ---- where a member that is an object stands

record Placed (t : List ℕ) (at from to : ℕ) : Type 0 where
  before : List ℕ
  tail : List ℕ
  after : List ℕ
  is : t ≡ before ++ ((left_curly_bracket ∷ tail) ++ after)
  begins : from ≡ at + length before
  ends : to ≡ from + length (left_curly_bracket ∷ tail)
  is_object : IsValue inner_depth (left_curly_bracket ∷ tail) true

shifted : (at place : ℕ) (front t whole back : List ℕ) (from to : ℕ) → Placed t place from to → whole ≡ front ++ (t ++ back) → place ≡ at + length front → Placed whole at from to
shifted at place front t whole back from to p e is = record {
  before = front ++ p.before;
  tail = p.tail;
  after = p.after ++ back;
  is = e ∙ ap (λ (y : List ℕ). front ++ (y ++ back)) p.is ∙ simp append_assoc;
  begins = omega (arith, p.begins, is, length-append front p.before);
  ends = p.ends;
  is_object = p.is_object;
}

value_placed : (at : ℕ) (v : List ℕ) (m : MemberValue) → IsMemberValue at v m → (from to : ℕ) → m ≡ value.Object from to → Placed v at from to
value_placed _ _ _ (IsMemberValue.text at t s h) from to e = absurd cc
value_placed _ _ _ (IsMemberValue.number at t h) from to e = absurd cc
value_placed _ _ _ (IsMemberValue.object at t h) from to e =
    let begins : at ≡ from = cc in
    let ends : at + length (left_curly_bracket ∷ t) ≡ to = cc in
    record { before = []; tail = t; after = []; is = sym (append-nil (left_curly_bracket ∷ t)); begins = omega (arith, begins); ends = omega (arith, begins, ends); is_object = h }
value_placed _ _ _ (IsMemberValue.array at t b h) from to e = absurd cc
value_placed _ _ _ (IsMemberValue.word at t h) from to e = absurd cc

member_placed : (at : ℕ) (t : List ℕ) (m : Member) → IsMember at t m → (from to : ℕ) → m.value ≡ value.Object from to → Placed t at from to
member_placed at t m h from to e =
    shifted at (at + length h.key + length h.before) (h.key ++ h.before) h.value t h.after from to (value_placed _ h.value m.value h.is_value from to e)
    (h.is ∙ sym (append_assoc h.key h.before (h.value ++ h.after))) (omega (arith, length-append h.key h.before))

same_member : (n m : Member) (s t : List Member) → n ∷ s ≡ m ∷ t → n ≡ m
same_member n m s t e = cc

same_others : (n m : Member) (s t : List Member) → n ∷ s ≡ m ∷ t → s ≡ t
same_others n m s t e = cc

no_middle : (before : List Member) (m : Member) (after : List Member) → [] ≡ before ++ m ∷ after → ⊥
no_middle [] m after e = absurd cc
no_middle (b ∷ before) m after e = absurd cc

first_placed : (at : ℕ) (v t back : List ℕ) (n m : Member) (s after : List Member) (from to : ℕ) → IsMember at v n → t ≡ v ++ back → n ∷ s ≡ m ∷ after → m.value ≡ value.Object from to → Placed t at from to
first_placed at v t back n m s after from to h e is o =
    shifted at at [] v t back from to (member_placed at v n h from to (ap (λ (x : Member). x.value) (same_member n m s after is) ∙ o)) e (omega arith)

members_placed : (at : ℕ) (t : List ℕ) (ms : List Member) → AreMembers at t ms → (before : List Member) (m : Member) (after : List Member) (from to : ℕ) → ms ≡ before ++ m ∷ after → m.value ≡ value.Object from to → Placed t at from to
members_placed _ _ _ (AreMembers.last at v t n h e) [] m after from to is o = first_placed at v t (right_curly_bracket ∷ []) n m [] after from to h e is o
members_placed _ _ _ (AreMembers.last at v t n h e) (b ∷ before) m after from to is o = absurd (no_middle before m after (same_others n b [] (before ++ m ∷ after) is))
members_placed _ _ _ (AreMembers.more at v u t n ms h hs e) [] m after from to is o = first_placed at v t (comma ∷ u) n m ms after from to h e is o
members_placed _ _ _ (AreMembers.more at v u t n ms h hs e) (b ∷ before) m after from to is o =
    shifted at (at + length v + 1) (v ++ comma ∷ []) u t [] from to (members_placed _ u ms hs before m after from to (same_others n b ms (before ++ m ∷ after) is) o)
    (e ∙ simp (append_assoc, append-nil)) (omega (arith, length-append v (comma ∷ [])))

object_placed : (at : ℕ) (t : List ℕ) (ms : List Member) → IsObject at t ms → (before : List Member) (m : Member) (after : List Member) (from to : ℕ) → ms ≡ before ++ m ∷ after → m.value ≡ value.Object from to → Placed t at from to
object_placed _ _ _ (IsObject.empty at w t h e) before m after from to is o = absurd (no_middle before m after is)
object_placed _ _ _ (IsObject.members at u t ms hs e) before m after from to is o =
    shifted at (at + 1) (left_curly_bracket ∷ []) u t [] from to (members_placed (at + 1) u ms hs before m after from to is o) (e ∙ ap (λ (y : List ℕ). left_curly_bracket ∷ y) (sym (append-nil u))) (omega arith)

-- ---- the law

pub inner_object_is : (bytes : List ℕ) (before after : List Member) (m : Member) (end from to : ℕ) → HasObject bytes (before ++ m ∷ after) end → m.value ≡ value.Object from to
    → (inner : List Member) × HasObject (between bytes from to) inner (to - from)
inner_object_is bytes before after m end from to h o =
    let w : List ℕ = h.white_space in
    let p : Placed bytes 0 from to = shifted 0 (length w) w h.text bytes h.rest from to (object_placed (length w) h.text _ h.object before m after from to refl o) h.is (omega arith) in
    let text : List ℕ = left_curly_bracket ∷ p.tail in
    let start : length p.before ≡ from = omega (arith, p.begins) in
    let size : length text ≡ to - from = omega (arith, p.ends) in
    let left : drop from bytes ≡ text ++ p.after = ap (drop from) p.is ∙ drop_at p.before (text ++ p.after) from start in
    let cut : between bytes from to ≡ text = ap (take (to - from)) left ∙ take_at text p.after (to - from) size in
    let inner = as_object inner_depth text true p.is_object p.tail refl (λ t b v. v) in
    (inner.0, record { white_space = []; text = text; rest = []; is = cut ∙ sym (append-nil text); is_white_space = tt; object = inner.1; ends = omega (arith, size) })
