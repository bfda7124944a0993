-- The object that stands first in a written object.
use Rattle.std.proofs.Common.{◌≡◌, ℕ, ◌+◌, ◌-◌, List, [], ◌∷◌, ◌++◌, length, map, drop, true, Option, Some, refl, sym, ap, subst, ◌∙◌, append_assoc, arith, length-append}
use Rattle.std.specs.Prelude.{IsTrue}
use Rattle.std.specs.Str.{encode_utf8_all, all_scalars}
use Rattle.std.proofs.lemmas.List.{drop_at, take-append-drop}
use Rattle.cfg_json.specs.Ascii.{comma, colon, left_curly_bracket, right_curly_bracket}
use Rattle.cfg_json.specs.WhiteSpace.{is_json_white_space, IsWhiteSpace}
use Rattle.cfg_json.specs.Values.{IsKey}
use Rattle.cfg_json.specs.Objects.{IsMemberValue, IsMember, AreMembers, IsObject, HasObject}
use Rattle.cfg_json.specs.Places.{between}
use Rattle.cfg_json.specs.ReadingValues.{key_at}
use Rattle.cfg_json.specs.Writing.{quoted, braced}
use Rattle.cfg_json.specs.WrittenObjects.{WrittenObject, members_text, HasScalars, Nests, told_member, told}
use Rattle.cfg_json.specs.declared.member.Member.{Member}
use Rattle.cfg_json.specs.declared.member.MemberValue.{MemberValue}
use Rattle.cfg_json.specs.declared.member.MemberValue.TheVariants as value
use Rattle.cfg_json.proofs.AnswerLaws.{one_list_is}
use Rattle.cfg_json.proofs.InnerObjects.{inner_object_is}
use Rattle.cfg_json.proofs.LeafLaws.{key_again}
use Rattle.cfg_json.proofs.WrittenStrings.{written_string, ascii_first}
use Rattle.cfg_json.proofs.WrittenObjectLaws.{written_object}
use Rattle.cfg_login_token.specs.Access.{members_in}
use Rattle.cfg_login_token.proofs.Inner.{members_are, nothing_left}

-- a key as it is written, with its colon, and an object as it is written
abbrev pub key_bytes : List ℕ → List ℕ
key_bytes key = encode_utf8_all (quoted key) ++ colon ∷ []

abbrev pub object_bytes : WrittenObject → List ℕ
object_bytes w = encode_utf8_all (braced (members_text w))

key_is : (key : List ℕ) → all_scalars key ≡ true → IsKey (key_bytes key) key
key_is key h = record { before = []; string = encode_utf8_all (quoted key); after = []; is = refl; white_space_before = tt; is_string = written_string key h; white_space_after = tt }

-- no white space stands before a brace
opens_at_once : (w t u : List ℕ) → IsWhiteSpace w → w ++ t ≡ left_curly_bracket ∷ u → w ≡ []
opens_at_once [] t u h e = refl
opens_at_once (b ∷ w) t u h e = absurd (no_white (subst (λ (x : ℕ). IsTrue (is_json_white_space x)) (same b (w ++ t) u e) h.0))
  where
    same : (b : ℕ) (s u : List ℕ) → b ∷ s ≡ left_curly_bracket ∷ u → b ≡ left_curly_bracket
    same b s u e = cc

    no_white : IsTrue (is_json_white_space left_curly_bracket) → ⊥
    no_white e = absurd cc

object_opens : (w : WrittenObject) → (t : List ℕ) × (object_bytes w ≡ left_curly_bracket ∷ t)
unfolding braced
object_opens w = (encode_utf8_all (members_text w ++ right_curly_bracket ∷ []), ascii_first left_curly_bracket (members_text w ++ right_curly_bracket ∷ []) (omega arith))

-- ---- the first member

same_first : (a b : Member) (s t : List Member) → a ∷ s ≡ b ∷ t → a ≡ b
same_first a b s t e = cc

record First (at : ℕ) (t : List ℕ) (m : Member) : Type 0 where
  key : List ℕ
  before : List ℕ
  value : List ℕ
  back : List ℕ
  is : t ≡ left_curly_bracket ∷ (key ++ (before ++ (value ++ back)))
  is_key : IsKey key m.key
  is_white : IsWhiteSpace before
  is_value : IsMemberValue (at + 1 + length key + length before) value m.value

of_member : (at : ℕ) (t v back : List ℕ) (n m : Member) → IsMember (at + 1) v n → n ≡ m → t ≡ left_curly_bracket ∷ (v ++ back) → First at t m
of_member at t v back n m h same e =
    subst (First at t) same
    (record {
      key = h.key;
      before = h.before;
      value = h.value;
      back = h.after ++ back;
      is = e ∙ ap (λ (y : List ℕ). left_curly_bracket ∷ (y ++ back)) h.is ∙ ap (λ (y : List ℕ). left_curly_bracket ∷ y) (parts h.key h.before h.value h.after);
      is_key = h.is_key;
      is_white = h.white_space_before;
      is_value = h.is_value;
    })
  where
    parts : (key before v after : List ℕ) → (key ++ (before ++ (v ++ after))) ++ back ≡ key ++ (before ++ (v ++ (after ++ back)))
    parts key before v after = append_assoc key (before ++ (v ++ after)) back ∙ ap (λ (y : List ℕ). key ++ y) (append_assoc before (v ++ after) back ∙ ap (λ (y : List ℕ). before ++ y) (append_assoc v after back))

first_of : (at : ℕ) (t : List ℕ) (ms : List Member) → IsObject at t ms → (m : Member) (rest : List Member) → ms ≡ m ∷ rest → First at t m
first_of _ _ _ (IsObject.empty at w t h e) m rest is = absurd (none m rest is)
  where
    none : (m : Member) (rest : List Member) → [] ≡ m ∷ rest → ⊥
    none m rest is = absurd cc
first_of _ _ _ (IsObject.members at u t ms hs e) m rest is = among (at + 1) u ms hs refl is e
  where
    among : (place : ℕ) (u : List ℕ) (ms : List Member) → AreMembers place u ms → place ≡ at + 1 → ms ≡ m ∷ rest → t ≡ left_curly_bracket ∷ u → First at t m
    among _ _ _ (AreMembers.last place v u n h k) p is e =
        of_member at t v (right_curly_bracket ∷ []) n m (subst (λ (x : ℕ). IsMember x v n) p h) (same_first n m [] rest is) (e ∙ ap (λ (y : List ℕ). left_curly_bracket ∷ y) k)
    among _ _ _ (AreMembers.more place v w u n ns h hs k) p is e =
        of_member at t v (comma ∷ w) n m (subst (λ (x : ℕ). IsMember x v n) p h) (same_first n m ns rest is) (e ∙ ap (λ (y : List ℕ). left_curly_bracket ∷ y) k)

begins : (at : ℕ) (v : List ℕ) (m : MemberValue) → IsMemberValue at v m → (from to : ℕ) → m ≡ value.Object from to → from ≡ at
begins _ _ _ (IsMemberValue.text at t s h) from to e = absurd cc
begins _ _ _ (IsMemberValue.number at t h) from to e = absurd cc
begins _ _ _ (IsMemberValue.object at t h) from to e = (let same : at ≡ from = cc in sym same)
begins _ _ _ (IsMemberValue.array at t b h) from to e = absurd cc
begins _ _ _ (IsMemberValue.word at t h) from to e = absurd cc

-- more may follow an object
further : (bytes more : List ℕ) (list : List Member) (end : ℕ) → HasObject bytes list end → HasObject (bytes ++ more) list end
further bytes more list end h = record {
  white_space = h.white_space;
  text = h.text;
  rest = h.rest ++ more;
  is = ap (λ (y : List ℕ). y ++ more) h.is ∙ append_assoc h.white_space (h.text ++ h.rest) more ∙ ap (λ (y : List ℕ). h.white_space ++ y) (append_assoc h.text h.rest more);
  is_white_space = h.is_white_space;
  object = h.object;
  ends = h.ends;
}

same_behind : (k l : List ℕ) (x y : List ℕ) (n o : List ℕ) → IsKey k n → IsKey l o → k ++ x ≡ l ++ y → x ≡ y
same_behind k l x y n o h i e = behind (sym (key_again k n x h) ∙ ap key_at e ∙ key_again l o y i)
  where
    behind : (let a : Option (List ℕ × List ℕ) = Some (n, x) in a) ≡ Some (o, y) → x ≡ y
    behind e = (let p : (n, x) ≡ (o, y) = cc in ap (λ (q : List ℕ × List ℕ). q.1) p)

tail_same : (s t : List ℕ) → left_curly_bracket ∷ s ≡ left_curly_bracket ∷ t → s ≡ t
tail_same s t e = cc

-- where the object behind the first key begins
first_place : (bytes : List ℕ) (list rest : List Member) (m : Member) (end from to : ℕ) (key more : List ℕ) (inner : WrittenObject) → all_scalars key ≡ true → bytes ≡ left_curly_bracket ∷ (key_bytes key ++ (object_bytes inner ++ more)) →
    HasObject bytes list end → list ≡ m ∷ rest → m.value ≡ value.Object from to → from ≡ length (left_curly_bracket ∷ key_bytes key)
first_place bytes list rest m end from to key more inner s e h is o =
    let w : h.white_space ≡ [] = opens_at_once h.white_space (h.text ++ h.rest) _ h.is_white_space (sym h.is ∙ e) in
    let f : First (length h.white_space) h.text m = first_of (length h.white_space) h.text list h.object m rest is in
    let whole : bytes ≡ left_curly_bracket ∷ (f.key ++ (f.before ++ (f.value ++ (f.back ++ h.rest)))) =
    h.is ∙ ap (λ (y : List ℕ). y ++ (h.text ++ h.rest)) w ∙ ap (λ (y : List ℕ). y ++ h.rest) f.is ∙ ap (λ (y : List ℕ). left_curly_bracket ∷ y) (parts f.key f.before f.value f.back h.rest) in
    let both : f.key ++ (f.before ++ (f.value ++ (f.back ++ h.rest))) ≡ key_bytes key ++ (object_bytes inner ++ more) = tail_same _ _ (sym whole ∙ e) in
    let behind : f.before ++ (f.value ++ (f.back ++ h.rest)) ≡ object_bytes inner ++ more = same_behind f.key (key_bytes key) _ _ m.key key f.is_key (key_is key s) both in
    let opens = object_opens inner in
    let none : f.before ≡ [] = opens_at_once f.before (f.value ++ (f.back ++ h.rest)) (opens.0 ++ more) f.is_white (behind ∙ ap (λ (y : List ℕ). y ++ more) opens.1) in
    omega (arith, begins _ f.value m.value f.is_value from to o, ap length w, ap length none, ap length both, ap length behind, length-append f.key (f.before ++ (f.value ++ (f.back ++ h.rest))), length-append (key_bytes key) (object_bytes inner ++ more))
  where
    parts : (key before v back rest : List ℕ) → (key ++ (before ++ (v ++ back))) ++ rest ≡ key ++ (before ++ (v ++ (back ++ rest)))
    parts key before v back rest = append_assoc key (before ++ (v ++ back)) rest ∙ ap (λ (y : List ℕ). key ++ y) (append_assoc before (v ++ back) rest ∙ ap (λ (y : List ℕ). before ++ y) (append_assoc v back rest))

-- what is read at the place of the first member, where an object was written there
pub first_object : (bytes : List ℕ) (list rest : List Member) (m : Member) (end from to : ℕ) (key more : List ℕ) (inner : WrittenObject) → all_scalars key ≡ true → HasScalars inner → Nests inner 127 →
    bytes ≡ left_curly_bracket ∷ (key_bytes key ++ (object_bytes inner ++ more)) → HasObject bytes list end → list ≡ m ∷ rest → m.value ≡ value.Object from to → map told_member (members_in (between bytes from to)) ≡ told inner
first_object bytes list rest m end from to key more inner s scalars nests e h is o =
    let place = first_place bytes list rest m end from to key more inner s e h is o in
    let left : drop from bytes ≡ object_bytes inner ++ more = ap (drop from) e ∙ drop_at (left_curly_bracket ∷ key_bytes key) (object_bytes inner ++ more) from (sym place) in
    let i = inner_object_is bytes [] rest m end from to (subst (λ (ms : List Member). HasObject bytes ms end) is h) o in
    let w = written_object inner scalars nests in
    let read : HasObject (drop from bytes) i.0 (to - from) = subst (λ (b : List ℕ). HasObject b i.0 (to - from)) (take-append-drop (to - from) (drop from bytes)) (further (between bytes from to) (drop (to - from) (drop from bytes)) i.0 (to - from) i.1) in
    let written : HasObject (drop from bytes) w.0 w.1 = subst (λ (b : List ℕ). HasObject b w.0 w.1) (sym left) (further (object_bytes inner) more w.0 w.1 w.2) in
    let same : i.0 ≡ w.0 = (one_list_is (drop from bytes) i.0 (to - from) w.0 w.1 read written).0 in
    ap (map told_member) (members_are (between bytes from to) i.0 (to - from) i.1 (nothing_left bytes from to) ∙ same) ∙ w.4
