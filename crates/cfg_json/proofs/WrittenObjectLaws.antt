-- An object that is written is read back.
use Rattle.std.proofs.Common.{◌≡◌, ℕ, zero, suc, ◌+◌, List, [], ◌∷◌, ◌++◌, map, length, Bool, true, false, refl, sym, ap, subst, ◌∙◌, append_assoc, arith}
use Rattle.std.specs.Str.{encode_utf8_all, all_scalars}
use Rattle.std.proofs.lemmas.List.{append-nil}
use Rattle.std.proofs.lemmas.Str.{encodes-append}
use Rattle.cfg_json.specs.Ascii.{comma, colon, left_curly_bracket, right_curly_bracket}
use Rattle.cfg_json.specs.Values.{IsKey, IsValue, IsItem, AreItems}
use Rattle.cfg_json.specs.Objects.{inner_depth, IsMemberValue, IsMember, AreMembers, IsObject, HasObject}
use Rattle.cfg_json.specs.Writing.{quoted, braced, before_next, with_member}
use Rattle.cfg_json.specs.WrittenObjects.{WrittenObject, members_text, HasScalars, Nests, Tale, ToldMember, told_member, told}
use Rattle.cfg_json.specs.declared.member.Member.{Member}
use Rattle.cfg_json.specs.declared.member.MemberValue.{MemberValue}
use Rattle.cfg_json.specs.declared.member.MemberValue.TheVariants as value
use Rattle.cfg_json.proofs.WrittenStrings.{written_string, ascii_first}

abbrev bytes : List ℕ → List ℕ
bytes t = encode_utf8_all t

-- what is written of a member, as characters
abbrev member_text : List ℕ → List ℕ → List ℕ
member_text key value = quoted key ++ colon ∷ value

member_bytes : (key value : List ℕ) → bytes (member_text key value) ≡ (bytes (quoted key) ++ colon ∷ []) ++ bytes value
member_bytes key value = encodes-append (quoted key) (colon ∷ value) ∙ ap (λ (t : List ℕ). bytes (quoted key) ++ t) (ascii_first colon value (omega arith)) ∙ sym (append_assoc (bytes (quoted key)) (colon ∷ []) (bytes value))

key_is : (key : List ℕ) → all_scalars key ≡ true → IsKey (bytes (quoted key) ++ colon ∷ []) key
key_is key h = record { before = []; string = bytes (quoted key); after = []; is = refl; white_space_before = tt; is_string = written_string key h; white_space_after = tt }

braced_bytes : (t : List ℕ) → bytes (braced t) ≡ left_curly_bracket ∷ (bytes t ++ right_curly_bracket ∷ [])
unfolding braced
braced_bytes t = ascii_first left_curly_bracket (t ++ right_curly_bracket ∷ []) (omega arith) ∙ ap (λ (x : List ℕ). left_curly_bracket ∷ x) (encodes-append t (right_curly_bracket ∷ []) ∙ ap (λ (x : List ℕ). bytes t ++ x) (ascii_first right_curly_bracket [] (omega arith)))

-- one more member stands behind the others
with_member_is : (members key value : List ℕ) → with_member members key value ≡ before_next members ++ member_text key value
unfolding with_member
with_member_is members key value = refl

next_of : (front key value : List ℕ) → before_next (front ++ member_text key value) ≡ (front ++ member_text key value) ++ comma ∷ []
unfolding quoted
next_of [] key value = refl
next_of (x ∷ front) key value = refl

before_is : (members key value suffix : List ℕ) → bytes (before_next (with_member members key value)) ++ suffix ≡ bytes (before_next members) ++ (bytes (member_text key value) ++ comma ∷ suffix)
before_is members key value suffix =
    let m : List ℕ = member_text key value in
    let front : List ℕ = before_next members in
    ap (λ (t : List ℕ). bytes t ++ suffix) (ap before_next (with_member_is members key value) ∙ next_of front key value)
    ∙ ap (λ (t : List ℕ). t ++ suffix) (encodes-append (front ++ m) (comma ∷ []) ∙ ap (λ (t : List ℕ). bytes (front ++ m) ++ t) (ascii_first comma [] (omega arith)) ∙ ap (λ (t : List ℕ). t ++ comma ∷ []) (encodes-append front m))
    ∙ append_assoc (bytes front ++ bytes m) (comma ∷ []) suffix ∙ append_assoc (bytes front) (bytes m) (comma ∷ suffix)

last_is : (members key value : List ℕ) → bytes (with_member members key value) ++ right_curly_bracket ∷ [] ≡ bytes (before_next members) ++ (bytes (member_text key value) ++ right_curly_bracket ∷ [])
last_is members key value =
    ap (λ (t : List ℕ). bytes t ++ right_curly_bracket ∷ []) (with_member_is members key value) ∙ ap (λ (t : List ℕ). t ++ right_curly_bracket ∷ []) (encodes-append (before_next members) (member_text key value))
    ∙ append_assoc (bytes (before_next members)) (bytes (member_text key value)) (right_curly_bracket ∷ [])

-- ---- nested

item_is : (d : ℕ) (key value : List ℕ) (b : Bool) → all_scalars key ≡ true → IsValue d (bytes value) b → IsItem true d (bytes (member_text key value)) b
item_is d key value b h v =
    IsItem.keyed d (bytes (quoted key) ++ colon ∷ []) key (bytes value) _ b (key_is key h) (IsItem.bare d (bytes value) [] [] (bytes value) b v tt tt (sym (append-nil (bytes value)))) (member_bytes key value)

abbrev Items : ℕ → List ℕ → Type 0
Items d t = (b : Bool) × AreItems true d t b

one_before : (d : ℕ) (m suffix : List ℕ) (b : Bool) → IsItem true d m b → Items d suffix → Items d (m ++ comma ∷ suffix)
one_before d m suffix b h more = (_, AreItems.more true d m suffix (m ++ comma ∷ suffix) b more.0 h more.1 refl)

one_last : (d : ℕ) (m : List ℕ) (b : Bool) → IsItem true d m b → Items d (m ++ right_curly_bracket ∷ [])
one_last d m b h = (b, AreItems.last true d m (m ++ right_curly_bracket ∷ []) b h refl)

object_from : (d : ℕ) (t : List ℕ) → Items d t → IsValue (suc d) (left_curly_bracket ∷ t) true
object_from d t h = IsValue.members d t h.0 h.1

text_item : (d : ℕ) (key text : List ℕ) → all_scalars key ≡ true → all_scalars text ≡ true → IsItem true d (bytes (member_text key (quoted text))) false
text_item d key text h k = item_is d key (quoted text) false h (IsValue.string d (bytes (quoted text)) text (written_string text k))

mutual
  value_is : (w : WrittenObject) (d : ℕ) → HasScalars w → Nests w d → IsValue (suc d) (bytes (braced (members_text w))) true
  value_is WrittenObject.bare d h n = subst (λ (t : List ℕ). IsValue (suc d) t true) (sym (braced_bytes [])) (IsValue.no_members d [] tt)
  value_is (WrittenObject.with_text w key text) d h n =
      subst (λ (t : List ℕ). IsValue (suc d) t true) (sym (braced_bytes (with_member (members_text w) key (quoted text)) ∙ ap (λ (t : List ℕ). left_curly_bracket ∷ t) (last_is (members_text w) key (quoted text))))
      (object_from d _ (items_before w d h.0 n _ (one_last d _ false (text_item d key text h.1 h.2))))
  value_is (WrittenObject.with_object w key inner) zero h n = absurd n
  value_is (WrittenObject.with_object w key inner) (suc d) h n =
      subst (λ (t : List ℕ). IsValue (suc (suc d)) t true) (sym (braced_bytes (with_member (members_text w) key (braced (members_text inner))) ∙ ap (λ (t : List ℕ). left_curly_bracket ∷ t) (last_is (members_text w) key (braced (members_text inner)))))
      (object_from (suc d) _ (items_before w (suc d) h.0 n.0 _ (one_last (suc d) _ true (item_is (suc d) key (braced (members_text inner)) true h.1 (value_is inner d h.2 n.1)))))

  items_before : (w : WrittenObject) (d : ℕ) → HasScalars w → Nests w d → (suffix : List ℕ) → Items d suffix → Items d (bytes (before_next (members_text w)) ++ suffix)
  items_before WrittenObject.bare d h n suffix more = more
  items_before (WrittenObject.with_text w key text) d h n suffix more =
      subst (Items d) (sym (before_is (members_text w) key (quoted text) suffix)) (items_before w d h.0 n _ (one_before d _ suffix false (text_item d key text h.1 h.2) more))
  items_before (WrittenObject.with_object w key inner) zero h n suffix more = absurd n
  items_before (WrittenObject.with_object w key inner) (suc d) h n suffix more =
      subst (Items (suc d)) (sym (before_is (members_text w) key (braced (members_text inner)) suffix))
      (items_before w (suc d) h.0 n.0 _ (one_before (suc d) _ suffix true (item_is (suc d) key (braced (members_text inner)) true h.1 (value_is inner d h.2 n.1)) more))

-- ---- the outer object

member_is : (at : ℕ) (key value : List ℕ) (v : MemberValue) → all_scalars key ≡ true → IsMemberValue (at + length (bytes (quoted key) ++ colon ∷ []) + 0) (bytes value) v → IsMember at (bytes (member_text key value)) (record { key = key; value = v })
member_is at key value v h k = record {
  key = bytes (quoted key) ++ colon ∷ [];
  before = [];
  value = bytes value;
  after = [];
  is = member_bytes key value ∙ ap (λ (t : List ℕ). (bytes (quoted key) ++ colon ∷ []) ++ t) (sym (append-nil (bytes value)));
  is_key = key_is key h;
  white_space_before = tt;
  is_value = k;
  white_space_after = tt;
}

object_value : (at : ℕ) (w : WrittenObject) → HasScalars w → Nests w 126 → IsMemberValue at (bytes (braced (members_text w))) (value.Object at (at + length (bytes (braced (members_text w)))))
object_value at w h n =
    let e = braced_bytes (members_text w) in
    let v : IsValue inner_depth (left_curly_bracket ∷ (bytes (members_text w) ++ right_curly_bracket ∷ [])) true = subst (λ (t : List ℕ). IsValue inner_depth t true) e (value_is w 126 h n) in
    subst (λ (t : List ℕ). IsMemberValue at t (value.Object at (at + length t))) (sym e) (IsMemberValue.object at (bytes (members_text w) ++ right_curly_bracket ∷ []) v)

-- members of which this is told
record Back (at : ℕ) (t : List ℕ) (tales : List Tale) : Type 0 where
  list : List Member
  are : AreMembers at t list
  tells : map told_member list ≡ tales

back_more : (at : ℕ) (m suffix : List ℕ) (tales : List Tale) (member : Member) → IsMember at m member → Back (at + length m + 1) suffix tales → Back at (m ++ comma ∷ suffix) (told_member member ∷ tales)
back_more at m suffix tales member h more = record { list = member ∷ more.list; are = AreMembers.more at m suffix (m ++ comma ∷ suffix) member more.list h more.are refl; tells = ap (λ (t : List Tale). told_member member ∷ t) more.tells }

back_last : (at : ℕ) (m : List ℕ) (member : Member) → IsMember at m member → Back at (m ++ right_curly_bracket ∷ []) (told_member member ∷ [])
back_last at m member h = record { list = member ∷ []; are = AreMembers.last at m (m ++ right_curly_bracket ∷ []) member h refl; tells = refl }

text_member : (at : ℕ) (key text : List ℕ) → all_scalars key ≡ true → all_scalars text ≡ true → IsMember at (bytes (member_text key (quoted text))) (record { key = key; value = value.Text text })
text_member at key text h k = member_is at key (quoted text) (value.Text text) h (IsMemberValue.text _ (bytes (quoted text)) text (written_string text k))

-- where an object stands behind its key
abbrev place_of : ℕ → List ℕ → ℕ
place_of at key = at + length (bytes (quoted key) ++ colon ∷ []) + 0

abbrev object_of : ℕ → List ℕ → WrittenObject → Member
object_of at key inner = record { key = key; value = value.Object (place_of at key) (place_of at key + length (bytes (braced (members_text inner)))) }

object_member : (at : ℕ) (key : List ℕ) (inner : WrittenObject) → all_scalars key ≡ true → HasScalars inner → Nests inner 126 → IsMember at (bytes (member_text key (braced (members_text inner)))) (object_of at key inner)
object_member at key inner h k n = member_is at key (braced (members_text inner)) _ h (object_value (place_of at key) inner k n)

members_before : (w : WrittenObject) → HasScalars w → Nests w 127 → (at : ℕ) (suffix : List ℕ) (tales : List Tale) → ((place : ℕ) → Back place suffix tales) → Back at (bytes (before_next (members_text w)) ++ suffix) (told w ++ tales)
members_before WrittenObject.bare h n at suffix tales more = more at
members_before (WrittenObject.with_text w key text) h n at suffix tales more =
    subst (Back at _) (sym (append_assoc (told w) ((key, ToldMember.a_text text) ∷ []) tales))
    (subst (λ (t : List ℕ). Back at t (told w ++ (key, ToldMember.a_text text) ∷ tales)) (sym (before_is (members_text w) key (quoted text) suffix))
    (members_before w h.0 n at _ _ (λ place. back_more place _ suffix tales _ (text_member place key text h.1 h.2) (more _))))
members_before (WrittenObject.with_object w key inner) h n at suffix tales more =
    subst (Back at _) (sym (append_assoc (told w) ((key, ToldMember.an_object) ∷ []) tales))
    (subst (λ (t : List ℕ). Back at t (told w ++ (key, ToldMember.an_object) ∷ tales)) (sym (before_is (members_text w) key (braced (members_text inner)) suffix))
    (members_before w h.0 n.0 at _ _ (λ place. back_more place _ suffix tales (object_of place key inner) (object_member place key inner h.1 h.2 n.1) (more _))))

-- an object of which this is told
record ObjectBack (t : List ℕ) (tales : List Tale) : Type 0 where
  list : List Member
  object : IsObject 0 t list
  tells : map told_member list ≡ tales

object_back : (w : WrittenObject) → HasScalars w → Nests w 127 → ObjectBack (bytes (braced (members_text w))) (told w)
object_back WrittenObject.bare h n = record { list = []; object = IsObject.empty 0 [] _ tt (braced_bytes []); tells = refl }
object_back (WrittenObject.with_text w key text) h n =
    let b = members_before w h.0 n 1 _ _ (λ place. back_last place _ _ (text_member place key text h.1 h.2)) in
    record { list = b.list; object = IsObject.members 0 _ _ b.list b.are (braced_bytes (with_member (members_text w) key (quoted text)) ∙ ap (λ (t : List ℕ). left_curly_bracket ∷ t) (last_is (members_text w) key (quoted text))); tells = b.tells }
object_back (WrittenObject.with_object w key inner) h n =
    let b = members_before w h.0 n.0 1 _ _ (λ place. back_last place _ (object_of place key inner) (object_member place key inner h.1 h.2 n.1)) in
    record { list = b.list; object = IsObject.members 0 _ _ b.list b.are (braced_bytes (with_member (members_text w) key (braced (members_text inner))) ∙ ap (λ (t : List ℕ). left_curly_bracket ∷ t) (last_is (members_text w) key (braced (members_text inner)))); tells = b.tells }

pub written_object : (w : WrittenObject) → HasScalars w → Nests w 127
    → (list : List Member) × (end : ℕ) × HasObject (encode_utf8_all (braced (members_text w))) list end × (end ≡ length (encode_utf8_all (braced (members_text w)))) × (map told_member list ≡ told w)
written_object w h n =
    let b = object_back w h n in
    let t : List ℕ = encode_utf8_all (braced (members_text w)) in
    (b.list, length t, record { white_space = []; text = t; rest = []; is = sym (append-nil t); is_white_space = tt; object = b.object; ends = omega arith }, refl, b.tells)
