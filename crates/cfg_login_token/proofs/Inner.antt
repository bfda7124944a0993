-- The object at the place of a member.
use Rattle.std.proofs.Common.{◌≡◌, ℕ, zero, suc, ◌-◌, inl, inr, List, [], ◌∷◌, take, drop, Bool, true, false, cond, Some, None, refl, sym, ap, subst, ◌∙◌}
use Rattle.std.specs.Prelude.{Result, Ok, Err}
use Rattle.cfg_types.specs.declared.document.JsonError.{JsonError}
use Rattle.cfg_json.specs.Answers.{Answers, MemberList, OnlyWhiteSpaceFrom, only_list_answer}
use Rattle.cfg_json.specs.WhiteSpace.{IsWhiteSpace}
use Rattle.cfg_json.specs.Objects.{HasObject}
use Rattle.cfg_json.specs.Places.{between}
use Rattle.cfg_json.specs.Lookups.{IsLastGiven}
use Rattle.cfg_json.specs.declared.member.Member.{Member}
use Rattle.cfg_json.specs.declared.member.Members.{Members}
use Rattle.cfg_json.specs.declared.member.MemberValue.{MemberValue}
use Rattle.cfg_json.specs.declared.member.MemberValue.TheVariants as value
use Rattle.cfg_json.proofs.AnswerLaws.{only_only_is}
use Rattle.cfg_json.proofs.InnerObjects.{inner_object_is}
use Rattle.cfg_json.proofs.LookupLaws.{last_is_given}
use Rattle.cfg_token.proofs.Files.{itself, same_answer, has_memory}
use Rattle.cfg_token.specs.SsoFile.{is_named}
use Rattle.cfg_login_token.specs.Access.{Read, Place, place_in, place_under, last_place, IsObjectText, ReadsInner, list_in, members_in}

-- bytes that are an object, and nothing else
pub only_object : (bytes : List ℕ) (list : List Member) (end : ℕ) → HasObject bytes list end → OnlyWhiteSpaceFrom bytes end → only_list_answer bytes ≡ Ok (list, end)
only_object bytes list end h white = by_answer (only_list_answer bytes) refl (only_only_is itself bytes (only_list_answer bytes) (same_answer bytes (only_list_answer bytes)) list end h white)
  where
    by_answer : (a : Result MemberList JsonError) → only_list_answer bytes ≡ a → Answers itself a (Ok (list, end)) → a ≡ Ok (list, end)
    by_answer (Ok p) is k = sym k
    by_answer (Err e) is k = elim k [
      | inl m ↦ absurd (has_memory bytes (is ∙ ap (λ (x : JsonError). let r : Result MemberList JsonError = Err x in r) m))
      | inr s ↦ sym s
    ]

pub members_are : (bytes : List ℕ) (list : List Member) (end : ℕ) → HasObject bytes list end → OnlyWhiteSpaceFrom bytes end → members_in bytes ≡ list
unfolding members_in
members_are bytes list end h white = ap list_in (only_object bytes list end h white)

-- nothing stands behind the end
nothing_behind : (n : ℕ) (bytes : List ℕ) → drop n (take n bytes) ≡ []
nothing_behind zero bytes = refl
nothing_behind (suc n) [] = refl
nothing_behind (suc n) (b ∷ bytes) = nothing_behind n bytes

pub nothing_left : (bytes : List ℕ) (from to : ℕ) → OnlyWhiteSpaceFrom (between bytes from to) (to - from)
nothing_left bytes from to = subst IsWhiteSpace (sym (nothing_behind (to - from) (drop from bytes))) tt

object_there : (b : Bool) (v : MemberValue) (from to : ℕ) → cond b (place_in v) None ≡ Some (from, to) → v ≡ value.Object from to
object_there true (value.Text t) from to h = absurd cc
object_there true (value.Number t) from to h = absurd cc
object_there true (value.Object a b) from to h = (let p : (a, b) ≡ (from, to) = cc in ap (λ (q : Place). value.Object q.0 q.1) p)
object_there true (value.Array has) from to h = absurd cc
object_there true value.Other from to h = absurd cc
object_there false v from to h = absurd cc

inner_there : (bytes name : List ℕ) (members : List Member) (end from to : ℕ) → HasObject bytes members end → last_place name members ≡ Some (from, to)
    → (inner : List Member) × HasObject (between bytes from to) inner (to - from)
inner_there bytes name members end from to h place =
    let l : IsLastGiven (place_under name) members (from, to) = (last_is_given (place_under name) members (from, to)).0 place in
    inner_object_is bytes l.before l.behind l.last end from to (subst (λ (ms : List Member). HasObject bytes ms end) l.stands h) (object_there (is_named name l.last.key) l.last.value from to l.gives)

pub is_object_text : (bytes name : List ℕ) (members : List Member) (end from to : ℕ) → HasObject bytes members end → last_place name members ≡ Some (from, to) → IsObjectText (between bytes from to)
is_object_text bytes name members end from to h place =
    let i = inner_there bytes name members end from to h place in
    (i.0, (to - from, i.1, nothing_left bytes from to))

pub object_read : (bytes name : List ℕ) (members : List Member) (end from to : ℕ) → HasObject bytes members end → last_place name members ≡ Some (from, to) → HasObject (between bytes from to) (members_in (between bytes from to)) (to - from)
object_read bytes name members end from to h place =
    let i = inner_there bytes name members end from to h place in
    let read : members_in (between bytes from to) ≡ i.0 = members_are (between bytes from to) i.0 (to - from) i.1 (nothing_left bytes from to) in
    subst (λ (ms : List Member). HasObject (between bytes from to) ms (to - from)) (sym read) i.1

pub ok_members : (bytes : List ℕ) (m : Members) → HasObject bytes m.list m.end → OnlyWhiteSpaceFrom bytes m.end → ReadsInner bytes (Ok m)
ok_members bytes m h white = ap (λ (ms : List Member). let r : Read (List Member) = Ok ms in r) (members_are bytes m.list m.end h white)
