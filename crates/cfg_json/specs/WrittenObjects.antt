-- Objects as they are written, member by member.
use Rattle.std.specs.Prelude.{◌≡◌, ℕ, zero, suc, List, [], ◌∷◌, ◌++◌, true}
use Rattle.std.specs.Str.{all_scalars}
use Rattle.cfg_json.specs.Writing.{quoted, braced, with_member}
use Rattle.cfg_json.specs.declared.member.Member.{Member}
use Rattle.cfg_json.specs.declared.member.MemberValue.{MemberValue}
use Rattle.cfg_json.specs.declared.member.MemberValue.TheVariants as value

pub data WrittenObject : Type 0 where
  bare : WrittenObject
  with_text : WrittenObject → List ℕ → List ℕ → WrittenObject
  with_object : WrittenObject → List ℕ → WrittenObject → WrittenObject

-- the text of its members
abbrev pub members_text : WrittenObject → List ℕ
members_text WrittenObject.bare = []
members_text (WrittenObject.with_text w key text) = with_member (members_text w) key (quoted text)
members_text (WrittenObject.with_object w key inner) = with_member (members_text w) key (braced (members_text inner))

-- each key and each text is one of Unicode characters
abbrev pub HasScalars : WrittenObject → Type 0
HasScalars WrittenObject.bare = Unit {0}
HasScalars (WrittenObject.with_text w key text) = HasScalars w × (all_scalars key ≡ true) × (all_scalars text ≡ true)
HasScalars (WrittenObject.with_object w key inner) = HasScalars w × (all_scalars key ≡ true) × HasScalars inner

-- objects stand in it no deeper than this
abbrev pub Nests : WrittenObject → ℕ → Type 0
Nests WrittenObject.bare d = Unit {0}
Nests (WrittenObject.with_text w key text) d = Nests w d
Nests (WrittenObject.with_object w key inner) zero = ⊥
Nests (WrittenObject.with_object w key inner) (suc d) = Nests w (suc d) × Nests inner d

-- what is told of a member: its text, or that it is an object
pub data ToldMember : Type 0 where
  a_text : List ℕ → ToldMember
  an_object : ToldMember
  another : ToldMember

abbrev pub Tale : Type 0
Tale = List ℕ × ToldMember

abbrev pub told_value : MemberValue → ToldMember
told_value (value.Text t) = ToldMember.a_text t
told_value (value.Number t) = ToldMember.another
told_value (value.Object from to) = ToldMember.an_object
told_value (value.Array has) = ToldMember.another
told_value value.Other = ToldMember.another

abbrev pub told_member : Member → Tale
told_member m = (m.key, told_value m.value)

abbrev pub told : WrittenObject → List Tale
told WrittenObject.bare = []
told (WrittenObject.with_text w key text) = told w ++ (key, ToldMember.a_text text) ∷ []
told (WrittenObject.with_object w key inner) = told w ++ (key, ToldMember.an_object) ∷ []
