-- The outer object of a text, and the list of its members.
use Rattle.std.specs.Prelude.{◌≡◌, ℕ, ◌+◌, List, [], ◌∷◌, ◌++◌, length, true}
use Rattle.cfg_json.specs.Ascii.{comma, left_square_bracket, left_curly_bracket, right_curly_bracket}
use Rattle.cfg_json.specs.WhiteSpace.{IsWhiteSpace}
use Rattle.cfg_json.specs.Strings.{IsString}
use Rattle.cfg_json.specs.Numbers.{IsNumber}
use Rattle.cfg_json.specs.Values.{IsWord, IsKey, IsValue}
use Rattle.cfg_json.specs.declared.member.Member.{Member}
use Rattle.cfg_json.specs.declared.member.MemberValue.{MemberValue}
use Rattle.cfg_json.specs.declared.member.MemberValue.TheVariants as value

-- the depth that is left inside the outer object: 128, its own one taken
abbrev pub inner_depth : ℕ
inner_depth = 127

-- the value of a member whose text stands at the place
pub data IsMemberValue : ℕ → List ℕ → MemberValue → Type 0 where
  text : (at : ℕ) (t s : List ℕ) → IsString t s → IsMemberValue at t (value.Text s)
  number : (at : ℕ) (t : List ℕ) → IsNumber t → IsMemberValue at t (value.Number t)
  object : (at : ℕ) (t : List ℕ) → IsValue inner_depth (left_curly_bracket ∷ t) true → IsMemberValue at (left_curly_bracket ∷ t) (value.Object at (at + length (left_curly_bracket ∷ t)))
  array : (at : ℕ) (t : List ℕ) (b : _) → IsValue inner_depth (left_square_bracket ∷ t) b → IsMemberValue at (left_square_bracket ∷ t) (value.Array b)
  word : (at : ℕ) (t : List ℕ) → IsWord t → IsMemberValue at t value.Other

-- a member whose text begins at the place: its key, and its value with the white space round it
pub record IsMember (at : ℕ) (bytes : List ℕ) (m : Member) : Type 0 where
  pub key : List ℕ
  pub before : List ℕ
  pub value : List ℕ
  pub after : List ℕ
  pub is : bytes ≡ key ++ (before ++ (value ++ after))
  pub is_key : IsKey key m.key
  pub white_space_before : IsWhiteSpace before
  pub is_value : IsMemberValue (at + length key + length before) value m.value
  pub white_space_after : IsWhiteSpace after

-- one or more members with commas between, and the brace that ends them, from the place on
pub data AreMembers : ℕ → List ℕ → List Member → Type 0 where
  last : (at : ℕ) (v t : List ℕ) (m : Member) → IsMember at v m → t ≡ v ++ right_curly_bracket ∷ [] → AreMembers at t (m ∷ [])
  more : (at : ℕ) (v u t : List ℕ) (m : Member) (ms : List Member) → IsMember at v m → AreMembers (at + length v + 1) u ms → t ≡ v ++ comma ∷ u → AreMembers at t (m ∷ ms)

-- an object whose opening brace stands at the place
pub data IsObject : ℕ → List ℕ → List Member → Type 0 where
  empty : (at : ℕ) (w t : List ℕ) → IsWhiteSpace w → t ≡ left_curly_bracket ∷ (w ++ right_curly_bracket ∷ []) → IsObject at t []
  members : (at : ℕ) (u t : List ℕ) (ms : List Member) → AreMembers (at + 1) u ms → t ≡ left_curly_bracket ∷ u → IsObject at t ms

-- an object stands at the front, behind white space, and ends at the place
pub record HasObject (bytes : List ℕ) (list : List Member) (end : ℕ) : Type 0 where
  pub white_space : List ℕ
  pub text : List ℕ
  pub rest : List ℕ
  pub is : bytes ≡ white_space ++ (text ++ rest)
  pub is_white_space : IsWhiteSpace white_space
  pub object : IsObject (length white_space) text list
  pub ends : end ≡ length white_space + length text
