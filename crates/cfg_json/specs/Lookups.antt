-- The last member of a name.
use Rattle.std.specs.Option.{option_or}
use Rattle.std.specs.Prelude.{◌≡◌, ℕ, List, [], ◌∷◌, ◌++◌, All, Bool, ◌||◌, Option, Some, None, if◌then◌else◌}
use Rattle.std.specs.Str.{encode_utf8_all, str_eq_ignore_ascii_case}
use Rattle.cfg_json.specs.declared.member.Member.{Member}
use Rattle.cfg_json.specs.declared.member.MemberValue.{MemberValue}
use Rattle.cfg_json.specs.declared.member.MemberValue.TheVariants as value

-- the key is the name, or the other one, without regard to the case of ASCII letters
abbrev pub is_named : List ℕ → List ℕ → List ℕ → Bool
is_named name other key = str_eq_ignore_ascii_case (encode_utf8_all key) name || str_eq_ignore_ascii_case (encode_utf8_all key) other

-- the text that a value is
abbrev pub text_in : MemberValue → Option (List ℕ)
text_in (value.Text t) = Some t
text_in (value.Number t) = None
text_in (value.Object from to) = None
text_in (value.Array has) = None
text_in value.Other = None

-- the number that a value is
abbrev pub number_in : MemberValue → Option (List ℕ)
number_in (value.Text t) = None
number_in (value.Number t) = Some t
number_in (value.Object from to) = None
number_in (value.Array has) = None
number_in value.Other = None

abbrev pub text_under : List ℕ → List ℕ → Member → Option (List ℕ)
text_under name other m = if is_named name other m.key then text_in m.value else None

abbrev pub number_under : List ℕ → Member → Option (List ℕ)
number_under name m = if is_named name name m.key then number_in m.value else None

-- what the last member gives that gives something
abbrev pub last_given : {A : Type 0} → (Member → Option A) → List Member → Option A
last_given give [] = None
last_given give (m ∷ ms) = option_or (last_given give ms) (give m)

-- the last text under a name, or under another one
abbrev pub last_text : List ℕ → List ℕ → List Member → Option (List ℕ)
last_text name other ms = last_given (text_under name other) ms

-- the last number under a name
abbrev pub last_number : List ℕ → List Member → Option (List ℕ)
last_number name ms = last_given (number_under name) ms

-- the member gives nothing: it has another name, or a value of another kind
abbrev pub GivesNothing : {A : Type 0} → (Member → Option A) → Member → Type 0
GivesNothing give m = give m ≡ None

-- This is what the last of the members gives that give something.
pub record IsLastGiven {A : Type 0} (give : Member → Option A) (members : List Member) (given : A) : Type 0 where
  pub before : List Member
  pub last : Member
  pub behind : List Member
  pub stands : members ≡ before ++ last ∷ behind
  pub gives : give last ≡ Some given
  pub others : All (GivesNothing give) behind
