-- What the readers of whole objects answer.
use Rattle.std.specs.Prelude.{◌≡◌, ◌≢◌, ℕ, ◌-◌, length, ◌⊎◌, List, [], ◌∷◌, ◌++◌, false, drop, Result, Ok, Err}
use Rattle.cfg_base.specs.Gives.{Gives, IsSaid}
use Rattle.cfg_types.specs.declared.document.JsonError.{JsonError}
use Rattle.cfg_types.specs.declared.document.JsonError.TheVariants as json
use Rattle.cfg_json.specs.Ascii.{left_curly_bracket}
use Rattle.cfg_json.specs.WhiteSpace.{is_json_white_space, IsWhiteSpace}
use Rattle.cfg_json.specs.Objects.{HasObject}
use Rattle.cfg_json.specs.Reading.{after_white_space}
use Rattle.cfg_json.specs.ReadingObjects.{ReadMembers, Answer, object_answer}
use Rattle.cfg_json.specs.declared.member.Member.{Member}
use Rattle.cfg_json.specs.declared.member.Members.{Members}

-- what a function returned, its value seen by view, is this answer; or memory ran out
abbrev pub Answers : {X Y : Type 0} → (X → Y) → Result X JsonError → Result Y JsonError → Type 0
Answers view result answer = Gives json.OutOfMemory result (IsSaid view answer)

-- a list of members, and where the object ends
abbrev pub MemberList : Type 0
MemberList = List Member × ℕ

abbrev pub member_list : Members → MemberList
member_list m = (m.list, m.end)

-- the first byte that is no white space opens an object
abbrev pub OpensObject : List ℕ → Type 0
OpensObject bytes = (white_space : List ℕ) × (rest : List ℕ) × IsWhiteSpace white_space × (bytes ≡ white_space ++ left_curly_bracket ∷ rest)

-- it is another byte, or there is none
abbrev pub OpensOther : List ℕ → Type 0
OpensOther bytes = IsWhiteSpace bytes ⊎ ((white_space : List ℕ) × (x : ℕ) × (rest : List ℕ) × IsWhiteSpace white_space × (is_json_white_space x ≡ false) × (x ≢ left_curly_bracket) × (bytes ≡ white_space ++ x ∷ rest))

-- no prefix of the bytes is an object
abbrev pub HasNoObject : List ℕ → Type 0
HasNoObject bytes = (list : List Member) (end : ℕ) → HasObject bytes list end → ⊥

-- nothing but white space stands from the place on
abbrev pub OnlyWhiteSpaceFrom : List ℕ → ℕ → Type 0
OnlyWhiteSpaceFrom bytes end = IsWhiteSpace (drop end bytes)

-- Read from left to right, for the functions below the public ones.

abbrev pub only_white_space : List ℕ → ReadMembers → List ℕ → Answer
only_white_space bytes r [] = Ok r
only_white_space bytes r (x ∷ t) = Err json.More

abbrev pub only_from : List ℕ → Answer → Answer
only_from bytes (Ok r) = only_white_space bytes r (after_white_space r.1)
only_from bytes (Err e) = Err e

-- an object, and nothing but white space behind it
unfoldable pub only_answer : List ℕ → Answer
only_answer bytes = only_from bytes (object_answer bytes)

-- with the place where it ends
abbrev pub with_end : ℕ → Answer → Result MemberList JsonError
with_end total (Ok r) = Ok (r.0, total - length r.1)
with_end total (Err e) = Err e

unfoldable pub list_answer : List ℕ → Result MemberList JsonError
list_answer bytes = with_end (length bytes) (object_answer bytes)

unfoldable pub only_list_answer : List ℕ → Result MemberList JsonError
only_list_answer bytes = with_end (length bytes) (only_answer bytes)
