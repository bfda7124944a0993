-- Reading the outer object from left to right. Places are told by how many bytes are left, of the total.
use Rattle.std.specs.Option.{option_or}
use Rattle.std.specs.Prelude.{ℕ, zero, suc, ◌-◌, List, [], ◌∷◌, ◌++◌, length, take, Bool, true, false, ◌||◌, ◌==◌, Option, Some, None, Result, Ok, Err, if◌then◌else◌}
use Rattle.cfg_base.specs.Text.{characters}
use Rattle.cfg_types.specs.declared.document.JsonError.{JsonError}
use Rattle.cfg_types.specs.declared.document.JsonError.TheVariants as json
use Rattle.cfg_json.specs.Ascii.{quotation_mark, comma, left_square_bracket, left_curly_bracket, right_curly_bracket}
use Rattle.cfg_json.specs.Reads.{◌>>=◌}
use Rattle.cfg_json.specs.Objects.{inner_depth}
use Rattle.cfg_json.specs.Reading.{after_white_space, number_at, word_at, string_at, utf8_of}
use Rattle.cfg_json.specs.ReadingValues.{key_at, value_at}
use Rattle.cfg_json.specs.declared.member.Member.{Member}
use Rattle.cfg_json.specs.declared.member.MemberValue.{MemberValue}
use Rattle.cfg_json.specs.declared.member.MemberValue.TheVariants as value

abbrev pub ReadValue : Type 0
ReadValue = MemberValue × List ℕ

-- the characters of bytes, if they are UTF-8
unfoldable pub text_from : List ℕ → Option (List ℕ)
text_from bytes = utf8_of bytes >>= λ t. Some (characters t)

unfoldable pub number_value_at : List ℕ → Option ReadValue
number_value_at t = number_at t >>= λ r. text_from (take (length t - length r) t) >>= λ n. Some (value.Number n, r)

unfoldable pub text_value_at : List ℕ → Option ReadValue
text_value_at t = string_at t >>= λ p. Some (value.Text p.0, p.1)

-- an object or an array, from its opening bracket on
unfoldable pub nested_value_at : ℕ → Bool → List ℕ → Option ReadValue
nested_value_at total keyed t = value_at inner_depth t >>= λ p. Some (if keyed then value.Object (total - length t) (total - length p.1) else value.Array p.0, p.1)

unfoldable pub word_value_at : List ℕ → Option ReadValue
word_value_at t = word_at t >>= λ r. Some (value.Other, r)

unfoldable pub member_value_at : ℕ → List ℕ → Option ReadValue
member_value_at total [] = None
member_value_at total (x ∷ t) = if x == quotation_mark then text_value_at t else (if (x == left_curly_bracket) || (x == left_square_bracket) then nested_value_at total (x == left_curly_bracket) (x ∷ t) else option_or (word_value_at (x ∷ t)) (number_value_at (x ∷ t)))

unfoldable pub member_at : ℕ → List ℕ → Option (Member × List ℕ)
member_at total t = key_at t >>= λ k. member_value_at total (after_white_space k.1) >>= λ v. Some (record { key = k.0; value = v.0 }, after_white_space v.1)

-- a member and the byte behind it: the member, whether this ends the object, and what follows
abbrev pub MemberTurn : Type 0
MemberTurn = Member × Bool × List ℕ

abbrev pub after_member : Member → List ℕ → Option MemberTurn
after_member m [] = None
after_member m (x ∷ t) = if x == right_curly_bracket then Some (m, true, t) else (if x == comma then Some (m, false, t) else None)

unfoldable pub member_turn_at : ℕ → List ℕ → Option MemberTurn
member_turn_at total t = member_at total t >>= λ p. after_member p.0 p.1

abbrev pub ReadMembers : Type 0
ReadMembers = List Member × List ℕ

abbrev pub members_front : List Member → Option ReadMembers → Option ReadMembers
members_front front read = read >>= λ q. Some (front ++ q.0, q.1)

abbrev pub go_on_members : Member → Bool → List ℕ → (List ℕ → Option ReadMembers) → Option ReadMembers
go_on_members m true t more = Some (m ∷ [], t)
go_on_members m false t more = members_front (m ∷ []) (more t)

-- The number bounds the turns. The length of the text is always enough.
unfoldable pub members_at : ℕ → ℕ → List ℕ → Option ReadMembers
members_at total zero t = None
members_at total (suc n) t = member_turn_at total t >>= λ p. go_on_members p.0 p.1 p.2 (members_at total n)

abbrev pub object_from : ℕ → List ℕ → List ℕ → Option ReadMembers
object_from total t [] = None
object_from total t (x ∷ u) = if x == right_curly_bracket then Some ([], u) else members_at total (length t) t

-- behind the opening brace
unfoldable pub object_at : ℕ → List ℕ → Option ReadMembers
object_at total t = object_from total t (after_white_space t)

-- what reading the front of the bytes gives: the members and what follows the object, or why there is none
abbrev pub Answer : Type 0
Answer = Result ReadMembers JsonError

abbrev pub answer_of : Option ReadMembers → Answer
answer_of None = Err json.Syntax
answer_of (Some r) = Ok r

abbrev pub opened : ℕ → List ℕ → Answer
opened total [] = Err json.NotObject
opened total (x ∷ t) = if x == left_curly_bracket then answer_of (object_at total t) else Err json.NotObject

unfoldable pub object_answer : List ℕ → Answer
object_answer bytes = opened (length bytes) (after_white_space bytes)
