-- What a document says is one thing, by its grammar and by the table of its members.
use Rattle.std.proofs.Common.{◌≡◌, inl, inr, ℕ, List, [], ◌∷◌, Bool, true, false, Option, Some, None, refl, sym, ap, subst, ◌∙◌}
use Rattle.std.specs.Prelude.{Result, Ok, Err, ◌==◌, if◌then◌else◌, length}
use Rattle.cfg_types.specs.declared.document.JsonError.{JsonError}
use Rattle.cfg_types.specs.declared.document.JsonError.TheVariants as json
use Rattle.cfg_types.specs.declared.document.InvalidJsonCredentials.TheVariants as invalid
use Rattle.cfg_json.specs.Ascii.{left_curly_bracket}
use Rattle.cfg_json.specs.Reading.{after_white_space}
use Rattle.cfg_json.specs.ReadingObjects.{ReadMembers, Answer as Given, answer_of, opened, object_at, object_answer}
use Rattle.cfg_json.specs.Answers.{Answers, MemberList, only_white_space, only_from, only_answer, with_end, only_list_answer, OnlyWhiteSpaceFrom}
use Rattle.cfg_json.specs.Objects.{HasObject}
use Rattle.cfg_json.specs.Documents.{Read, AnswersDocument, UnlessMemory, by_members, said_by, is_memory}
use Rattle.cfg_json.specs.declared.member.Member.{Member}
use Rattle.cfg_json.proofs.AnswerLaws.{only_found_is, only_only_is, only_not_object_is, only_opens_other_is, only_syntax_is, only_broken_is, only_more_is, followed_is}
use Rattle.cfg_json.proofs.DocumentLaws.{OnlyFields, fields_answer}

abbrev Listed : Type 0
Listed = Result MemberList JsonError

abbrev failed : JsonError → Listed
failed e = Err e

-- ---- reading a list takes no memory

opened_stays : (total : ℕ) (t : List ℕ) → opened total t ≡ Err json.OutOfMemory → ⊥
opened_stays total [] e = absurd cc
opened_stays total (x ∷ t) e = by_brace (x == left_curly_bracket) (object_at total t) e where
  by_brace : (b : Bool) (o : Option ReadMembers) → (if b then answer_of o else Err json.NotObject) ≡ Err json.OutOfMemory → ⊥
  by_brace true None e = absurd cc
  by_brace true (Some r) e = absurd cc
  by_brace false o e = absurd cc

only_stays : (bytes : List ℕ) (g : Given) → (g ≡ Err json.OutOfMemory → ⊥) → only_from bytes g ≡ Err json.OutOfMemory → ⊥
only_stays bytes (Err d) n e = n e
only_stays bytes (Ok r) n e = by_rest (after_white_space r.1) e where
  by_rest : (u : List ℕ) → only_white_space bytes r u ≡ Err json.OutOfMemory → ⊥
  by_rest [] e = absurd cc
  by_rest (x ∷ t) e = absurd cc

end_stays : (total : ℕ) (g : Given) → (g ≡ Err json.OutOfMemory → ⊥) → with_end total g ≡ Err json.OutOfMemory → ⊥
end_stays total (Ok r) n e = absurd cc
end_stays total (Err json.NotObject) n e = absurd cc
end_stays total (Err json.Syntax) n e = absurd cc
end_stays total (Err json.More) n e = absurd cc
end_stays total (Err json.OutOfMemory) n e = n refl

list_stays : (bytes : List ℕ) → only_list_answer bytes ≡ Err json.OutOfMemory → ⊥
unfolding only_list_answer only_answer object_answer
list_stays bytes e = end_stays (length bytes) _ (only_stays bytes _ (opened_stays (length bytes) (after_white_space bytes))) e

-- ---- so the grammar says which list it is

itself : (r : Listed) → Answers (λ x. x) r r
itself (Ok m) = refl
itself (Err e) = inr refl

is_answer : (r a : Listed) → (r ≡ Err json.OutOfMemory → ⊥) → Answers (λ x. x) r a → r ≡ a
is_answer (Ok m) a n h = sym h
is_answer (Err e) a n h = elim h [
  | inl out ↦ absurd (n (ap failed out))
  | inr said ↦ sym said
]

listed : (bytes : List ℕ) (a : Listed) → Answers (λ x. x) (only_list_answer bytes) a → only_list_answer bytes ≡ a
listed bytes a h = is_answer (only_list_answer bytes) a (list_stays bytes) h

unless_itself : {A : Type 0} (r : Read A) → UnlessMemory r r
unless_itself (Ok x) = refl
unless_itself (Err e) = inr refl

abbrev memory : {A : Type 0} → Read A
memory = Err invalid.OutOfMemory

memory_is : {A : Type 0} (r : Read A) → is_memory r ≡ false → r ≡ memory → ⊥
memory_is {A = A} r f e = let t = subst (λ (x : Read A). is_memory x ≡ false) e f in absurd cc

-- a table that says one thing of the members, and nothing but faults of fields
module _ {A : Type 0} (Table : List Member → Read A → Type 0) (table : List Member → Read A) (is_table : (ms : List Member) (r : Read A) → Table ms r → r ≡ table ms) where
  by_list : (bytes : List ℕ) (a : Listed) → Answers (λ x. x) (only_list_answer bytes) a → by_members table a ≡ said_by table bytes
  unfolding said_by
  by_list bytes a h = ap (by_members table) (sym (listed bytes a h))

  by_object : (bytes : List ℕ) (r : Read A) (ms : List Member) (end : ℕ) → HasObject bytes ms end → OnlyWhiteSpaceFrom bytes end → Table ms r → r ≡ said_by table bytes
  by_object bytes r ms end has ends h = is_table ms r h ∙ by_list bytes (Ok (ms, end)) (only_only_is (λ x. x) bytes (only_list_answer bytes) (itself _) ms end has ends)

  pub says_one_thing : (bytes : List ℕ) (r : Read A) → AnswersDocument Table bytes r → (r ≡ memory → ⊥) → r ≡ said_by table bytes
  says_one_thing bytes (Ok x) h n = by_object bytes (Ok x) h.0 h.1.0 h.1.1 h.1.2 h.2
  says_one_thing bytes (Err (invalid.JsonError json.NotObject)) h n =
      by_list bytes (Err json.NotObject) (only_opens_other_is (λ x. x) bytes (only_list_answer bytes) (itself _) h)
  says_one_thing bytes (Err (invalid.JsonError json.Syntax)) h n =
      by_list bytes (Err json.Syntax) (only_broken_is (λ x. x) bytes (only_list_answer bytes) (itself _) h.0 h.1)
  says_one_thing bytes (Err (invalid.JsonError json.More)) h n = absurd h
  says_one_thing bytes (Err (invalid.JsonError json.OutOfMemory)) h n = absurd h
  says_one_thing bytes (Err (invalid.MissingField f)) h n = by_object bytes (Err (invalid.MissingField f)) h.0 h.1.0 h.1.1 h.1.2 h.2
  says_one_thing bytes (Err (invalid.InvalidField f e)) h n = by_object bytes (Err (invalid.InvalidField f e)) h.0 h.1.0 h.1.1 h.1.2 h.2
  says_one_thing bytes (Err (invalid.Other t)) h n =
      ap (λ (u : List ℕ). Err (invalid.Other u)) h.1
      ∙ by_list bytes (Err json.More) (followed_is (λ x. x) bytes (only_list_answer bytes) (itself _) h.0.0 h.0.1 h.0.2 h.0.3)
  says_one_thing bytes (Err invalid.OutOfMemory) h n = absurd (n refl)

  pub says_unless_memory : (bytes : List ℕ) (r : Read A) → AnswersDocument Table bytes r → is_memory r ≡ false → r ≡ said_by table bytes
  says_unless_memory bytes r h f = says_one_thing bytes r h (memory_is r f)

-- ---- and what is said answers the grammar

module _ {A : Type 0} (Table : List Member → Read A → Type 0) (table : List Member → Read A) (has_table : (ms : List Member) → Table ms (table ms)) (fields : (ms : List Member) → OnlyFields (table ms)) where
  answers_list : (bytes : List ℕ) (a : Listed) → only_list_answer bytes ≡ a → Answers (λ x. x) a (only_list_answer bytes) → AnswersDocument Table bytes (by_members table a)
  answers_list bytes (Ok m) e h =
      let has = only_found_is (λ x. x) bytes (Ok m) h in
      fields_answer Table bytes m.0 (table m.0) (table m.0) (m.1, has.0, has.1) (has_table m.0) (fields m.0) (unless_itself (table m.0))
  answers_list bytes (Err json.NotObject) e h = only_not_object_is (λ x. x) bytes (Err json.NotObject) h refl
  answers_list bytes (Err json.Syntax) e h = only_syntax_is (λ x. x) bytes (Err json.Syntax) h refl
  answers_list bytes (Err json.More) e h = (only_more_is (λ x. x) bytes (Err json.More) h refl, refl)
  answers_list bytes (Err json.OutOfMemory) e h = absurd (list_stays bytes e)

  pub said_answers : (bytes : List ℕ) → AnswersDocument Table bytes (said_by table bytes)
  unfolding said_by
  said_answers bytes = answers_list bytes (only_list_answer bytes) refl (itself _)
