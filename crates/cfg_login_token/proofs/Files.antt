-- What the reader of an object answers of a file.
use Rattle.std.proofs.Common.{◌≡◌, ◌⊎◌, inl, inr, ℕ, List, length, Bool, true, false, cond, Option, Some, None, refl, sym, ap, subst, ◌∙◌}
use Rattle.std.specs.Prelude.{Result, Ok, Err}
use Rattle.std.specs.List.{list_any}
use Rattle.cfg_base.specs.Gives.{◌>>=◌}
use Rattle.cfg_types.specs.Field.{field_name}
use Rattle.cfg_types.specs.declared.document.Field.{Field}
use Rattle.cfg_types.specs.declared.document.Field.TheVariants as field
use Rattle.cfg_types.specs.declared.document.JsonError.{JsonError}
use Rattle.cfg_types.specs.declared.document.JsonError.TheVariants as json
use Rattle.cfg_types.specs.declared.errors.login.LoginJsonFault.TheVariants.{Text, Nested, Document, ErrorDocument}
use Rattle.cfg_types.specs.declared.errors.login.LoginTokenError.{LoginTokenError}
use Rattle.cfg_types.specs.declared.errors.login.LoginTokenError.TheVariants.{FailedToFormatDateTime, IoError, JsonError as Json, MissingField, NoHomeDirectory, ExpiredToken, RefreshFailed, Other, OutOfMemory}
use Rattle.cfg_json.specs.declared.credentials.JsonCredentials.TheVariants as document
use Rattle.cfg_json.specs.declared.member.Member.{Member}
use Rattle.cfg_json.specs.declared.member.Members.{Members}
use Rattle.cfg_json.specs.Objects.{HasObject}
use Rattle.cfg_json.specs.Places.{between}
use Rattle.cfg_json.specs.ReadingObjects.{Answer, object_answer}
use Rattle.cfg_json.specs.Answers.{Answers, MemberList, member_list, OpensObject, OpensOther, HasNoObject, only_from, only_answer, with_end, list_answer, only_list_answer}
use Rattle.cfg_json.specs.Documents.{document_of}
use Rattle.cfg_json.specs.Documents as documents
use Rattle.cfg_json.proofs.AnswerLaws.{found_is, not_object_is, syntax_is, never_more_is}
use Rattle.cfg_token.proofs.Files.{itself, same_answer, has_memory}
use Rattle.cfg_token.specs.SsoFile.{text_of}
use Rattle.cfg_login_token.specs.declared.login_token.LoginToken.{LoginToken}
use Rattle.cfg_login_token.specs.Access.{Read, Place, UnlessMemory, holds_object, keys_of, access_of, access_at, last_place, members_in}
use Rattle.cfg_login_token.specs.LoginFile.{required, key_of, token_of, text_fault, or_fault, members_of_file, login_file, ReadsMembers, IsFaultOf, AnswersFile}

-- ---- no reading runs out of memory

pub front_has_memory : (bytes : List ℕ) → list_answer bytes ≡ Err json.OutOfMemory → ⊥
unfolding list_answer only_list_answer only_answer
front_has_memory bytes h = by_answer (object_answer bytes) refl h
  where
    same : (e : JsonError) → (let r : Result MemberList JsonError = Err e in r) ≡ Err json.OutOfMemory → e ≡ json.OutOfMemory
    same e h = cc

    by_answer : (a : Answer) → object_answer bytes ≡ a → with_end (length bytes) a ≡ Err json.OutOfMemory → ⊥
    by_answer (Ok r) is h = absurd cc
    by_answer (Err e) is h = has_memory bytes (ap (λ (a : Answer). with_end (length bytes) (only_from bytes a)) is ∙ ap (λ (x : JsonError). let r : Result MemberList JsonError = Err x in r) (same e h))

-- ---- what the public reader answers is that reading

known : (bytes : List ℕ) (a : Result MemberList JsonError) → list_answer bytes ≡ a → Answers itself a (list_answer bytes)
known bytes a is = subst (Answers itself a) (sym is) (same_answer bytes a)

-- it is no object, or broken
pub front_is_why : (bytes : List ℕ) (e : JsonError) → list_answer bytes ≡ Err e → (e ≡ json.NotObject) ⊎ (e ≡ json.Syntax)
front_is_why bytes json.NotObject is = inl refl
front_is_why bytes json.Syntax is = inr refl
front_is_why bytes json.More is = absurd (never_more_is itself bytes (Err json.More) (known bytes (Err json.More) is) refl)
front_is_why bytes json.OutOfMemory is = absurd (front_has_memory bytes is)

-- what is said of an answer is said of the reading
pub is_front : {X : Type 0} (v : X → MemberList) (bytes : List ℕ) (r : Result X JsonError) →
    ((list : List Member) (end : ℕ) → HasObject bytes list end → Answers v r (Ok (list, end))) →
    (OpensOther bytes → Answers v r (Err json.NotObject)) →
    (OpensObject bytes → HasNoObject bytes → Answers v r (Err json.Syntax)) →
    Answers v r (list_answer bytes)
is_front v bytes r only other broken = by_answer (list_answer bytes) refl
  where
    by_answer : (a : Result MemberList JsonError) → list_answer bytes ≡ a → Answers v r a
    by_answer (Ok p) is = only p.0 p.1 (found_is itself bytes (Ok p) (known bytes (Ok p) is))
    by_answer (Err json.NotObject) is = other (not_object_is itself bytes (Err json.NotObject) (known bytes (Err json.NotObject) is) refl)
    by_answer (Err json.Syntax) is = let h = syntax_is itself bytes (Err json.Syntax) (known bytes (Err json.Syntax) is) refl in broken h.0 h.1
    by_answer (Err json.More) is = absurd (never_more_is itself bytes (Err json.More) (known bytes (Err json.More) is) refl)
    by_answer (Err json.OutOfMemory) is = absurd (front_has_memory bytes is)

-- ---- the members of a file

other_said : (a : Result MemberList JsonError) (error : JsonError) (e : LoginTokenError) → Answers member_list (Err error) a → (error ≡ json.OutOfMemory → ⊥) → (e ≡ OutOfMemory) ⊎ (e ≡ text_fault error) →
    (e ≡ OutOfMemory) ⊎ (or_fault a ≡ Err e)
other_said a error e h other k = elim k [
  | inl m ↦ inl m
  | inr s ↦ elim h [
    | inl m ↦ absurd (other m)
    | inr is ↦ inr (ap or_fault is ∙ ap (λ (x : LoginTokenError). let r : Read (List Member) = Err x in r) (sym s))
  ]
]

fault_said : (a : Result MemberList JsonError) (error : JsonError) (e : LoginTokenError) → Answers member_list (Err error) a → IsFaultOf error e → (e ≡ OutOfMemory) ⊎ (or_fault a ≡ Err e)
fault_said a json.NotObject e h k = other_said a json.NotObject e h (λ m. absurd cc) k
fault_said a json.Syntax e h k = other_said a json.Syntax e h (λ m. absurd cc) k
fault_said a json.More e h k = other_said a json.More e h (λ m. absurd cc) k
fault_said a json.OutOfMemory e h k = inl k

pub members_said : (bytes : List ℕ) (m : Members) → Answers member_list (Ok m) (list_answer bytes) → ReadsMembers bytes (Ok m)
unfolding members_of_file
members_said bytes m h = ap or_fault h

pub faults_said : (bytes : List ℕ) (error : JsonError) (e : LoginTokenError) → Answers member_list (Err error) (list_answer bytes) → IsFaultOf error e → ReadsMembers bytes (Err e)
unfolding members_of_file
faults_said bytes error e h k = fault_said (list_answer bytes) error e h k

-- ---- the whole file

-- an error is the fault of a field, or of the object `accessToken`
abbrev OnlyFields : {A : Type 0} → Read A → Type 0
OnlyFields (Ok x) = Unit {0}
OnlyFields (Err (MissingField f)) = Unit {0}
OnlyFields (Err (Json Text)) = ⊥
OnlyFields (Err (Json _)) = Unit {0}
OnlyFields (Err _) = ⊥

next_fields : {A B : Type 0} (r : Read A) (next : A → Read B) → OnlyFields r → ((x : A) → OnlyFields (next x)) → OnlyFields (r >>= next)
next_fields (Ok x) next h k = k x
next_fields (Err (MissingField f)) next h k = tt
next_fields (Err (Json Text)) next h k = absurd h
next_fields (Err (Json Nested)) next h k = tt
next_fields (Err (Json Document)) next h k = tt
next_fields (Err (Json ErrorDocument)) next h k = tt
next_fields (Err FailedToFormatDateTime) next h k = absurd h
next_fields (Err (IoError what path)) next h k = absurd h
next_fields (Err NoHomeDirectory) next h k = absurd h
next_fields (Err ExpiredToken) next h k = absurd h
next_fields (Err (RefreshFailed message)) next h k = absurd h
next_fields (Err (Other text)) next h k = absurd h
next_fields (Err OutOfMemory) next h k = absurd h

required_fields : {A : Type 0} (f : Field) (o : Option A) → OnlyFields (required f o)
required_fields f None = tt
required_fields f (Some x) = tt

keys_fields : (d : documents.Read _) → OnlyFields (keys_of d)
keys_fields (Ok (document.RefreshableCredentials id secret token account end)) = tt
keys_fields (Ok (document.Error code message)) = tt
keys_fields (Err e) = tt

access_fields : (ms : List Member) → OnlyFields (access_of ms)
unfolding access_of
access_fields ms = by_test (list_any holds_object ms)
  where
    by_test : (b : Bool) → OnlyFields (cond b (Err (Json Nested)) (keys_of (document_of ms)))
    by_test true = tt
    by_test false = keys_fields (document_of ms)

place_fields : (bytes : List ℕ) (place : Option Place) → OnlyFields (access_at bytes place)
place_fields bytes None = tt
place_fields bytes (Some place) = next_fields (access_of (members_in (between bytes place.0 place.1))) _ (access_fields _) (λ keys. tt)

token_fields : (bytes : List ℕ) (ms : List Member) → OnlyFields (token_of bytes ms)
unfolding token_of
token_fields bytes ms =
    next_fields (access_at bytes (last_place (field_name field.AccessToken) ms)) _ (place_fields bytes (last_place (field_name field.AccessToken) ms)) (λ access.
    next_fields (required field.LowerAccessKeyId access) _ (required_fields field.LowerAccessKeyId access) (λ keys.
    next_fields (required field.LowerAccountId keys.account_id) _ (required_fields field.LowerAccountId keys.account_id) (λ account.
    next_fields (required field.ClientId (text_of ms field.ClientId)) _ (required_fields field.ClientId (text_of ms field.ClientId)) (λ client.
    next_fields (required field.DpopKey (key_of ms)) _ (required_fields field.DpopKey (key_of ms)) (λ key.
    next_fields (required field.RefreshToken (text_of ms field.RefreshToken)) _ (required_fields field.RefreshToken (text_of ms field.RefreshToken)) (λ refresh. tt))))))

of_fields : (bytes : List ℕ) (ms : List Member) (end : ℕ) (answer : Read LoginToken) → HasObject bytes ms end → token_of bytes ms ≡ answer → OnlyFields answer → AnswersFile bytes answer
of_fields bytes ms end (Ok token) d is f = (ms, end, d, is)
of_fields bytes ms end (Err (MissingField e)) d is f = (ms, end, d, is)
of_fields bytes ms end (Err (Json Text)) d is f = absurd f
of_fields bytes ms end (Err (Json Nested)) d is f = (ms, end, d, is)
of_fields bytes ms end (Err (Json Document)) d is f = (ms, end, d, is)
of_fields bytes ms end (Err (Json ErrorDocument)) d is f = (ms, end, d, is)
of_fields bytes ms end (Err FailedToFormatDateTime) d is f = absurd f
of_fields bytes ms end (Err (IoError what path)) d is f = absurd f
of_fields bytes ms end (Err NoHomeDirectory) d is f = absurd f
of_fields bytes ms end (Err ExpiredToken) d is f = absurd f
of_fields bytes ms end (Err (RefreshFailed message)) d is f = absurd f
of_fields bytes ms end (Err (Other text)) d is f = absurd f
of_fields bytes ms end (Err OutOfMemory) d is f = absurd f

file_answers : (bytes : List ℕ) → AnswersFile bytes (login_file bytes)
unfolding login_file members_of_file
file_answers bytes = by_answer (list_answer bytes) refl
  where
    by_answer : (a : Result MemberList JsonError) → list_answer bytes ≡ a → AnswersFile bytes (or_fault a >>= token_of bytes)
    by_answer (Ok p) is = of_fields bytes p.0 p.1 (token_of bytes p.0) (found_is itself bytes (Ok p) (known bytes (Ok p) is)) refl (token_fields bytes p.0)
    by_answer (Err json.NotObject) is = (not_object_is itself bytes (Err json.NotObject) (known bytes (Err json.NotObject) is) refl, refl)
    by_answer (Err json.Syntax) is = syntax_is itself bytes (Err json.Syntax) (known bytes (Err json.Syntax) is) refl
    by_answer (Err json.More) is = absurd (never_more_is itself bytes (Err json.More) (known bytes (Err json.More) is) refl)
    by_answer (Err json.OutOfMemory) is = absurd (front_has_memory bytes is)

-- what a reader answers
pub answers_file : (bytes : List ℕ) (r : Read LoginToken) → UnlessMemory r (login_file bytes) → AnswersFile bytes r
answers_file bytes (Ok token) h = subst (AnswersFile bytes) h (file_answers bytes)
answers_file bytes (Err e) h = elim h [
  | inl m ↦ subst (λ (x : LoginTokenError). AnswersFile bytes (Err x)) (sym m) tt
  | inr s ↦ subst (AnswersFile bytes) s (file_answers bytes)
]

-- a file whose text is at fault, and one with members
pub file_fails : (bytes : List ℕ) (e : LoginTokenError) → ReadsMembers bytes (Err e) → UnlessMemory (Err e) (login_file bytes)
unfolding login_file
file_fails bytes e h = elim h [
  | inl m ↦ inl m
  | inr s ↦ inr (ap (λ (r : Read (List Member)). r >>= token_of bytes) s)
]

pub file_reads : (bytes : List ℕ) (m : Members) (r : Read LoginToken) → ReadsMembers bytes (Ok m) → UnlessMemory r (token_of bytes m.list) → UnlessMemory r (login_file bytes)
unfolding login_file
file_reads bytes m r h t = subst (UnlessMemory r) (sym (ap (λ (x : Read (List Member)). x >>= token_of bytes) h)) t
