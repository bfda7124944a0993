-- What the readers of objects answer of a file.
use Rattle.std.proofs.Common.{◌≡◌, ◌⊎◌, inl, inr, ℕ, List, [], ◌∷◌, length, Bool, true, false, cond, Option, Some, None, refl, sym, ap, subst, ◌∙◌}
use Rattle.std.specs.Prelude.{Result, Ok, Err, ◌==◌}
use Rattle.cfg_base.specs.Gives.{◌>>=◌}
use Rattle.cfg_types.specs.declared.document.JsonError.{JsonError}
use Rattle.cfg_types.specs.declared.document.JsonError.TheVariants as json
use Rattle.cfg_types.specs.declared.errors.sso.CachedSsoTokenError.{CachedSsoTokenError}
use Rattle.cfg_types.specs.declared.errors.sso.CachedSsoTokenError.TheVariants.{FailedToFormatDateTime, InvalidField, IoError, JsonError as NoJson, MissingField, NoHomeDirectory, Other, OutOfMemory}
use Rattle.cfg_json.specs.Ascii.{left_curly_bracket}
use Rattle.cfg_json.specs.declared.member.Member.{Member}
use Rattle.cfg_json.specs.declared.member.Members.{Members}
use Rattle.cfg_json.specs.Objects.{HasObject}
use Rattle.cfg_json.specs.Reading.{after_white_space}
use Rattle.cfg_json.specs.ReadingObjects.{ReadMembers, Answer, answer_of, opened, object_at, object_answer}
use Rattle.cfg_json.specs.Answers.{Answers, MemberList, member_list, OpensObject, OpensOther, HasNoObject, OnlyWhiteSpaceFrom, only_white_space, only_from, only_answer, with_end, only_list_answer}
use Rattle.cfg_json.specs.Documents.{IsDocument, date_in}
use Rattle.cfg_base.specs.Moment.{Moment}
use Rattle.cfg_types.specs.declared.document.Field.{Field}
use Rattle.cfg_types.specs.declared.document.Field.TheVariants as field
use Rattle.cfg_json.proofs.AnswerLaws.{only_found_is, only_not_object_is, only_syntax_is, only_more_is}
use Rattle.cfg_token.specs.SsoFile.{Read, text_of, required, dated, optional_date, token_of, text_fault, or_fault, members_of_file, sso_file, UnlessMemory, ReadsMembers, IsFaultOf, AnswersFile}
use Rattle.cfg_token.specs.declared.sso_token.CachedSsoToken.{CachedSsoToken}

-- ---- no reading runs out of memory

abbrev IsNot : {Y : Type 0} → Result Y JsonError → Type 0
IsNot r = r ≡ Err json.OutOfMemory → ⊥

ok_is_not : {Y : Type 0} (y : Y) → IsNot (let r : Result Y JsonError = Ok y in r)
ok_is_not y h = absurd cc

answered : (o : Option ReadMembers) → IsNot (answer_of o)
answered None h = absurd cc
answered (Some r) h = absurd cc

opening : (total : ℕ) (t : List ℕ) (b : Bool) → IsNot (let r : Answer = cond b (answer_of (object_at total t)) (Err json.NotObject) in r)
opening total t true h = answered (object_at total t) h
opening total t false h = absurd cc

opened_not : (total : ℕ) (u : List ℕ) → IsNot (opened total u)
opened_not total [] h = absurd cc
opened_not total (x ∷ t) h = opening total t (x == left_curly_bracket) h

white_space_not : (bytes : List ℕ) (r : ReadMembers) (u : List ℕ) → IsNot (only_white_space bytes r u)
white_space_not bytes r [] h = absurd cc
white_space_not bytes r (x ∷ t) h = absurd cc

only_not : (bytes : List ℕ) (a : Answer) → IsNot a → IsNot (only_from bytes a)
only_not bytes (Ok r) n h = white_space_not bytes r (after_white_space r.1) h
only_not bytes (Err e) n h = n h

end_not : (total : ℕ) (a : Answer) → IsNot a → IsNot (with_end total a)
end_not total (Ok r) n h = absurd cc
end_not total (Err e) n h = n (err_same e h)
  where
    err_same : (e : JsonError) → (let r : Result MemberList JsonError = Err e in r) ≡ Err json.OutOfMemory → (let r : Answer = Err e in r) ≡ Err json.OutOfMemory
    err_same e h = cc

pub has_memory : (bytes : List ℕ) → IsNot (only_list_answer bytes)
unfolding only_list_answer only_answer object_answer
has_memory bytes = end_not (length bytes) (only_answer bytes) (only_not bytes (object_answer bytes) (opened_not (length bytes) (after_white_space bytes)))

-- ---- what the public reader answers is that reading

abbrev pub itself : MemberList → MemberList
itself r = r

pub same_answer : (bytes : List ℕ) (a : Result MemberList JsonError) → Answers itself a a
same_answer bytes (Ok r) = refl
same_answer bytes (Err e) = inr refl

-- what is said of an answer is said of the reading
pub is_reading : {X : Type 0} (v : X → MemberList) (bytes : List ℕ) (r : Result X JsonError) →
    ((list : List Member) (end : ℕ) → HasObject bytes list end → OnlyWhiteSpaceFrom bytes end → Answers v r (Ok (list, end))) →
    (OpensOther bytes → Answers v r (Err json.NotObject)) →
    (OpensObject bytes → HasNoObject bytes → Answers v r (Err json.Syntax)) →
    ((list : List Member) (end : ℕ) → HasObject bytes list end → ¬ (OnlyWhiteSpaceFrom bytes end) → Answers v r (Err json.More)) →
    Answers v r (only_list_answer bytes)
is_reading v bytes r only other broken followed = by_answer (only_list_answer bytes) refl
  where
    known : (a : Result MemberList JsonError) → only_list_answer bytes ≡ a → Answers itself a (only_list_answer bytes)
    known a is = subst (Answers itself a) (sym is) (same_answer bytes a)

    by_answer : (a : Result MemberList JsonError) → only_list_answer bytes ≡ a → Answers v r a
    by_answer (Ok p) is = let h = only_found_is itself bytes (Ok p) (known (Ok p) is) in only p.0 p.1 h.0 h.1
    by_answer (Err json.NotObject) is = other (only_not_object_is itself bytes (Err json.NotObject) (known _ is) refl)
    by_answer (Err json.Syntax) is = let h = only_syntax_is itself bytes (Err json.Syntax) (known _ is) refl in broken h.0 h.1
    by_answer (Err json.More) is = let h = only_more_is itself bytes (Err json.More) (known _ is) refl in followed h.0 h.1 h.2 h.3
    by_answer (Err json.OutOfMemory) is = absurd (has_memory bytes is)

-- ---- the members of a file

fault_said : (a : Result MemberList JsonError) (error : JsonError) (e : CachedSsoTokenError) → Answers member_list (Err error) a → IsFaultOf error e →
    (e ≡ OutOfMemory) ⊎ (or_fault a ≡ Err e)
fault_said a error e h k = elim k [
  | inl m ↦ inl m
  | inr s ↦ elim h [
    | inl m ↦ inl (s ∙ ap text_fault m)
    | inr is ↦ inr (ap or_fault is ∙ ap (λ (x : CachedSsoTokenError). let r : Read (List Member) = Err x in r) (sym s))
  ]
]

pub members_said : (bytes : List ℕ) (m : Members) → Answers member_list (Ok m) (only_list_answer bytes) → ReadsMembers bytes (Ok m)
unfolding members_of_file
members_said bytes m h = ap or_fault h

pub faults_said : (bytes : List ℕ) (error : JsonError) (e : CachedSsoTokenError) → Answers member_list (Err error) (only_list_answer bytes) → IsFaultOf error e → ReadsMembers bytes (Err e)
unfolding members_of_file
faults_said bytes error e h k = fault_said (only_list_answer bytes) error e h k

-- ---- the whole file

-- an error is the fault of a field
abbrev OnlyFields : Read CachedSsoToken → Type 0
OnlyFields (Ok token) = Unit {0}
OnlyFields (Err (MissingField f)) = Unit {0}
OnlyFields (Err (InvalidField f)) = Unit {0}
OnlyFields (Err _) = ⊥

dated_fields : (f : Field) (m : Option Moment) (next : Moment → Read CachedSsoToken) → ((m : Moment) → OnlyFields (next m)) → OnlyFields (dated f m >>= next)
dated_fields f None next h = tt
dated_fields f (Some m) next h = h m

registered_fields : (f : Field) (text : Option (List ℕ)) (next : Option Moment → Read CachedSsoToken) → ((m : Option Moment) → OnlyFields (next m)) → OnlyFields (optional_date f text >>= next)
registered_fields f None next h = h None
registered_fields f (Some text) next h = by_date (date_in text)
  where
    by_date : (m : Option Moment) → OnlyFields ((dated f m >>= λ moment. Ok (Some moment)) >>= next)
    by_date None = tt
    by_date (Some m) = h (Some m)

required_fields : (f : Field) (text : Option (List ℕ)) (next : List ℕ → Read CachedSsoToken) → ((text : List ℕ) → OnlyFields (next text)) → OnlyFields (required f text >>= next)
required_fields f None next h = tt
required_fields f (Some text) next h = h text

token_fields : (ms : List Member) → OnlyFields (token_of ms)
unfolding token_of
token_fields ms =
    required_fields field.AccessToken (text_of ms field.AccessToken) _ (λ access.
    required_fields field.LowerExpiresAt (text_of ms field.LowerExpiresAt) _ (λ end.
    dated_fields field.LowerExpiresAt (date_in end) _ (λ expiry.
    registered_fields field.RegistrationExpiresAt (text_of ms field.RegistrationExpiresAt) _ (λ registration. tt))))

of_fields : (bytes : List ℕ) (ms : List Member) (answer : Read CachedSsoToken) → IsDocument bytes ms → token_of ms ≡ answer → OnlyFields answer → AnswersFile bytes answer
of_fields bytes ms (Ok token) d is f = (ms, d, is)
of_fields bytes ms (Err (MissingField e)) d is f = (ms, d, is)
of_fields bytes ms (Err (InvalidField e)) d is f = (ms, d, is)
of_fields bytes ms (Err FailedToFormatDateTime) d is f = absurd f
of_fields bytes ms (Err (IoError what path)) d is f = absurd f
of_fields bytes ms (Err NoJson) d is f = absurd f
of_fields bytes ms (Err NoHomeDirectory) d is f = absurd f
of_fields bytes ms (Err (Other text)) d is f = absurd f
of_fields bytes ms (Err OutOfMemory) d is f = absurd f

pub file_answers : (bytes : List ℕ) → AnswersFile bytes (sso_file bytes)
unfolding sso_file members_of_file
file_answers bytes = by_answer (only_list_answer bytes) refl
  where
    by_answer : (a : Result MemberList JsonError) → only_list_answer bytes ≡ a → AnswersFile bytes (or_fault a >>= token_of)
    by_answer (Ok p) is = let h = only_found_is itself bytes (Ok p) (subst (Answers itself (Ok p)) (sym is) (same_answer bytes (Ok p))) in of_fields bytes p.0 (token_of p.0) (p.1, h.0, h.1) refl (token_fields p.0)
    by_answer (Err json.NotObject) is = inl (only_not_object_is itself bytes (Err json.NotObject) (subst (Answers itself (Err json.NotObject)) (sym is) (same_answer bytes (Err json.NotObject))) refl, refl)
    by_answer (Err json.Syntax) is = only_syntax_is itself bytes (Err json.Syntax) (subst (Answers itself (Err json.Syntax)) (sym is) (same_answer bytes (Err json.Syntax))) refl
    by_answer (Err json.More) is = inr (only_more_is itself bytes (Err json.More) (subst (Answers itself (Err json.More)) (sym is) (same_answer bytes (Err json.More))) refl, refl)
    by_answer (Err json.OutOfMemory) is = absurd (has_memory bytes is)

-- what a reader answers
pub answers_file : (bytes : List ℕ) (r : Read CachedSsoToken) → UnlessMemory r (sso_file bytes) → AnswersFile bytes r
answers_file bytes (Ok token) h = subst (AnswersFile bytes) h (file_answers bytes)
answers_file bytes (Err e) h = elim h [
  | inl m ↦ subst (λ (x : CachedSsoTokenError). AnswersFile bytes (Err x)) (sym m) tt
  | inr s ↦ subst (AnswersFile bytes) s (file_answers bytes)
]

-- a file whose text is at fault, and one with members
pub file_fails : (bytes : List ℕ) (e : CachedSsoTokenError) → ReadsMembers bytes (Err e) → UnlessMemory (Err e) (sso_file bytes)
unfolding sso_file
file_fails bytes e h = elim h [
  | inl m ↦ inl m
  | inr s ↦ inr (ap (λ (r : Read (List Member)). r >>= token_of) s)
]

pub file_reads : (bytes : List ℕ) (m : Members) (r : Read CachedSsoToken) → ReadsMembers bytes (Ok m) → UnlessMemory r (token_of m.list) → UnlessMemory r (sso_file bytes)
unfolding sso_file
file_reads bytes m r h t = subst (UnlessMemory r) (sym (ap (λ (x : Read (List Member)). x >>= token_of) h)) t
