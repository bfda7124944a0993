-- A document is answered by its text, and then by its table.
use Rattle.std.proofs.Common.{◌≡◌, inl, inr, ℕ, List, Bool, true, false, cond, Option, Some, None, sym, subst, []}
use Rattle.std.specs.Option.{option_or}
use Rattle.std.specs.Prelude.{Ok, Err, ℤ, pos, codes}
use Rattle.std.specs.Ordering.{int_eq}
use Rattle.std.specs.Str.{bytes_eq}
use Rattle.cfg_base.specs.Gives.{◌>>=◌}
use Rattle.cfg_base.specs.Moment.{Moment}
use Rattle.cfg_types.specs.Keys.{Keys}
use Rattle.cfg_types.specs.declared.document.Field.TheVariants as field
use Rattle.cfg_types.specs.declared.document.FieldFault.TheVariants as fault
use Rattle.cfg_types.specs.declared.document.JsonError.TheVariants as json
use Rattle.cfg_types.specs.declared.document.InvalidJsonCredentials.{InvalidJsonCredentials}
use Rattle.cfg_types.specs.declared.document.InvalidJsonCredentials.TheVariants as invalid
use Rattle.cfg_json.specs.declared.credentials.JsonCredentials.TheVariants as document
use Rattle.cfg_json.specs.declared.member.Member.{Member}
use Rattle.cfg_json.specs.Documents.{Read, UnlessMemory, AnswersDocument, ReadsDocument, IsDocument, field_text, required, dated, date_in, offset_date_in, refreshable, refused, by_code, document_of, optional_end, process_of}

pub text_fails : {A : Type 0} (Table : List Member → Read A → Type 0) (bytes : List ℕ) (e : InvalidJsonCredentials) → ReadsDocument bytes (Err e) → AnswersDocument Table bytes (Err e)
text_fails Table bytes (invalid.JsonError json.NotObject) h = h
text_fails Table bytes (invalid.JsonError json.Syntax) h = h
text_fails Table bytes (invalid.JsonError json.More) h = h
text_fails Table bytes (invalid.JsonError json.OutOfMemory) h = h
text_fails Table bytes (invalid.MissingField f) h = absurd h
text_fails Table bytes (invalid.InvalidField f e) h = absurd h
text_fails Table bytes (invalid.Other t) h = h
text_fails Table bytes invalid.OutOfMemory h = tt

-- an error is the fault of a field
abbrev pub OnlyFields : {A : Type 0} → Read A → Type 0
OnlyFields (Ok x) = Unit {0}
OnlyFields (Err (invalid.JsonError e)) = ⊥
OnlyFields (Err (invalid.MissingField f)) = Unit {0}
OnlyFields (Err (invalid.InvalidField f e)) = Unit {0}
OnlyFields (Err (invalid.Other t)) = ⊥
OnlyFields (Err invalid.OutOfMemory) = ⊥

dated_fields : (id secret token : List ℕ) (account : Option (List ℕ)) (m : Option Moment) → OnlyFields (dated field.Expiration m >>= λ moment. Ok (document.RefreshableCredentials id secret token account moment))
dated_fields id secret token account None = tt
dated_fields id secret token account (Some m) = tt

keys_fields : (id secret token end account : Option (List ℕ))
    → OnlyFields (required field.AccessKeyId id >>= λ id. required field.SecretAccessKey secret >>= λ secret. required field.Token token >>= λ token. required field.Expiration end >>= λ end. dated field.Expiration (date_in end) >>= λ moment. Ok (document.RefreshableCredentials id secret token account moment))
keys_fields None secret token end account = tt
keys_fields (Some i) None token end account = tt
keys_fields (Some i) (Some s) None end account = tt
keys_fields (Some i) (Some s) (Some t) None account = tt
keys_fields (Some i) (Some s) (Some t) (Some e) account = dated_fields i s t account (date_in e)

refreshable_fields : (ms : List Member) → OnlyFields (refreshable ms)
unfolding refreshable
refreshable_fields ms =
    keys_fields (field_text ms field.AccessKeyId field.AccessKeyId) (field_text ms field.SecretAccessKey field.SecretAccessKey) (field_text ms field.Token field.SessionToken) (field_text ms field.Expiration field.ExpiresAt) (field_text ms field.AccountId field.AccountId)

by_success : (ms : List Member) (code : List ℕ) (b : Bool) → OnlyFields (cond b (refreshable ms) (Ok (refused ms code)))
by_success ms code true = refreshable_fields ms
by_success ms code false = tt

by_code_fields : (ms : List Member) (code : Option (List ℕ)) → OnlyFields (by_code ms code)
by_code_fields ms None = refreshable_fields ms
by_code_fields ms (Some code) = by_success ms code (bytes_eq code (codes "Success"))

pub document_fields : (ms : List Member) → OnlyFields (document_of ms)
unfolding document_of
document_fields ms = by_code_fields ms (field_text ms field.Code field.Code)

abbrev process_keys : List ℕ → List ℕ → Option Moment → Option (List ℕ) → Option (List ℕ) → Read Keys
process_keys id secret end token account = Ok (record {
  access_key_id = id;
  secret_access_key = secret;
  session_token = token;
  expiry = end;
  account_id = account;
  provider_name = codes "CredentialProcess";
  features = [];
})

process_dated : (id secret : List ℕ) (token account : Option (List ℕ)) (m : Option Moment) → OnlyFields ((dated field.Expiration m >>= λ m. Ok (Some m)) >>= λ end. process_keys id secret end token account)
process_dated id secret token account None = tt
process_dated id secret token account (Some m) = tt

process_ended : (id secret end token account : Option (List ℕ))
    → OnlyFields (required field.AccessKeyId id >>= λ id. required field.SecretAccessKey secret >>= λ secret. optional_end end >>= λ end. process_keys id secret end token account)
process_ended None secret end token account = tt
process_ended (Some i) None end token account = tt
process_ended (Some i) (Some s) None token account = tt
process_ended (Some i) (Some s) (Some e) token account = process_dated i s token account (offset_date_in e)

abbrev process_at : List Member → Option (List ℕ) → Unit {0} → Read Keys
process_at ms account u =
    required field.AccessKeyId (field_text ms field.AccessKeyId field.AccessKeyId) >>= λ id.
    required field.SecretAccessKey (field_text ms field.SecretAccessKey field.SecretAccessKey) >>= λ secret.
    optional_end (field_text ms field.Expiration field.Expiration) >>= λ end.
    process_keys id secret end (field_text ms field.SessionToken field.SessionToken) (option_or (field_text ms field.AccountId field.AccountId) account)

process_numbered : (ms : List Member) (account : Option (List ℕ)) (n : ℤ) (b : Bool) → OnlyFields (cond b (Ok (tt {0})) (Err (invalid.InvalidField field.LowerVersion (fault.UnknownVersion n))) >>= process_at ms account)
process_numbered ms account n true =
    process_ended (field_text ms field.AccessKeyId field.AccessKeyId) (field_text ms field.SecretAccessKey field.SecretAccessKey) (field_text ms field.Expiration field.Expiration) (field_text ms field.SessionToken field.SessionToken) (option_or (field_text ms field.AccountId field.AccountId) account)
process_numbered ms account n false = tt

pub process_fields : (ms : List Member) (version : Option (Option ℤ)) (account : Option (List ℕ)) → OnlyFields (process_of ms version account)
unfolding process_of
process_fields ms None account = tt
process_fields ms (Some None) account = tt
process_fields ms (Some (Some n)) account = process_numbered ms account n (int_eq n (pos 1))

abbrev failed : {A : Type 0} → InvalidJsonCredentials → Read A
failed e = Err e

-- what a table says of the members is what a reader answers of the text
pub fields_answer : {A : Type 0} (Table : List Member → Read A → Type 0) (bytes : List ℕ) (ms : List Member) (answer : Read A) (r : Read A) → IsDocument bytes ms → Table ms answer → OnlyFields answer → UnlessMemory r answer → AnswersDocument Table bytes r
fields_answer Table bytes ms answer (Ok x) d t o h = (ms, d, subst (Table ms) h t)
fields_answer {A = A} Table bytes ms answer (Err e) d t o h = elim h [
  | inl m ↦ subst (λ (f : InvalidJsonCredentials). AnswersDocument Table bytes (Err f)) (sym m) tt
  | inr s ↦ by_fault e (subst (Table ms) s t) (subst OnlyFields s o)
] where
  by_fault : (e : InvalidJsonCredentials) → Table ms (Err e) → OnlyFields (failed {A = A} e) → AnswersDocument Table bytes (Err e)
  by_fault (invalid.JsonError f) t o = absurd o
  by_fault (invalid.MissingField f) t o = (ms, d, t)
  by_fault (invalid.InvalidField f e) t o = (ms, d, t)
  by_fault (invalid.Other u) t o = absurd o
  by_fault invalid.OutOfMemory t o = tt

pub text_fails_at : {A : Type 0} (Table : List Member → Read A → Type 0) (bytes read : List ℕ) (e : InvalidJsonCredentials) → read ≡ bytes → ReadsDocument read (Err e) → AnswersDocument Table bytes (Err e)
text_fails_at Table bytes read e is h = text_fails Table bytes e (subst (λ (b : List ℕ). ReadsDocument b (Err e)) is h)
