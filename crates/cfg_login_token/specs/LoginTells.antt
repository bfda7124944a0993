-- What a section relies on holds of the rules of sign-in sessions.
use Rattle.std.specs.Prelude.{◌≡◌, ℕ, List, Bool, true, false, ◌||◌, cond, ℤ, pos, ◌+ℤ◌, int_lt, Option, Some, None, Result, Ok, Err, codes, refl}
use Rattle.std.specs.List.{list_any}
use Rattle.std.proofs.Common.{subst, arith}
use Rattle.std.proofs.lemmas.Int.{ints}
use Rattle.cfg_base.specs.Gives.{◌>>=◌}
use Rattle.cfg_base.specs.Moment.{Moment}
use Rattle.cfg_base.specs.Instant.{number}
use Rattle.cfg_types.specs.Field.{field_name}
use Rattle.cfg_types.specs.Environment.{Variables, variable}
use Rattle.cfg_types.specs.declared.environment.VarError.{VarError}
use Rattle.cfg_types.specs.declared.document.Field.{Field}
use Rattle.cfg_types.specs.declared.document.Field.TheVariants as field
use Rattle.cfg_types.specs.declared.document.JsonError.{JsonError}
use Rattle.cfg_types.specs.declared.document.JsonError.TheVariants as json
use Rattle.cfg_types.specs.declared.reply.Reply.TheVariants as reply
use Rattle.cfg_types.specs.declared.reply.sign_in.SignInToken.{SignInToken}
use Rattle.cfg_types.specs.declared.errors.login.LoginJsonFault.TheVariants.{Nested}
use Rattle.cfg_types.specs.declared.errors.login.LoginTokenError.{LoginTokenError}
use Rattle.cfg_types.specs.declared.errors.login.LoginTokenError.TheVariants.{JsonError as Json}
use Rattle.cfg_world.specs.declared.ask.Answer.{Answer}
use Rattle.cfg_world.specs.declared.ask.Answer.TheVariants as answer
use Rattle.cfg_json.specs.declared.credentials.JsonCredentials.TheVariants as document
use Rattle.cfg_json.specs.declared.member.Member.{Member}
use Rattle.cfg_json.specs.Places.{between}
use Rattle.cfg_json.specs.Answers.{MemberList, list_answer}
use Rattle.cfg_json.specs.Documents.{document_of}
use Rattle.cfg_json.specs.Documents as documents
use Rattle.cfg_token.specs.declared.token_key.TokenKey.{TokenKey}
use Rattle.cfg_token.specs.declared.token_key.TokenKey.TheVariants.{Sso, Login}
use Rattle.cfg_token.specs.declared.file_token.Renewal.TheVariants.{Granted, Refused}
use Rattle.cfg_token.specs.declared.file_token.Unsaved.{Unsaved}
use Rattle.cfg_token.specs.Moments.{is_before}
use Rattle.cfg_token.specs.SsoFile.{text_of}
use Rattle.cfg_token.specs.SsoTokens.{end_of}
use Rattle.cfg_token.specs.Rules.{Tells}
use Rattle.cfg_login_token.specs.declared.login_token.LoginToken.{LoginToken}
use Rattle.cfg_login_token.specs.Paths.{cache_directory}
use Rattle.cfg_login_token.specs.Access.{Read, Place, holds_object, keys_of, access_of, access_at, last_place, members_in}
use Rattle.cfg_login_token.specs.LoginFile.{required, key_of, token_of, or_fault, members_of_file, login_file}
use Rattle.cfg_login_token.specs.LoginTokens.{cache_path, key_path, end_in, renewed, renewed_to, by_token, login_renewal, login_unsaved, is_no_memory, login_rules}

-- no error is that memory ran out
abbrev NoMemory : {A : Type 0} → Read A → Type 0
NoMemory (Ok x) = Unit {0}
NoMemory (Err e) = is_no_memory e ≡ false

-- ---- the path

directory_tells : (cache home : Result (List ℕ) VarError) → NoMemory (cache_directory cache home)
directory_tells (Ok cache) home = tt
directory_tells (Err e) (Ok home) = tt
directory_tells (Err e) (Err f) = refl

path_from : (session : List ℕ) (cache : Read (List ℕ)) (e : LoginTokenError) → NoMemory cache → cache_path session cache ≡ Err e → is_no_memory e ≡ false
path_from session (Ok cache) e t h = cc
path_from session (Err f) e t h = (let same : f ≡ e = cc in subst (λ (x : LoginTokenError). is_no_memory x ≡ false) same t)

path_tells : (key : TokenKey) (env : Variables) (e : LoginTokenError) → key_path key env ≡ Err e → is_no_memory e ≡ false
path_tells (Sso session region url) env e h = cc
path_tells (Login session) env e h =
    let cache : Result (List ℕ) VarError = variable env (codes "AWS_LOGIN_CACHE_DIRECTORY") in
    let home : Result (List ℕ) VarError = variable env (codes "HOME") in
    path_from session (cache_directory cache home) e (directory_tells cache home) h

-- ---- the file

next_tells : {A B : Type 0} (r : Read A) (next : A → Read B) → NoMemory r → ((x : A) → NoMemory (next x)) → NoMemory (r >>= next)
next_tells (Ok x) next h k = k x
next_tells (Err e) next h k = h

required_tells : {A : Type 0} (f : Field) (o : Option A) → NoMemory (required f o)
required_tells f None = refl
required_tells f (Some x) = tt

keys_tell : (d : documents.Read _) → NoMemory (keys_of d)
keys_tell (Ok (document.RefreshableCredentials id secret token account end)) = tt
keys_tell (Ok (document.Error code message)) = refl
keys_tell (Err e) = refl

access_tells : (ms : List Member) → NoMemory (access_of ms)
unfolding access_of
access_tells ms = by_test (list_any holds_object ms)
  where
    by_test : (b : Bool) → NoMemory (cond b (Err (Json Nested)) (keys_of (document_of ms)))
    by_test true = refl
    by_test false = keys_tell (document_of ms)

place_tells : (bytes : List ℕ) (place : Option Place) → NoMemory (access_at bytes place)
place_tells bytes None = tt
place_tells bytes (Some place) = next_tells (access_of (members_in (between bytes place.0 place.1))) _ (access_tells _) (λ keys. tt)

token_tells : (bytes : List ℕ) (ms : List Member) → NoMemory (token_of bytes ms)
unfolding token_of
token_tells bytes ms =
    next_tells (access_at bytes (last_place (field_name field.AccessToken) ms)) _ (place_tells bytes (last_place (field_name field.AccessToken) ms)) (λ access.
    next_tells (required field.LowerAccessKeyId access) _ (required_tells field.LowerAccessKeyId access) (λ keys.
    next_tells (required field.LowerAccountId keys.account_id) _ (required_tells field.LowerAccountId keys.account_id) (λ account.
    next_tells (required field.ClientId (text_of ms field.ClientId)) _ (required_tells field.ClientId (text_of ms field.ClientId)) (λ client.
    next_tells (required field.DpopKey (key_of ms)) _ (required_tells field.DpopKey (key_of ms)) (λ key.
    next_tells (required field.RefreshToken (text_of ms field.RefreshToken)) _ (required_tells field.RefreshToken (text_of ms field.RefreshToken)) (λ refresh. tt))))))

fault_tells : (a : Result MemberList JsonError) → NoMemory (or_fault a)
fault_tells (Ok read) = tt
fault_tells (Err json.NotObject) = refl
fault_tells (Err json.Syntax) = refl
fault_tells (Err json.More) = refl
fault_tells (Err json.OutOfMemory) = refl

file_tells : (bytes : List ℕ) → NoMemory (login_file bytes)
unfolding login_file members_of_file
file_tells bytes = next_tells (or_fault (list_answer bytes)) (token_of bytes) (fault_tells (list_answer bytes)) (token_tells bytes)

reading_tells : (bytes : List ℕ) (e : LoginTokenError) → login_file bytes ≡ Err e → is_no_memory e ≡ false
reading_tells bytes e h = subst NoMemory h (file_tells bytes)

-- ---- a refresh

renewed_tells : (token : LoginToken) (given : SignInToken) (end : Option Moment) (e : LoginTokenError) (noted : Bool) → renewed_to token given end ≡ Refused e noted → is_no_memory e ≡ false
renewed_tells token given None e noted h = cc
renewed_tells token given (Some end) e noted h = cc

token_renewal_tells : (token : LoginToken) (now : Moment) (given : Option SignInToken) (e : LoginTokenError) (noted : Bool) → by_token token now given ≡ Refused e noted → is_no_memory e ≡ false
token_renewal_tells token now None e noted h = cc
token_renewal_tells token now (Some given) e noted h = renewed_tells token given (end_of now given.expires_in) e noted h

renewal_tells : (token : LoginToken) (now : Moment) (a : Answer) (e : LoginTokenError) (noted : Bool) → login_renewal token now a ≡ Refused e noted → is_no_memory e ≡ false
renewal_tells token now (answer.Replied (reply.SignIn given)) e noted h = token_renewal_tells token now given.token e noted h
renewal_tells token now (answer.Replied (reply.Refused refusal)) e noted h = cc
renewal_tells token now (answer.Replied (reply.Http given)) e noted h = cc
renewal_tells token now (answer.Replied (reply.Sts given)) e noted h = cc
renewal_tells token now (answer.Replied (reply.Role given)) e noted h = cc
renewal_tells token now (answer.Replied (reply.Token given)) e noted h = cc
renewal_tells token now (answer.Moment m) e noted h = cc
renewal_tells token now (answer.Jitter n) e noted h = cc
renewal_tells token now (answer.Contents bytes) e noted h = cc
renewal_tells token now answer.Written e noted h = cc
renewal_tells token now (answer.Finished finished) e noted h = cc
renewal_tells token now (answer.Addresses addresses) e noted h = cc
renewal_tells token now (answer.Failed kind) e noted h = cc

-- an end is after the reading
ends_later : (now : Moment) (lifetime : ℤ) (end : Moment) → end_of now lifetime ≡ Some end → is_before now end ≡ true
ends_later now lifetime end h = by_tests (int_lt lifetime (pos 1)) (int_lt (pos 9223372036854775807) (now.seconds +ℤ lifetime)) (int_lt (number now) (number (record { seconds = now.seconds +ℤ lifetime; nanos = now.nanos }))) refl refl h
  where
    by_tests : (low high later : Bool) → int_lt lifetime (pos 1) ≡ low → int_lt (number now) (number (record { seconds = now.seconds +ℤ lifetime; nanos = now.nanos })) ≡ later →
        cond (low || high) None (Some (record { seconds = now.seconds +ℤ lifetime; nanos = now.nanos })) ≡ Some end → is_before now end ≡ true
    by_tests true high later e f k = cc
    by_tests false true later e f k = cc
    by_tests false false true e f k = (let same : record { seconds = now.seconds +ℤ lifetime; nanos = now.nanos } ≡ end = cc in subst (λ (m : Moment). is_before now m ≡ true) same f)
    by_tests false false false e f k = absurd (omega (arith, ints, e, f))

renewed_later : (token : LoginToken) (given : SignInToken) (now : Moment) (end : Option Moment) (new : LoginToken) →
    ((m : Moment) → end ≡ Some m → is_before now m ≡ true) → renewed_to token given end ≡ Granted new → is_before now (end_in new) ≡ true
renewed_later token given now None new later h = cc
renewed_later token given now (Some end) new later h = (let same : renewed token given end ≡ new = cc in subst (λ (t : LoginToken). is_before now (end_in t) ≡ true) same (later end refl))

token_later : (token : LoginToken) (now : Moment) (given : Option SignInToken) (new : LoginToken) → by_token token now given ≡ Granted new → is_before now (end_in new) ≡ true
token_later token now None new h = cc
token_later token now (Some given) new h = renewed_later token given now (end_of now given.expires_in) new (λ m e. ends_later now given.expires_in m e) h

renewal_later : (token : LoginToken) (now : Moment) (a : Answer) (new : LoginToken) → login_renewal token now a ≡ Granted new → is_before now (end_in new) ≡ true
renewal_later token now (answer.Replied (reply.SignIn given)) new h = token_later token now given.token new h
renewal_later token now (answer.Replied (reply.Refused refusal)) new h = cc
renewal_later token now (answer.Replied (reply.Http given)) new h = cc
renewal_later token now (answer.Replied (reply.Sts given)) new h = cc
renewal_later token now (answer.Replied (reply.Role given)) new h = cc
renewal_later token now (answer.Replied (reply.Token given)) new h = cc
renewal_later token now (answer.Moment m) new h = cc
renewal_later token now (answer.Jitter n) new h = cc
renewal_later token now (answer.Contents bytes) new h = cc
renewal_later token now answer.Written new h = cc
renewal_later token now (answer.Finished finished) new h = cc
renewal_later token now (answer.Addresses addresses) new h = cc
renewal_later token now (answer.Failed kind) new h = cc

unsaved_tells : (fault : Unsaved) (e : LoginTokenError) → login_unsaved fault ≡ Some e → is_no_memory e ≡ false
unsaved_tells fault e h = cc

pub login_tells : Tells login_rules
login_tells = record {
  path = path_tells;
  reading = reading_tells;
  unread = λ path. refl;
  expired = refl;
  renewal = λ key token now a e noted h. renewal_tells token now a e noted h;
  granted = λ key token now a new h. renewal_later token now a new h;
  unsaved = unsaved_tells;
}
