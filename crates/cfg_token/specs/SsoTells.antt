-- What a section relies on holds of the rules of IAM Identity Center.
use Rattle.std.specs.Prelude.{◌≡◌, ℕ, List, Bool, true, false, ◌||◌, cond, ℤ, pos, ◌+ℤ◌, int_lt, Option, Some, None, Result, Ok, Err, codes, refl}
use Rattle.std.proofs.Common.{subst, arith}
use Rattle.std.proofs.lemmas.Int.{ints}
use Rattle.cfg_base.specs.Moment.{Moment}
use Rattle.cfg_base.specs.Instant.{number}
use Rattle.cfg_types.specs.Environment.{Variables, variable}
use Rattle.cfg_types.specs.declared.environment.VarError.{VarError}
use Rattle.cfg_types.specs.declared.reply.Reply.TheVariants as reply
use Rattle.cfg_types.specs.declared.reply.sso.TokenReply.{TokenReply}
use Rattle.cfg_types.specs.declared.errors.sso.CachedSsoTokenError.{CachedSsoTokenError}
use Rattle.cfg_types.specs.declared.errors.sso.SsoTokenProviderError.{SsoTokenProviderError}
use Rattle.cfg_world.specs.declared.ask.Answer.{Answer}
use Rattle.cfg_world.specs.declared.ask.Answer.TheVariants as answer
use Rattle.cfg_token.specs.declared.token_key.TokenKey.{TokenKey}
use Rattle.cfg_token.specs.declared.token_key.TokenKey.TheVariants.{Sso, Login}
use Rattle.cfg_token.specs.declared.file_token.Renewal.TheVariants.{Granted, Refused}
use Rattle.cfg_token.specs.declared.file_token.Unsaved.{Unsaved}
use Rattle.cfg_token.specs.declared.file_token.Unsaved.TheVariants as unsaved
use Rattle.cfg_token.specs.declared.sso_token.CachedSsoToken.{CachedSsoToken}
use Rattle.cfg_token.specs.Moments.{is_before}
use Rattle.cfg_token.specs.SsoFile.{sso_file}
use Rattle.cfg_token.specs.Rules.{Tells}
use Rattle.cfg_token.specs.SsoTokens.{home_path, key_path, loaded, end_of, renewed, renewed_to, by_access, sso_renewal, sso_unsaved, is_no_memory, sso_rules}

home_tells : (session : List ℕ) (home : Result (List ℕ) VarError) (e : SsoTokenProviderError) → home_path session home ≡ Err e → is_no_memory e ≡ false
home_tells session (Err v) e h = cc
home_tells session (Ok home) e h = cc

path_tells : (key : TokenKey) (env : Variables) (e : SsoTokenProviderError) → key_path key env ≡ Err e → is_no_memory e ≡ false
path_tells (Sso session region url) env e h = home_tells session (variable env (codes "HOME")) e h
path_tells (Login session) env e h = cc

loaded_tells : (file : Result CachedSsoToken CachedSsoTokenError) (e : SsoTokenProviderError) → loaded file ≡ Err e → is_no_memory e ≡ false
loaded_tells (Ok token) e h = cc
loaded_tells (Err f) e h = cc

renewed_tells : (key : TokenKey) (token : CachedSsoToken) (given : TokenReply) (access : List ℕ) (end : Option Moment) (e : SsoTokenProviderError) (noted : Bool) → renewed_to key token given access end ≡ Refused e noted → is_no_memory e ≡ false
renewed_tells key token given access None e noted h = cc
renewed_tells key token given access (Some end) e noted h = cc

access_tells : (key : TokenKey) (token : CachedSsoToken) (now : Moment) (given : TokenReply) (access : Option (List ℕ)) (e : SsoTokenProviderError) (noted : Bool) → by_access key token now given access ≡ Refused e noted → is_no_memory e ≡ false
access_tells key token now given None e noted h = cc
access_tells key token now given (Some access) e noted h = renewed_tells key token given access (end_of now given.expires_in) e noted h

renewal_tells : (key : TokenKey) (token : CachedSsoToken) (now : Moment) (a : Answer) (e : SsoTokenProviderError) (noted : Bool) → sso_renewal key token now a ≡ Refused e noted → is_no_memory e ≡ false
renewal_tells key token now (answer.Replied (reply.Token given)) e noted h = access_tells key token now given given.access_token e noted h
renewal_tells key token now (answer.Replied (reply.Http given)) e noted h = cc
renewal_tells key token now (answer.Replied (reply.Sts given)) e noted h = cc
renewal_tells key token now (answer.Replied (reply.Role given)) e noted h = cc
renewal_tells key token now (answer.Replied (reply.SignIn given)) e noted h = cc
renewal_tells key token now (answer.Replied (reply.Refused refusal)) e noted h = cc
renewal_tells key token now (answer.Moment m) e noted h = cc
renewal_tells key token now (answer.Jitter n) e noted h = cc
renewal_tells key token now (answer.Contents bytes) e noted h = cc
renewal_tells key token now answer.Written e noted h = cc
renewal_tells key token now (answer.Finished finished) e noted h = cc
renewal_tells key token now (answer.Addresses addresses) e noted h = cc
renewal_tells key token now (answer.Failed kind) e noted h = cc

-- an end is after the reading
ends_later : (now : Moment) (lifetime : ℤ) (end : Moment) → end_of now lifetime ≡ Some end → is_before now end ≡ true
ends_later now lifetime end h = by_tests (int_lt lifetime (pos 1)) (int_lt (pos 9223372036854775807) (now.seconds +ℤ lifetime)) (int_lt (number now) (number (record { seconds = now.seconds +ℤ lifetime; nanos = now.nanos }))) refl refl h
  where
    by_tests : (low high later : Bool) → int_lt lifetime (pos 1) ≡ low → int_lt (number now) (number (record { seconds = now.seconds +ℤ lifetime; nanos = now.nanos })) ≡ later →
        cond (low || high) None (Some (record { seconds = now.seconds +ℤ lifetime; nanos = now.nanos })) ≡ Some end → is_before now end ≡ true
    by_tests true high later e f k = cc
    by_tests false true later e f k = cc
    by_tests false false true e f k = (let same : record { seconds = now.seconds +ℤ lifetime; nanos = now.nanos } ≡ end = cc in subst (λ (m : Moment). is_before now m ≡ true) same f)
    by_tests false false false e f k = absurd (omega (arith, ints, e, f))

renewed_later : (key : TokenKey) (token : CachedSsoToken) (given : TokenReply) (access : List ℕ) (now : Moment) (end : Option Moment) (new : CachedSsoToken) →
    ((m : Moment) → end ≡ Some m → is_before now m ≡ true) → renewed_to key token given access end ≡ Granted new → is_before now new.expires_at ≡ true
renewed_later key token given access now None new later h = cc
renewed_later key token given access now (Some end) new later h = (let same : renewed key token given access end ≡ new = cc in subst (λ (t : CachedSsoToken). is_before now t.expires_at ≡ true) same (later end refl))

access_later : (key : TokenKey) (token : CachedSsoToken) (now : Moment) (given : TokenReply) (access : Option (List ℕ)) (new : CachedSsoToken) → by_access key token now given access ≡ Granted new → is_before now new.expires_at ≡ true
access_later key token now given None new h = cc
access_later key token now given (Some access) new h = renewed_later key token given access now (end_of now given.expires_in) new (λ m e. ends_later now given.expires_in m e) h

renewal_later : (key : TokenKey) (token : CachedSsoToken) (now : Moment) (a : Answer) (new : CachedSsoToken) → sso_renewal key token now a ≡ Granted new → is_before now new.expires_at ≡ true
renewal_later key token now (answer.Replied (reply.Token given)) new h = access_later key token now given given.access_token new h
renewal_later key token now (answer.Replied (reply.Http given)) new h = cc
renewal_later key token now (answer.Replied (reply.Sts given)) new h = cc
renewal_later key token now (answer.Replied (reply.Role given)) new h = cc
renewal_later key token now (answer.Replied (reply.SignIn given)) new h = cc
renewal_later key token now (answer.Replied (reply.Refused refusal)) new h = cc
renewal_later key token now (answer.Moment m) new h = cc
renewal_later key token now (answer.Jitter n) new h = cc
renewal_later key token now (answer.Contents bytes) new h = cc
renewal_later key token now answer.Written new h = cc
renewal_later key token now (answer.Finished finished) new h = cc
renewal_later key token now (answer.Addresses addresses) new h = cc
renewal_later key token now (answer.Failed kind) new h = cc

unsaved_tells : (fault : Unsaved) (e : SsoTokenProviderError) → sso_unsaved fault ≡ Some e → is_no_memory e ≡ false
unsaved_tells unsaved.NoText e h = cc
unsaved_tells (unsaved.NotWritten path) e h = cc

pub sso_tells : Tells sso_rules
sso_tells = record {
  path = path_tells;
  reading = λ bytes e h. loaded_tells (sso_file bytes) e h;
  unread = λ path. refl;
  expired = refl;
  renewal = renewal_tells;
  granted = renewal_later;
  unsaved = unsaved_tells;
}
