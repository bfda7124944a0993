-- Each error of a base has a text.
use Rattle.std.proofs.Common.{◌≡◌, ℕ, List, Bool, true, false, Option, Some, None, Result, Ok, Err, inl, inr, refl, ap, ◌∙◌}
use Rattle.cfg_profile.specs.Seen.{IsShown}
use Rattle.cfg_profile.specs.Plans.{text_or_none}
use Rattle.std.specs.Prelude.{◌⊎◌, is_some, is_none, ◌&&◌, not, codes, if◌then◌else◌}
use Rattle.std.specs.FinMap.{get}
use Rattle.cfg_base.specs.TextMap.{Named}
use Rattle.cfg_base.specs.Text.{characters}
use Rattle.cfg_types.specs.declared.errors.ProfileFileError.TheVariants.{ProfileDidNotContainCredentials, OutOfMemory}
use Rattle.cfg_profile.specs.Properties.{has_key}
use Rattle.cfg_types.specs.Keys.{Keys}
use Rattle.cfg_types.specs.ErrorTexts.{profile_text}
use Rattle.cfg_types.specs.declared.errors.ProfileFileError.{ProfileFileError}
use Rattle.cfg_profile.specs.declared.chain.BaseProvider.{BaseProvider}
use Rattle.cfg_profile.specs.SectionParts.{SectionParts}
use Rattle.cfg_profile.specs.Sections.{property, text_property}
use Rattle.cfg_profile.specs.StaticKeys.{invalid, keys_by, static_keys}
use Rattle.cfg_profile.specs.SignOn.{invalid_sign_on, sign_on_by, sign_on_at, sign_on_by_session, sign_on_with, single_sign_on, has_sign_on}
use Rattle.cfg_profile.specs.Bases.{by_keys, web_identity, base_by_process, base_by_login, local_base, base_by_file, base_by_source, base}

abbrev pub IsTold : {X : Type 0} → Result X ProfileFileError → Type 0
IsTold (Ok x) = Unit {0}
IsTold (Err e) = is_some (profile_text e) ≡ true

either : {X : Type 0} (b : Bool) (x y : Result X ProfileFileError) → IsTold x → IsTold y → IsTold (if b then x else y)
either true x y p q = p
either false x y p q = q

either_error : (b : Bool) (x y : ProfileFileError) → is_some (profile_text x) ≡ true → is_some (profile_text y) ≡ true → is_some (profile_text (if b then x else y)) ≡ true
either_error true x y p q = p
either_error false x y p q = q

keys_by_told : (s : SectionParts) (id secret : Option (List ℕ)) → IsTold (keys_by s id secret)
keys_by_told s None secret =
    either_error (is_none (property s (codes "aws_secret_access_key")) && is_none (property s (codes "aws_session_token")))
    (ProfileDidNotContainCredentials (characters s.name)) (invalid s (codes "profile missing aws_access_key_id")) refl refl
keys_by_told s (Some id) None = refl
keys_by_told s (Some id) (Some secret) = tt

static_keys_told : (s : SectionParts) → IsTold (static_keys s)
unfolding static_keys
static_keys_told s = keys_by_told s (text_property s (codes "aws_access_key_id")) (text_property s (codes "aws_secret_access_key"))

by_keys_told : (r : Result Keys ProfileFileError) → IsTold r → IsTold (by_keys r)
by_keys_told (Ok keys) h = tt
by_keys_told (Err e) h = h

sign_on_by_told : (s : SectionParts) (session region url : Option (List ℕ)) → IsTold (sign_on_by s session region url)
sign_on_by_told s session None url = refl
sign_on_by_told s session (Some region) None = refl
sign_on_by_told s session (Some region) (Some url) = tt

sign_on_at_told : (s place : SectionParts) (session : Option (List ℕ)) → IsTold (sign_on_at s place session)
sign_on_at_told s place session =
    let rest = sign_on_by s session (text_property place (codes "sso_region")) (text_property place (codes "sso_start_url")) in
    let alone = has_key s (codes "sso_role_name") && not (has_key s (codes "sso_account_id")) in
    let without_account = Err (invalid_sign_on s (codes "if `sso_role_name` is set, then `sso_account_id` must also be set")) in
    either {X = BaseProvider} (has_key s (codes "sso_account_id") && not (has_key s (codes "sso_role_name")))
    (Err (invalid_sign_on s (codes "if `sso_account_id` is set, then `sso_role_name` must also be set")))
    (if alone then without_account else rest)
    refl (either {X = BaseProvider} alone without_account rest refl (sign_on_by_told s session (text_property place (codes "sso_region")) (text_property place (codes "sso_start_url"))))

sign_on_by_session_told : (s : SectionParts) (session : List ℕ) (place : Option SectionParts) → IsTold (sign_on_by_session s session place)
sign_on_by_session_told s session None = refl
sign_on_by_session_told s session (Some place) = sign_on_at_told s place (Some (characters session))

sign_on_with_told : (sessions : Named SectionParts) (s : SectionParts) (session : Option (List ℕ)) → IsTold (sign_on_with sessions s session)
sign_on_with_told sessions s None = sign_on_at_told s s None
sign_on_with_told sessions s (Some session) =
    let rest = sign_on_by_session s session (get sessions session) in
    let region = Err (invalid_sign_on s (codes "`sso_region` can only be specified in the [sso-session] config when a session name is given")) in
    either {X = BaseProvider} (has_key s (codes "sso_start_url"))
    (Err (invalid_sign_on s (codes "`sso_start_url` can only be specified in the [sso-session] config when a session name is given")))
    (if has_key s (codes "sso_region") then region else rest)
    refl (either {X = BaseProvider} (has_key s (codes "sso_region")) region rest refl (sign_on_by_session_told s session (get sessions session)))

process_told : (s : SectionParts) (command : Option (List ℕ)) → IsTold (base_by_process s command)
process_told s None = by_keys_told (static_keys s) (static_keys_told s)
process_told s (Some command) = tt

login_told : (s : SectionParts) (session : Option (List ℕ)) → IsTold (base_by_login s session)
login_told s None = process_told s (text_property s (codes "credential_process"))
login_told s (Some session) = tt

web_identity_told : (s : SectionParts) (file : List ℕ) (arn : Option (List ℕ)) → IsTold (web_identity s file arn)
web_identity_told s file None = refl
web_identity_told s file (Some arn) = tt

file_told : (sessions : Named SectionParts) (s : SectionParts) (file : Option (List ℕ)) → IsTold (base_by_file sessions s file)
file_told sessions s None =
    either {X = BaseProvider} (has_sign_on s) (single_sign_on sessions s) (local_base s) (sign_on_with_told sessions s (property s (codes "sso_session"))) (login_told s (text_property s (codes "login_session")))
file_told sessions s (Some file) = web_identity_told s file (text_property s (codes "role_arn"))

source_told : (sessions : Named SectionParts) (s : SectionParts) (name : Option (List ℕ)) → IsTold (base_by_source sessions s name)
source_told sessions s None = file_told sessions s (text_property s (codes "web_identity_token_file"))
source_told sessions s (Some name) = tt

pub base_told : (sessions : Named SectionParts) (s : SectionParts) → IsTold (base sessions s)
unfolding base
base_told sessions s = source_told sessions s (text_property s (codes "credential_source"))

pub error_told : {X : Type 0} (r : Result X ProfileFileError) → IsTold r → (e : ProfileFileError) → Err e ≡ r → is_some (profile_text e) ≡ true
error_told (Ok x) h e same = absurd cc
error_told (Err d) h e same = let is : e ≡ d = cc in ap (λ x. is_some (profile_text x)) is ∙ h

-- an error that a call for the base gave
pub given_told : (sessions : Named SectionParts) (s : SectionParts) (e : ProfileFileError) → (e ≡ OutOfMemory) ⊎ (Err e ≡ base sessions s) → is_some (profile_text e) ≡ true
given_told sessions s e (inl same) = ap (λ x. is_some (profile_text x)) same
given_told sessions s e (inr given) = error_told (base sessions s) (base_told sessions s) e given

-- a text that is shown is the error's
pub shown_is : (o : Option (List ℕ)) (text : List ℕ) → is_some o ≡ true → IsShown o text → text ≡ text_or_none o
shown_is None text there shown = absurd cc
shown_is (Some t) text there shown = shown
