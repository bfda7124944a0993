-- Why there are no credentials, by the part of a call.
use Rattle.std.proofs.Common.{◌≡◌, ℕ, List, false, Ok, Err, refl, ap, ◌∙◌}
use denote.Hole.Carrier as carrier
use Rattle.cfg_types.specs.declared.errors.CredentialsError as errors
use Rattle.cfg_types.specs.declared.errors.login.LoginTokenError.{LoginTokenError}
use Rattle.cfg_types.specs.declared.errors.login.LoginTokenError.TheVariants as login
use Rattle.cfg_world.specs.Fits.{Pair}
use Rattle.cfg_profile.specs.Configuration.{Configuration}
use Rattle.cfg_profile.specs.Settings.{settings_of}
use Rattle.cfg_token.specs.declared.token_key.TokenKey.TheVariants.{Login}
use Rattle.cfg_login_token.specs.declared.login_token.LoginToken.{LoginToken}
use Rattle.cfg_login_token.specs.LoginTokens.{Given, login_rules}
use Rattle.cfg_kept.specs.Kinds.{Value}
use Rattle.cfg_kept.specs.KeptInquiry.{Reads}
use Rattle.cfg_kept.specs.LoginHoldings.{login_spot}
use Rattle.cfg_kept.proofs.CallParts.{given_then, section_part}
use Rattle.cfg_login.specs.declared.asked_by.AskedBy.{AskedBy}
use Rattle.cfg_types.specs.Classes.{is_not_loaded_answer}
use Rattle.cfg_login.specs.SignIns.{Answer, section_error, section_of, credentials_in, sign_in_credentials}
use Rattle.cfg_login.specs.SignInCauses.{SignInCause}

-- ---- the section, and what it gives

pub sign_in_cause : (conf : Configuration) (session : List ℕ) (by : AskedBy) (found : List Value) (part : List Pair) (out : Answer) → Reads (sign_in_credentials conf session by) found part out → SignInCause conf session by found part out
unfolding sign_in_credentials
sign_in_cause conf session by found part out h =
    let g = given_then (section_of conf session) (credentials_in by) found part out h in
    record { given = g.0; of_section = section_part login_rules login_spot (Login session) conf.environment (settings_of conf) found part g.0 g.1; tells = g.2 }

-- ---- no error says that nothing was there to be loaded

told_loaded : (e : LoginTokenError) → is_not_loaded_answer (Err (section_error e)) ≡ false
unfolding errors.out-CredentialsError carrier.out
told_loaded login.FailedToFormatDateTime = refl
told_loaded (login.IoError what path) = refl
told_loaded (login.JsonError fault) = refl
told_loaded (login.MissingField f) = refl
told_loaded login.NoHomeDirectory = refl
told_loaded login.ExpiredToken = refl
told_loaded (login.RefreshFailed message) = refl
told_loaded (login.Other text) = refl
told_loaded login.OutOfMemory = refl

answer_loaded : (by : AskedBy) (given : Given LoginToken) → is_not_loaded_answer (credentials_in by given) ≡ false
unfolding credentials_in
answer_loaded by (Ok token) = refl
answer_loaded by (Err e) = told_loaded e

pub never_not_loaded : (conf : Configuration) (session : List ℕ) (by : AskedBy) (found : List Value) (part : List Pair) (out : Answer) → SignInCause conf session by found part out → is_not_loaded_answer out ≡ false
never_not_loaded conf session by found part out c = ap is_not_loaded_answer c.tells ∙ answer_loaded by c.given
