-- The text that is written for a token of IAM Identity Center.
use Rattle.std.specs.Prelude.{◌≡◌, ◌⊎◌, ℕ, List, [], true, Option, Some, None, option_map, Result, Ok, Err}
use Rattle.std.specs.Str.{all_scalars}
use Rattle.cfg_base.specs.Gives.{Gives}
use Rattle.cfg_base.specs.Moment.{Moment}
use Rattle.cfg_base.specs.Text.{characters}
use Rattle.cfg_types.specs.Field.{field_name}
use Rattle.cfg_types.specs.declared.document.Field.{Field}
use Rattle.cfg_types.specs.declared.document.Field.TheVariants as field
use Rattle.cfg_types.specs.declared.errors.sso.CachedSsoTokenError.{CachedSsoTokenError}
use Rattle.cfg_types.specs.declared.errors.sso.CachedSsoTokenError.TheVariants.{FailedToFormatDateTime, InvalidField, IoError, JsonError as NoJson, MissingField, NoHomeDirectory, Other, OutOfMemory}
use Rattle.cfg_json.specs.Writing.{quoted, braced, with_member}
use Rattle.cfg_json.specs.Dates.{IsWrittenDate, IsOutside}
use Rattle.cfg_token.specs.DateTexts.{date_of}
use Rattle.cfg_token.specs.declared.sso_token.CachedSsoToken.{CachedSsoToken}

-- the members' text with one member more, a text
abbrev pub with_text : Field → List ℕ → List ℕ → List ℕ
with_text f text members = with_member members (characters (field_name f)) (quoted text)

abbrev pub with_text_if_there : Field → Option (List ℕ) → List ℕ → List ℕ
with_text_if_there f None members = members
with_text_if_there f (Some text) members = with_text f text members

-- the members of a token's file, from the texts of its dates
abbrev pub dated_members : CachedSsoToken → List ℕ → Option (List ℕ) → List ℕ
dated_members token expiry registration =
    with_text_if_there field.StartUrl token.start_url
    (with_text_if_there field.Region token.region
    (with_text_if_there field.RegistrationExpiresAt registration
    (with_text_if_there field.ClientSecret token.client_secret
    (with_text_if_there field.ClientId token.client_id
    (with_text_if_there field.RefreshToken token.refresh_token
    (with_text field.LowerExpiresAt expiry
    (with_text field.AccessToken token.access_token [])))))))

-- the text of a date that may be there
abbrev pub IsWrittenIfThere : Option (List ℕ) → Option Moment → Type 0
IsWrittenIfThere None None = Unit {0}
IsWrittenIfThere None (Some m) = ⊥
IsWrittenIfThere (Some text) None = ⊥
IsWrittenIfThere (Some text) (Some m) = IsWrittenDate text m

-- the text of a token's file
pub record IsSsoText (token : CachedSsoToken) (text : List ℕ) : Type 0 where
  pub expiry : List ℕ
  pub registration : Option (List ℕ)
  pub is_expiry : IsWrittenDate expiry token.expires_at
  pub is_registration : IsWrittenIfThere registration token.registration_expires_at
  pub is : text ≡ braced (dated_members token expiry registration)

abbrev pub dated_text : CachedSsoToken → Option (List ℕ) → Option (Option (List ℕ)) → Option (List ℕ)
dated_text token None registration = None
dated_text token (Some expiry) None = None
dated_text token (Some expiry) (Some registration) = Some (braced (dated_members token expiry registration))

-- the text of a date that may be there, where it has one
abbrev pub date_if_there : Option Moment → Option (Option (List ℕ))
date_if_there None = Some None
date_if_there (Some m) = option_map (λ text. Some text) (date_of m)

-- the text of a token's file, where its dates have texts
unfoldable pub sso_text : CachedSsoToken → Option (List ℕ)
sso_text token = dated_text token (date_of token.expires_at) (date_if_there token.registration_expires_at)

abbrev pub IsOutsideIfThere : Option Moment → Type 0
IsOutsideIfThere None = ⊥
IsOutsideIfThere (Some m) = IsOutside m.seconds

-- one of its dates is outside the years 1 to 9999
abbrev pub HasNoText : CachedSsoToken → Type 0
HasNoText token = IsOutside token.expires_at.seconds ⊎ IsOutsideIfThere token.registration_expires_at

-- What the writer of a text answers, by what this is a text of and where it has none.
abbrev pub Writes : {A : Type 0} → (A → Type 0) → Type 0 → Result A CachedSsoTokenError → Type 0
Writes IsTextOf Outside (Ok text) = IsTextOf text
Writes IsTextOf Outside (Err FailedToFormatDateTime) = Outside
Writes IsTextOf Outside (Err OutOfMemory) = Unit {0}
Writes IsTextOf Outside (Err (InvalidField f)) = ⊥
Writes IsTextOf Outside (Err (IoError what path)) = ⊥
Writes IsTextOf Outside (Err NoJson) = ⊥
Writes IsTextOf Outside (Err (MissingField f)) = ⊥
Writes IsTextOf Outside (Err NoHomeDirectory) = ⊥
Writes IsTextOf Outside (Err (Other text)) = ⊥

-- the answer where a date has no text; or memory ran out
abbrev pub FailsToFormat : {A : Type 0} → Result A CachedSsoTokenError → Type 0
FailsToFormat result = Gives OutOfMemory result (λ r. r ≡ Err FailedToFormatDateTime)

-- a text that may be there is one of Unicode characters
abbrev pub HasScalarsIfThere : Option (List ℕ) → Type 0
HasScalarsIfThere None = Unit {0}
HasScalarsIfThere (Some text) = all_scalars text ≡ true

-- each text of the token is one of Unicode characters
pub record HasTexts (token : CachedSsoToken) : Type 0 where
  pub access_token : all_scalars token.access_token ≡ true
  pub refresh_token : HasScalarsIfThere token.refresh_token
  pub client_id : HasScalarsIfThere token.client_id
  pub client_secret : HasScalarsIfThere token.client_secret
  pub region : HasScalarsIfThere token.region
  pub start_url : HasScalarsIfThere token.start_url
