-- Single sign-on in a section, with the session that it names.
use Rattle.std.specs.Prelude.{ℕ, List, Bool, ◌&&◌, ◌||◌, not, Option, Some, None, Result, Ok, Err, codes, if◌then◌else◌}
use Rattle.std.specs.FinMap.{get}
use Rattle.cfg_base.specs.Text.{characters}
use Rattle.cfg_base.specs.TextMap.{Named}
use Rattle.cfg_types.specs.declared.errors.ProfileFileError.{ProfileFileError}
use Rattle.cfg_types.specs.declared.errors.ProfileFileError.TheVariants.{MissingProfile, MissingSsoSession, InvalidSsoConfig}
use Rattle.cfg_profile.specs.declared.chain.BaseProvider.{BaseProvider}
use Rattle.cfg_profile.specs.declared.chain.BaseProvider.TheVariants.{Sso}
use Rattle.cfg_profile.specs.SectionParts.{SectionParts}
use Rattle.cfg_profile.specs.Sections.{property, text_property}
use Rattle.cfg_profile.specs.Properties.{has_key}

-- a section with one of the five keys of single sign-on
abbrev pub has_sign_on : SectionParts → Bool
has_sign_on section =
    has_key section (codes "sso_account_id") || (has_key section (codes "sso_region") || (has_key section (codes "sso_role_name")
    || (has_key section (codes "sso_start_url") || has_key section (codes "sso_session"))))

-- a section whose settings of single sign-on do not go together
abbrev pub invalid_sign_on : SectionParts → List ℕ → ProfileFileError
invalid_sign_on section message = InvalidSsoConfig (characters section.name) (characters message)

-- a section that lacks a setting of single sign-on
abbrev pub missing_setting : SectionParts → List ℕ → ProfileFileError
missing_setting section message = MissingProfile (characters section.name) (characters message)

abbrev pub missing_session : SectionParts → List ℕ → ProfileFileError
missing_session section session = MissingSsoSession (characters section.name) (characters session)

-- a missing region is found out before a missing start URL
abbrev pub sign_on_by : SectionParts → Option (List ℕ) → Option (List ℕ) → Option (List ℕ) → Result BaseProvider ProfileFileError
sign_on_by section session None url = Err (missing_setting section (codes "`sso_region` was missing"))
sign_on_by section session (Some region) None = Err (missing_setting section (codes "`sso_start_url` was missing"))
sign_on_by section session (Some region) (Some url) =
    Ok (Sso session region url (text_property section (codes "sso_account_id")) (text_property section (codes "sso_role_name")))

-- region and start URL stand in this place
abbrev pub sign_on_from : SectionParts → SectionParts → Option (List ℕ) → Result BaseProvider ProfileFileError
sign_on_from section place session = sign_on_by section session (text_property place (codes "sso_region")) (text_property place (codes "sso_start_url"))

-- an account and the name of a role stand together or not at all
abbrev pub sign_on_at : SectionParts → SectionParts → Option (List ℕ) → Result BaseProvider ProfileFileError
sign_on_at section place session =
    if has_key section (codes "sso_account_id") && not (has_key section (codes "sso_role_name"))
    then Err (invalid_sign_on section (codes "if `sso_account_id` is set, then `sso_role_name` must also be set"))
    else if has_key section (codes "sso_role_name") && not (has_key section (codes "sso_account_id"))
    then Err (invalid_sign_on section (codes "if `sso_role_name` is set, then `sso_account_id` must also be set"))
    else sign_on_from section place session

abbrev pub sign_on_by_session : SectionParts → List ℕ → Option SectionParts → Result BaseProvider ProfileFileError
sign_on_by_session section session None = Err (missing_session section session)
sign_on_by_session section session (Some place) = sign_on_at section place (Some (characters session))

-- with a session, region and start URL stand there, and not in the profile
abbrev pub sign_on_of_session : Named SectionParts → SectionParts → List ℕ → Result BaseProvider ProfileFileError
sign_on_of_session sessions section session =
    if has_key section (codes "sso_start_url")
    then Err (invalid_sign_on section (codes "`sso_start_url` can only be specified in the [sso-session] config when a session name is given"))
    else if has_key section (codes "sso_region")
    then Err (invalid_sign_on section (codes "`sso_region` can only be specified in the [sso-session] config when a session name is given"))
    else sign_on_by_session section session (get sessions session)

abbrev pub sign_on_with : Named SectionParts → SectionParts → Option (List ℕ) → Result BaseProvider ProfileFileError
sign_on_with sessions section None = sign_on_at section section None
sign_on_with sessions section (Some session) = sign_on_of_session sessions section session

-- single sign-on by a section's settings, the first test that fails deciding
abbrev pub single_sign_on : Named SectionParts → SectionParts → Result BaseProvider ProfileFileError
single_sign_on sessions section = sign_on_with sessions section (property section (codes "sso_session"))
