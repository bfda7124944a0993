-- What a section gives credentials by, where it takes none from another profile.
use Rattle.std.specs.Prelude.{ℕ, List, Option, Some, None, Result, Ok, Err, codes, if◌then◌else◌}
use Rattle.cfg_base.specs.TextMap.{Named}
use Rattle.cfg_types.specs.Keys.{Keys}
use Rattle.cfg_types.specs.declared.errors.ProfileFileError.{ProfileFileError}
use Rattle.cfg_profile.specs.declared.chain.BaseProvider.{BaseProvider}
use Rattle.cfg_profile.specs.declared.chain.BaseProvider.TheVariants.{NamedSource, AccessKey, WebIdentityTokenRole, CredentialProcess, LoginSession}
use Rattle.cfg_profile.specs.SectionParts.{SectionParts}
use Rattle.cfg_profile.specs.Sections.{text_property}
use Rattle.cfg_profile.specs.StaticKeys.{invalid, static_keys}
use Rattle.cfg_profile.specs.SignOn.{has_sign_on, single_sign_on}

abbrev pub by_keys : Result Keys ProfileFileError → Result BaseProvider ProfileFileError
by_keys (Ok keys) = Ok (AccessKey keys)
by_keys (Err e) = Err e

-- static keys as a base
abbrev pub key_base : SectionParts → Result BaseProvider ProfileFileError
key_base section = by_keys (static_keys section)

abbrev pub web_identity : SectionParts → List ℕ → Option (List ℕ) → Result BaseProvider ProfileFileError
web_identity section file None = Err (invalid section (codes "`web_identity_token_file` was specified but `role_arn` was missing"))
web_identity section file (Some arn) = Ok (WebIdentityTokenRole arn file (text_property section (codes "role_session_name")))

abbrev pub base_by_process : SectionParts → Option (List ℕ) → Result BaseProvider ProfileFileError
base_by_process section (Some command) = Ok (CredentialProcess command (text_property section (codes "aws_account_id")))
base_by_process section None = key_base section

abbrev pub base_by_login : SectionParts → Option (List ℕ) → Result BaseProvider ProfileFileError
base_by_login section (Some session) = Ok (LoginSession session)
base_by_login section None = base_by_process section (text_property section (codes "credential_process"))

-- the base behind single sign-on in the order: a login session, a process, static keys
abbrev pub local_base : SectionParts → Result BaseProvider ProfileFileError
local_base section = base_by_login section (text_property section (codes "login_session"))

abbrev pub base_by_file : Named SectionParts → SectionParts → Option (List ℕ) → Result BaseProvider ProfileFileError
base_by_file sessions section (Some file) = web_identity section file (text_property section (codes "role_arn"))
base_by_file sessions section None = if has_sign_on section then single_sign_on sessions section else local_base section

abbrev pub base_by_source : Named SectionParts → SectionParts → Option (List ℕ) → Result BaseProvider ProfileFileError
base_by_source sessions section (Some name) = Ok (NamedSource name)
base_by_source sessions section None = base_by_file sessions section (text_property section (codes "web_identity_token_file"))

-- the first of these that applies: a named source, web identity, single sign-on, a login session, a process, static keys
unfoldable pub base : Named SectionParts → SectionParts → Result BaseProvider ProfileFileError
base sessions section = base_by_source sessions section (text_property section (codes "credential_source"))
