-- The document of a role's credentials that the instance metadata service gives.
use Rattle.std.specs.Prelude.{◌≡◌, ℕ, List, true, None, Result, Ok, Err, codes, if◌then◌else◌}
use Rattle.std.specs.Str.{encode_utf8_all, bytes_eq}
use Rattle.cfg_base.specs.Moment.{Moment}
use Rattle.cfg_types.specs.declared.errors.CredentialsError.{CredentialsError}
use Rattle.cfg_types.specs.declared.errors.CredentialsError.TheVariants.{InvalidConfiguration, ProviderError, Unhandled}
use Rattle.cfg_types.specs.declared.errors.ConfigCause.TheVariants.{MetadataRole}
use Rattle.cfg_types.specs.declared.errors.ProviderCause.TheVariants.{ErrorDocument}
use Rattle.cfg_types.specs.declared.errors.UnhandledCause.TheVariants.{NoDocument}
use Rattle.cfg_json.specs.declared.credentials.JsonCredentials.{JsonCredentials}
use Rattle.cfg_json.specs.declared.credentials.JsonCredentials.TheVariants as says
use Rattle.cfg_json.specs.Documents.{Read}
use Rattle.cfg_world.specs.Fits.{Pair}
use Rattle.cfg_exchange.specs.Documents.{document}
use Rattle.cfg_imds.specs.Fetches.{is_get, entry_fault, entry_text}

-- the keys of such a document, and when it says that they end
pub record RoleKeys : Type 0 where
  pub access_key_id : List ℕ
  pub secret_access_key : List ℕ
  pub session_token : List ℕ
  pub expiry : Moment

-- the same with the get that the document was read from
pub record ReceiptedRole : Type 0 where
  pub access_key_id : List ℕ
  pub secret_access_key : List ℕ
  pub session_token : List ℕ
  pub expiry : Moment
  pub get : Pair

-- the get is left aside
abbrev pub bare_role : ReceiptedRole → RoleKeys
bare_role d = record { access_key_id = d.access_key_id; secret_access_key = d.secret_access_key; session_token = d.session_token; expiry = d.expiry }

-- what an error document means: the role does not let the instance have credentials, or another error
abbrev pub refused_role : List ℕ → List ℕ → CredentialsError
refused_role code message =
    if bytes_eq code (codes "AssumeRoleUnauthorizedAccess") then InvalidConfiguration (MetadataRole code message)
    else ProviderError (ErrorDocument code message)

abbrev pub said_role : Read JsonCredentials → Result RoleKeys CredentialsError
said_role (Ok (says.RefreshableCredentials id secret token account end)) = Ok (record { access_key_id = id; secret_access_key = secret; session_token = token; expiry = end })
said_role (Ok (says.Error code message)) = Err (refused_role code message)
said_role (Err e) = Err (Unhandled (NoDocument e))

-- the document that the text of a get is, or why it is none
unfoldable pub get_document : Pair → Read JsonCredentials
get_document get = document (encode_utf8_all (entry_text get))

-- the keys of that document, or why there are none
unfoldable pub role_document : Pair → Result RoleKeys CredentialsError
role_document get = said_role (get_document get)

-- The get asked for a path, nothing is wrong with it, and its document has these keys.
pub record IsRoleDocument (d : ReceiptedRole) : Type 0 where
  pub gets : is_get d.get.0 ≡ true
  pub success : entry_fault d.get ≡ None
  pub reads : role_document d.get ≡ Ok (bare_role d)
