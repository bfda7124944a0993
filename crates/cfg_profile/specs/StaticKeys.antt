-- Keys that stand in a section themselves.
use Rattle.std.specs.Prelude.{ℕ, List, [], ◌&&◌, Option, Some, None, is_none, Result, Ok, Err, codes, if◌then◌else◌}
use Rattle.cfg_base.specs.Text.{characters}
use Rattle.cfg_types.specs.Keys.{Keys}
use Rattle.cfg_types.specs.declared.errors.ProfileFileError.{ProfileFileError}
use Rattle.cfg_types.specs.declared.errors.ProfileFileError.TheVariants.{ProfileDidNotContainCredentials, InvalidCredentialSource}
use Rattle.cfg_profile.specs.SectionParts.{SectionParts}
use Rattle.cfg_profile.specs.Sections.{property, text_property}

-- a section whose keys are at fault, with the message that says how
abbrev pub invalid : SectionParts → List ℕ → ProfileFileError
invalid section message = InvalidCredentialSource (characters section.name) (characters message)

-- A section without an access key: where it has no secret and no token either, it has no credentials.
abbrev pub without_access_key : SectionParts → ProfileFileError
without_access_key section =
    if is_none (property section (codes "aws_secret_access_key")) && is_none (property section (codes "aws_session_token"))
    then ProfileDidNotContainCredentials (characters section.name)
    else invalid section (codes "profile missing aws_access_key_id")

abbrev pub keys_by : SectionParts → Option (List ℕ) → Option (List ℕ) → Result Keys ProfileFileError
keys_by section None secret = Err (without_access_key section)
keys_by section (Some id) None = Err (invalid section (codes "profile missing aws_secret_access_key"))
keys_by section (Some id) (Some secret) = Ok (record {
  access_key_id = id;
  secret_access_key = secret;
  session_token = text_property section (codes "aws_session_token");
  expiry = None;
  account_id = text_property section (codes "aws_account_id");
  provider_name = codes "ProfileFile";
  features = [];
})

-- the keys of a section, neither trimmed nor tested for blanks
unfoldable pub static_keys : SectionParts → Result Keys ProfileFileError
static_keys section = keys_by section (text_property section (codes "aws_access_key_id")) (text_property section (codes "aws_secret_access_key"))
