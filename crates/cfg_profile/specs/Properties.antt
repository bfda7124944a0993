-- What the keys of a section say of it.
use Rattle.std.specs.Prelude.{ℕ, List, Bool, ◌&&◌, Option, Some, None, is_none, is_some, codes, if◌then◌else◌}
use Rattle.std.specs.Str.{bytes_eq}
use Rattle.cfg_profile.specs.SectionParts.{SectionParts}
use Rattle.cfg_profile.specs.Sections.{property}

abbrev pub has_key : SectionParts → List ℕ → Bool
has_key section key = is_some (property section key)

-- a section with an access key and its secret
abbrev pub has_both_keys : SectionParts → Bool
has_both_keys section = has_key section (codes "aws_access_key_id") && has_key section (codes "aws_secret_access_key")

-- a role: it has `role_arn` and no `web_identity_token_file`
abbrev pub is_role : SectionParts → Bool
is_role section = has_key section (codes "role_arn") && is_none (property section (codes "web_identity_token_file"))

-- Where a role's credentials come from: from both keys or from neither, which is bad; from the same profile; from the profile of a name.
pub data Source : Type 0 where
  Both : Source
  Neither : Source
  Own : Source
  Named : List ℕ → Source

abbrev pub source_by : List ℕ → Option (List ℕ) → Option (List ℕ) → Source
source_by own (Some name) (Some provider) = Both
source_by own None None = Neither
source_by own None (Some provider) = Own
source_by own (Some name) None = if bytes_eq name own then Own else Named name

abbrev pub source : SectionParts → Source
source section = source_by section.name (property section (codes "source_profile")) (property section (codes "credential_source"))
