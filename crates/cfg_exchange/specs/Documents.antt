-- What a body says that is to hold a document of credentials.
use Rattle.std.specs.Prelude.{ℕ, List, Result, Ok, Err, if◌then◌else◌}
use Rattle.std.specs.Str.{is_utf8}
use Rattle.cfg_types.specs.declared.errors.UnhandledCause.{UnhandledCause}
use Rattle.cfg_types.specs.declared.errors.UnhandledCause.TheVariants.{NotUtf8, NoDocument}
use Rattle.cfg_json.specs.Documents.{Read, document_of, said_by}
use Rattle.cfg_json.specs.declared.credentials.JsonCredentials.{JsonCredentials}

-- What a document of credentials says. A law of this crate ties it to the grammar: it is the one answer
-- of `parse_json_credentials`.
unfoldable pub document : List ℕ → Read JsonCredentials
document text = said_by document_of text

abbrev pub or_no_document : Read JsonCredentials → Result JsonCredentials UnhandledCause
or_no_document (Ok said) = Ok said
or_no_document (Err e) = Err (NoDocument e)

-- what a body says, or why it is no document
unfoldable pub body_document : List ℕ → Result JsonCredentials UnhandledCause
body_document body = if is_utf8 body then or_no_document (document body) else Err NotUtf8
