-- Words for what is wrong with a document of credentials.
use Rattle.std.specs.Prelude.{ℕ, List, ◌++◌, codes}
use Rattle.std.specs.Str.{encode_utf8_all}
use Rattle.cfg_types.specs.Field.{field_name, field_fault_text, json_error_text}
use Rattle.cfg_types.specs.declared.document.InvalidJsonCredentials.{InvalidJsonCredentials}
use Rattle.cfg_types.specs.declared.document.InvalidJsonCredentials.TheVariants as invalid

-- why a text is no document of credentials, in words
abbrev pub invalid_credentials_text : InvalidJsonCredentials → List ℕ
invalid_credentials_text (invalid.JsonError e) = codes "invalid JSON in response: " ++ json_error_text e
invalid_credentials_text (invalid.MissingField f) = codes "Expected field `" ++ (field_name f ++ codes "` in response but it was missing")
invalid_credentials_text (invalid.InvalidField f e) = codes "Invalid field in response: `" ++ (field_name f ++ (codes "`. " ++ field_fault_text e))
invalid_credentials_text (invalid.Other text) = encode_utf8_all text
invalid_credentials_text invalid.OutOfMemory = codes "out of memory"
