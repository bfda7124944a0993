-- The Debug text of a document of credentials.
use Rattle.std.specs.Prelude.{ℕ, List, ◌++◌, codes}
use Rattle.std.specs.Str.{encode_utf8_all}
use Rattle.std.specs.Fmt.{decimal, signed_decimal}
use Rattle.cfg_types.specs.DebugTexts.{shown_account}
use Rattle.cfg_json.specs.declared.credentials.JsonCredentials.{JsonCredentials}
use Rattle.cfg_json.specs.declared.credentials.JsonCredentials.TheVariants as document

-- it depends on neither the secret nor the session token
abbrev pub shown_document : JsonCredentials → List ℕ
shown_document (document.RefreshableCredentials id secret token account end) =
    codes "RefreshableCredentials { access_key_id: \"" ++ (encode_utf8_all id ++ (codes "\", secret_access_key: \"** redacted **\", session_token: \"** redacted **\"" ++ (shown_account account
    ++ (codes ", expiration: " ++ (signed_decimal end.seconds ++ (codes " s " ++ (decimal end.nanos ++ codes " ns }")))))))
shown_document (document.Error code message) = codes "Error { code: \"" ++ (encode_utf8_all code ++ (codes "\", message: \"" ++ (encode_utf8_all message ++ codes "\" }")))
