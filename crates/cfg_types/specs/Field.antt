-- Names of fields, and words for what is wrong with a document.
use Rattle.std.specs.Prelude.{ℕ, List, ◌++◌, codes}
use Rattle.std.specs.Fmt.{signed_decimal}
use Rattle.cfg_types.specs.declared.document.Field.{Field}
use Rattle.cfg_types.specs.declared.document.Field.TheVariants as field
use Rattle.cfg_types.specs.declared.document.FieldFault.{FieldFault}
use Rattle.cfg_types.specs.declared.document.FieldFault.TheVariants as fault
use Rattle.cfg_types.specs.declared.document.JsonError.{JsonError}
use Rattle.cfg_types.specs.declared.document.JsonError.TheVariants as json

-- the name of a field as it stands in a document
abbrev pub field_name : Field → List ℕ
field_name field.Code = codes "Code"
field_name field.AccessKeyId = codes "AccessKeyId"
field_name field.SecretAccessKey = codes "SecretAccessKey"
field_name field.Token = codes "Token"
field_name field.SessionToken = codes "SessionToken"
field_name field.AccountId = codes "AccountId"
field_name field.Expiration = codes "Expiration"
field_name field.ExpiresAt = codes "ExpiresAt"
field_name field.Message = codes "Message"
field_name field.Version = codes "Version"
field_name field.LowerVersion = codes "version"
field_name field.AccessToken = codes "accessToken"
field_name field.LowerAccessKeyId = codes "accessKeyId"
field_name field.LowerSecretAccessKey = codes "secretAccessKey"
field_name field.LowerSessionToken = codes "sessionToken"
field_name field.LowerAccountId = codes "accountId"
field_name field.LowerExpiresAt = codes "expiresAt"
field_name field.RefreshToken = codes "refreshToken"
field_name field.ClientId = codes "clientId"
field_name field.ClientSecret = codes "clientSecret"
field_name field.RegistrationExpiresAt = codes "registrationExpiresAt"
field_name field.Region = codes "region"
field_name field.StartUrl = codes "startUrl"
field_name field.TokenType = codes "tokenType"
field_name field.IdToken = codes "idToken"
field_name field.DpopKey = codes "dpopKey"

-- why some bytes are no JSON object, in words
abbrev pub json_error_text : JsonError → List ℕ
json_error_text json.NotObject = codes "expected a JSON document starting with `{`"
json_error_text json.Syntax = codes "malformed JSON"
json_error_text json.More = codes "found more JSON tokens after completing parsing"
json_error_text json.OutOfMemory = codes "out of memory"

-- what is wrong with a field, in words
abbrev pub field_fault_text : FieldFault → List ℕ
field_fault_text fault.Version = codes "not a whole number of 32 bits"
field_fault_text (fault.UnknownVersion n) = codes "unknown version number: " ++ signed_decimal n
field_fault_text fault.Date = codes "not a date"
