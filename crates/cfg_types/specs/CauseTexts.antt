-- The texts of the causes that an error holds.
use Rattle.std.specs.Prelude.{ℕ, ℤ, List, ◌++◌, Option, Some, None, codes}
use Rattle.std.specs.Str.{encode_utf8_all}
use Rattle.std.specs.Fmt.{signed_decimal}
use Rattle.cfg_types.specs.Addresses.{shown_address}
use Rattle.cfg_types.specs.DocumentText.{invalid_credentials_text}
use Rattle.cfg_types.specs.ErrorTexts.{full_uri_text, login_token_text, profile_text}
use Rattle.cfg_types.specs.declared.reply.FailKind.{FailKind}
use Rattle.cfg_types.specs.declared.reply.FailKind.TheVariants as kind
use Rattle.cfg_types.specs.declared.reply.Fault.{Fault}
use Rattle.cfg_types.specs.declared.reply.Fault.TheVariants as fault
use Rattle.cfg_types.specs.declared.errors.process.ProcessCause.{ProcessCause}
use Rattle.cfg_types.specs.declared.errors.process.ProcessCause.TheVariants as process
use Rattle.cfg_types.specs.declared.errors.ConfigCause.{ConfigCause}
use Rattle.cfg_types.specs.declared.errors.ConfigCause.TheVariants as config
use Rattle.cfg_types.specs.declared.errors.UnhandledCause.{UnhandledCause}
use Rattle.cfg_types.specs.declared.errors.UnhandledCause.TheVariants as unhandled

-- why a device failed
abbrev pub fail_text : FailKind → List ℕ
fail_text kind.Dispatch = codes "the request could not be sent"
fail_text kind.Timeout = codes "no reply came in time"
fail_text kind.Broken = codes "the reply was broken"
fail_text kind.Io = codes "an I/O error"

-- why a device gave nothing
abbrev pub fault_text : Fault → List ℕ
fault_text (fault.Failed kind) = fail_text kind
fault_text fault.OutOfMemory = codes "out of memory"

-- how a command ended
abbrev pub ended_text : ℤ → List ℕ
ended_text code = codes "the command ended with status " ++ signed_decimal code

-- why a command gives no credentials
abbrev pub process_text : ProcessCause → List ℕ
process_text process.NotRun = codes "the command could not be run"
process_text (process.Status code None) = ended_text code
process_text (process.Status code (Some errors)) = ended_text code ++ (codes ": " ++ encode_utf8_all errors)
process_text process.NotUtf8 = codes "the command's output is not UTF-8"
process_text (process.Document e) = invalid_credentials_text e

-- what is wrong with the configuration
abbrev pub config_text : ConfigCause → Option (List ℕ)
config_text (config.Profile e) = profile_text e
config_text (config.RelativeUri uri) = Some (codes "`" ++ (shown_address (encode_utf8_all uri) ++ codes "` is no path of the container's endpoint"))
config_text (config.FullUri e uri) = Some (codes "`" ++ (shown_address (encode_utf8_all uri) ++ (codes "`: " ++ full_uri_text e)))
config_text config.AuthToken = Some (codes "the authorization is no header value")
config_text (config.MetadataRole code m) = Some (codes "IMDS answered `" ++ (encode_utf8_all code ++ (codes "`: " ++ encode_utf8_all m)))
config_text (config.AssumeRole refusal) = Some (codes "the call of AssumeRole is refused")
config_text (config.LoginToken e) = Some (login_token_text e)
config_text (config.Custom text) = Some (encode_utf8_all text)

-- what no rule allows for
abbrev pub unhandled_text : UnhandledCause → List ℕ
unhandled_text (unhandled.NotUnicode name) = codes "the variable `" ++ (encode_utf8_all name ++ codes "` is not Unicode")
unhandled_text unhandled.NotUtf8 = codes "a file or a reply is not UTF-8"
unhandled_text (unhandled.NoDocument e) = invalid_credentials_text e
unhandled_text (unhandled.Sent k) = fail_text k
unhandled_text unhandled.StsNoCredentials = codes "the reply of STS has no credentials"
unhandled_text (unhandled.StsArn arn) = codes "the ARN in the reply of STS names no account"
unhandled_text unhandled.SsoNoCredentials = codes "the reply of IAM Identity Center has no credentials"
unhandled_text unhandled.SsoNoAccessKey = codes "the credentials of IAM Identity Center have no access key"
unhandled_text unhandled.SsoNoSecretKey = codes "the credentials of IAM Identity Center have no secret key"
unhandled_text (unhandled.LoginToken e) = login_token_text e
unhandled_text (unhandled.Custom text) = encode_utf8_all text
