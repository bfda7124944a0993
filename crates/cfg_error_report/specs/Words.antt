-- Texts of causes that have no text of their own, and of those whose text std leaves open.
use Rattle.std.specs.Prelude.{ℕ, ℤ, List, [], ◌∷◌, ◌++◌, Option, Some, None, ◌||◌, unwrap_or, codes, if◌then◌else◌}
use Rattle.std.specs.List.{flat_map}
use Rattle.std.specs.Str.{encode_utf8_all, bytes_eq}
use Rattle.std.specs.Fmt.{debug_str, signed_decimal}
use Rattle.cfg_error_report.specs.Lines.{Telling, nothing, just, followed, detailed, detail_line}
use Rattle.cfg_error_report.specs.Addresses.{has_scheme}
use Rattle.cfg_types.specs.Addresses.{shown_address}
use Rattle.cfg_base.specs.WhiteSpace.{is_blank}
use Rattle.cfg_types.specs.CauseTexts.{ended_text, fail_text, process_text}
use Rattle.cfg_types.specs.declared.errors.process.ProcessCause.{ProcessCause}
use Rattle.cfg_types.specs.declared.errors.process.ProcessCause.TheVariants as process
use Rattle.cfg_types.specs.ErrorTexts.{profile_text, session_token_text}
use Rattle.cfg_types.specs.declared.reply.RefusalKind.{RefusalKind}
use Rattle.cfg_types.specs.declared.reply.RefusalKind.TheVariants as refusal
use Rattle.cfg_types.specs.declared.errors.imds.FailedToLoadToken.{FailedToLoadToken}
use Rattle.cfg_types.specs.declared.errors.imds.FailedToLoadToken.TheVariants as failed
use Rattle.cfg_types.specs.declared.errors.imds.TokenError.TheVariants as session
use Rattle.cfg_types.specs.declared.errors.login.LoginJsonFault.{LoginJsonFault}
use Rattle.cfg_types.specs.declared.errors.login.LoginJsonFault.TheVariants as fault
use Rattle.cfg_types.specs.declared.errors.profile.ProfileFileError.{ProfileFileError}
use Rattle.cfg_types.specs.declared.errors.profile.ProfileFileError.TheVariants as profile

-- the text, where it is known
abbrev pub known : Option (List ℕ) → List ℕ
known text = unwrap_or text []

-- A name in quotation marks: as std's Debug writes it, which is known of ASCII alone, else as it stands.
abbrev pub quoted : List ℕ → List ℕ
quoted name = unwrap_or (debug_str name) (codes "\"" ++ (name ++ codes "\""))

-- a name behind another
abbrev pub later_quoted : List ℕ → List ℕ
later_quoted name = codes ", " ++ quoted (encode_utf8_all name)

-- names in quotation marks, with commas between
abbrev pub quoted_names : List (List ℕ) → List ℕ
quoted_names [] = []
quoted_names (name ∷ names) = quoted (encode_utf8_all name) ++ flat_map later_quoted names

-- the profiles of a path, and the one that is loaded again
abbrev pub loop_words : List (List ℕ) → List ℕ → List ℕ
loop_words path next =
    codes "profile formed an infinite loop. first we loaded [" ++ (quoted_names path ++ (codes "], then attempted to reload " ++ encode_utf8_all next))

-- why a profile gives no credentials
abbrev pub profile_words : ProfileFileError → List ℕ
profile_words (profile.CredentialLoop path next) = loop_words path next
profile_words e = known (profile_text e)

-- a profile's error; which condition no profiles is, its value holds
abbrev pub profile_lines : ProfileFileError → Telling
profile_lines profile.NoProfilesDefined = detailed (profile_words profile.NoProfilesDefined) (codes "there are no profiles, or `default` is selected and is not there")
profile_lines e = just (profile_words e)

-- what a service refused a call for, where it says so
abbrev pub refusal_lines : RefusalKind → Telling
refusal_lines refusal.RegionDisabled = just (codes "the region is disabled")
refusal_lines refusal.MalformedPolicyDocument = just (codes "the policy document is malformed")
refusal_lines refusal.InsufficientPermissions = just (codes "the permissions are insufficient")
refusal_lines refusal.TokenExpired = just (codes "the token has expired")
refusal_lines refusal.UserCredentialsChanged = just (codes "the user's credentials have changed")
refusal_lines refusal.Other = nothing

-- why there is no session token of the metadata service
abbrev pub session_token_lines : FailedToLoadToken → Telling
session_token_lines (failed.Sent kind) = just (fail_text kind)
session_token_lines (failed.Token session.InvalidParameters) = detailed (session_token_text session.InvalidParameters) (codes "the reply has the status 400")
session_token_lines (failed.Token session.Forbidden) = detailed (session_token_text session.Forbidden) (codes "the reply has the status 403")
session_token_lines (failed.Token e) = just (session_token_text e)

-- what is wrong with the JSON of a file of a sign-in token
abbrev pub json_fault_words : LoginJsonFault → List ℕ
json_fault_words fault.Text = codes "the file's text is no JSON object"
json_fault_words fault.Nested = codes "the member `accessToken` has an object among its members"
json_fault_words fault.Document = codes "the member `accessToken` is no document of credentials"
json_fault_words fault.ErrorDocument = codes "the member `accessToken` is the document of an error"

-- how long a refreshed token would last
abbrev pub lifetime_words : ℤ → List ℕ
lifetime_words seconds = codes "the lifetime is " ++ (signed_decimal seconds ++ codes " seconds")

-- that an address has no scheme, where that is so
abbrev pub scheme_lines : List ℕ → Telling
scheme_lines address depth = if has_scheme (encode_utf8_all address) then [] else detail_line depth (codes "the scheme is missing") ∷ []

-- an endpoint that cannot be asked
abbrev pub endpoint_words : List ℕ → List ℕ
endpoint_words address = codes "`" ++ (shown_address (encode_utf8_all address) ++ codes "` is no URI with a scheme and a host")

abbrev pub endpoint_lines : List ℕ → Telling
endpoint_lines address = followed (endpoint_words address) (scheme_lines address)

-- why the variable of this name gives nothing
abbrev pub variable_words : List ℕ → List ℕ
variable_words name =
    if bytes_eq name (codes "SECRET_ACCESS_KEY") then codes "neither `AWS_SECRET_ACCESS_KEY` nor `SECRET_ACCESS_KEY` has a key"
    else (if bytes_eq name (codes "AWS_WEB_IDENTITY_TOKEN_FILE") || bytes_eq name (codes "AWS_ROLE_ARN") then codes "`" ++ (encode_utf8_all name ++ codes "` is not set, or not Unicode")
    else codes "`" ++ (encode_utf8_all name ++ codes "` is not set, or blank"))

-- why what a command wrote to standard error tells nothing, where that is so; none of it is no UTF-8
abbrev pub blank_words : Option (List ℕ) → Option (List ℕ)
blank_words None = Some (codes "what it wrote to standard error is not UTF-8")
blank_words (Some errors) = if is_blank errors then Some (codes "what it wrote to standard error is blank") else None

-- how a command ended: with what it wrote to standard error, or why that tells nothing
abbrev pub ended_lines : ℤ → Option (List ℕ) → Option (List ℕ) → Telling
ended_lines code errors None = just (process_text (process.Status code errors))
ended_lines code errors (Some detail) = detailed (ended_text code) detail

-- why a command gives no credentials
abbrev pub process_lines : ProcessCause → Telling
process_lines (process.Status code errors) = ended_lines code errors (blank_words errors)
process_lines e = just (process_text e)
