-- Debug texts of values that hold secrets, which depend on none of them.
use Rattle.std.specs.Prelude.{ℕ, ℤ, List, [], ◌++◌, Option, Some, None, codes}
use Rattle.std.specs.Str.{encode_utf8_all}
use Rattle.std.specs.Fmt.{decimal, signed_decimal}
use Rattle.cfg_base.specs.Moment.{Moment}
use Rattle.cfg_types.specs.Addresses.{shown_address}
use Rattle.cfg_types.specs.ErrorTexts.{full_uri_text}
use Rattle.cfg_types.specs.declared.errors.ConfigCause.{ConfigCause}
use Rattle.cfg_types.specs.declared.errors.ConfigCause.TheVariants as config
use Rattle.cfg_types.specs.declared.errors.UnhandledCause.{UnhandledCause}
use Rattle.cfg_types.specs.declared.errors.UnhandledCause.TheVariants as unhandled
use Rattle.cfg_types.specs.declared.errors.imds.BuildError.{BuildError}
use Rattle.cfg_types.specs.declared.errors.imds.BuildError.TheVariants as build
use Rattle.cfg_types.specs.declared.errors.imds.UnexpectedCause.{UnexpectedCause}
use Rattle.cfg_types.specs.declared.errors.imds.UnexpectedCause.TheVariants as unexpected

-- how the Debug text tells when credentials expire
abbrev pub shown_expiry : Option Moment → List ℕ
shown_expiry None = codes "expires_after: never"
shown_expiry (Some end) = codes "expires_after: " ++ (signed_decimal end.seconds ++ (codes " s " ++ (decimal end.nanos ++ codes " ns")))

-- the Debug text of a token: when it expires
abbrev pub shown_token : Option Moment → List ℕ
shown_token expiry = codes "Token { token: \"** redacted **\", " ++ (shown_expiry expiry ++ codes " }")

-- the account, where it is known
abbrev pub shown_account : Option (List ℕ) → List ℕ
shown_account None = []
shown_account (Some id) = codes ", account_id: \"" ++ (encode_utf8_all id ++ codes "\"")

-- the provider and the id of the key
abbrev pub shown_key : List ℕ → List ℕ → List ℕ
shown_key provider id =
    codes "provider_name: \"" ++ (encode_utf8_all provider ++ (codes "\", access_key_id: \"" ++ (encode_utf8_all id ++ codes "\", secret_access_key: \"** redacted **\", ")))

-- the Debug text: provider, id, expiry and account
abbrev pub shown_credentials : List ℕ → List ℕ → Option Moment → Option (List ℕ) → List ℕ
shown_credentials provider id expiry account = codes "Credentials { " ++ (shown_key provider id ++ (shown_expiry expiry ++ (shown_account account ++ codes " }")))

-- the Debug text of the credentials in a reply: the id of the key and when it expires
abbrev pub shown_sts_credentials : List ℕ → Moment → List ℕ
shown_sts_credentials id end =
    codes "StsCredentials { access_key_id: \"" ++ (encode_utf8_all id ++ (codes "\", secret_access_key: \"** redacted **\", session_token: \"** redacted **\", expiration: "
    ++ (signed_decimal end.seconds ++ (codes " s " ++ (decimal end.nanos ++ codes " ns }")))))

-- what stands at the end of a text that leaves secrets out
abbrev pub left_out : List ℕ
left_out = codes "\", secrets: \"** redacted **\" }"

-- a request for a path at an endpoint
abbrev pub shown_get : List ℕ → List ℕ → List ℕ → List ℕ
shown_get head endpoint path = head ++ (encode_utf8_all endpoint ++ (codes "\", path: \"" ++ (encode_utf8_all path ++ left_out)))

-- a request for a role by a web identity
abbrev pub shown_web_identity : List ℕ → List ℕ → List ℕ
shown_web_identity role session =
    codes "AssumeRoleWithWebIdentity { role_arn: \"" ++ (encode_utf8_all role ++ (codes "\", session_name: \"" ++ (encode_utf8_all session ++ left_out)))

-- a request for a role's credentials
abbrev pub shown_role_call : List ℕ → List ℕ → List ℕ
shown_role_call role account =
    codes "GetRoleCredentials { role_name: \"" ++ (encode_utf8_all role ++ (codes "\", account_id: \"" ++ (encode_utf8_all account ++ left_out)))

-- a request of a client, or the keys of this id
abbrev pub shown_client : List ℕ → List ℕ → List ℕ
shown_client head client = head ++ (encode_utf8_all client ++ left_out)

-- a reply to an HTTP request
abbrev pub shown_http_reply : ℕ → List ℕ
shown_http_reply status = codes "HttpReply { status: " ++ (decimal status ++ codes ", secrets: \"** redacted **\" }")

-- the credentials in a reply of IAM Identity Center
abbrev pub shown_role_credentials : ℤ → List ℕ
shown_role_credentials end = codes "RoleCredentials { secrets: \"** redacted **\", expiration_ms: " ++ (signed_decimal end ++ codes " }")

-- a refreshed token of IAM Identity Center
abbrev pub shown_token_reply : ℤ → List ℕ
shown_token_reply seconds = codes "TokenReply { secrets: \"** redacted **\", expires_in: " ++ (signed_decimal seconds ++ codes " }")

-- what a command left behind
abbrev pub shown_finished : ℤ → List ℕ
shown_finished status = codes "Finished { status: " ++ (signed_decimal status ++ codes ", secrets: \"** redacted **\" }")

-- what is wrong with the configuration, where the text is of what may hold a secret: an address as it is shown
abbrev pub shown_config : ConfigCause → Option (List ℕ)
shown_config (config.RelativeUri uri) = Some (codes "RelativeUri(" ++ (shown_address (encode_utf8_all uri) ++ codes ")"))
shown_config (config.FullUri e uri) = Some (codes "FullUri(" ++ (shown_address (encode_utf8_all uri) ++ (codes ": " ++ (full_uri_text e ++ codes ")"))))
shown_config cause = None

-- an address of the metadata service that is none, as it is shown
abbrev pub shown_build : BuildError → Option (List ℕ)
shown_build (build.InvalidEndpointUri uri) = Some (codes "InvalidEndpointUri(" ++ (shown_address (encode_utf8_all uri) ++ codes ")"))
shown_build e = None

-- no path
abbrev pub shown_unexpected : UnexpectedCause → Option (List ℕ)
shown_unexpected (unexpected.Path path) = Some (codes "Path(\"** redacted **\")")
shown_unexpected cause = None

-- no ARN of a reply
abbrev pub shown_unhandled : UnhandledCause → Option (List ℕ)
shown_unhandled (unhandled.StsArn arn) = Some (codes "StsArn(\"** redacted **\")")
shown_unhandled cause = None
