-- Credentials in a reply of the Security Token Service.
use Rattle.std.specs.Prelude.{ℕ, List, [], ◌∷◌, ◌==◌, Option, Some, None, option_map, option_and_then, Result, Ok, Err, if◌then◌else◌}
use Rattle.std.specs.Str.{encode_utf8_all}
use Rattle.cfg_base.specs.Text.{characters}
use Rattle.cfg_types.specs.Keys.{Keys}
use Rattle.cfg_types.specs.declared.errors.CredentialsError.{CredentialsError}
use Rattle.cfg_types.specs.declared.errors.CredentialsError.TheVariants.{Unhandled}
use Rattle.cfg_types.specs.declared.errors.UnhandledCause.{UnhandledCause}
use Rattle.cfg_types.specs.declared.errors.UnhandledCause.TheVariants.{StsNoCredentials, StsArn}
use Rattle.cfg_types.specs.declared.reply.sts.StsReply.{StsReply}
use Rattle.cfg_types.specs.declared.reply.sts.StsCredentials.{StsCredentials}
use Rattle.cfg_base.specs.Gives.{◌>>=◌}

-- the bytes behind the first `:`, where there is one
abbrev pub behind_colon : List ℕ → Option (List ℕ)
behind_colon [] = None
behind_colon (b ∷ bytes) = if b == 58 then Some bytes else behind_colon bytes

-- the bytes up to the first `:`, or all
abbrev pub before_colon : List ℕ → List ℕ
before_colon [] = []
before_colon (b ∷ bytes) = if b == 58 then [] else b ∷ before_colon bytes

-- The fifth part of an ARN, cut at each `:`. It is the account of
-- arn:PARTITION:SERVICE:REGION:ACCOUNT:RESOURCE.
abbrev pub fifth_part : List ℕ → Option (List ℕ)
fifth_part arn = option_map before_colon (option_and_then behind_colon (option_and_then behind_colon (option_and_then behind_colon (behind_colon arn))))

abbrev pub named_account : List ℕ → Option (List ℕ) → Result (List ℕ) CredentialsError
named_account arn (Some account) = Ok (characters account)
named_account arn None = Err (Unhandled (StsArn (characters arn)))

-- the account that an ARN of these bytes names; one of fewer than five parts is refused
abbrev pub parsed_account : List ℕ → Result (List ℕ) CredentialsError
parsed_account arn = named_account arn (fifth_part arn)

-- the account that an ARN names
abbrev pub account_of_arn : List ℕ → Option (List ℕ)
account_of_arn arn = option_map characters (fifth_part (encode_utf8_all arn))

abbrev pub account_or : List ℕ → Option (List ℕ) → Result (Option (List ℕ)) UnhandledCause
account_or arn None = Err (StsArn arn)
account_or arn (Some account) = Ok (Some account)

-- the account of a reply: none without an ARN, and refused where the ARN has fewer than five parts
abbrev pub account_of : Option (List ℕ) → Result (Option (List ℕ)) UnhandledCause
account_of None = Ok None
account_of (Some arn) = account_or arn (account_of_arn arn)

abbrev pub keys_in : Option StsCredentials → Option (List ℕ) → List ℕ → Result Keys UnhandledCause
keys_in None arn provider = Err StsNoCredentials
keys_in (Some given) arn provider = account_of arn >>= λ account. Ok (record {
  access_key_id = given.access_key_id;
  secret_access_key = given.secret_access_key;
  session_token = Some given.session_token;
  expiry = Some given.expiration;
  account_id = account;
  provider_name = provider;
  features = [];
})

-- what no rule allows for
abbrev pub or_unhandled : Result Keys UnhandledCause → Result Keys CredentialsError
or_unhandled (Ok keys) = Ok keys
or_unhandled (Err cause) = Err (Unhandled cause)

-- the credentials of a reply, from the provider of this name, or why it gives none
unfoldable pub into_credentials : StsReply → List ℕ → Result Keys CredentialsError
into_credentials reply provider = or_unhandled (keys_in reply.credentials reply.arn provider)
