-- Where the instance metadata service is asked.
use Rattle.std.specs.Prelude.{◌≡◌, ℕ, List, Option, Some, None, option_map, option_and_then, Result, Ok, Err, codes}
use Rattle.std.specs.FinMap.{get}
use Rattle.std.specs.Option.{option_or}
use Rattle.std.specs.Str.{encode_utf8_all}
use Rattle.http_uri.specs.Grammar.{IsUriText}
use Rattle.cfg_base.specs.Text.{characters}
use Rattle.cfg_types.specs.declared.errors.imds.EndpointMode.{EndpointMode}
use Rattle.cfg_types.specs.declared.errors.imds.EndpointMode.TheVariants.{IpV4, IpV6}
use Rattle.cfg_profile.specs.Configuration.{Configuration}
use Rattle.cfg_profile.specs.Sections.{property}
use Rattle.cfg_profile.specs.Selected.{selected_name}
use Rattle.cfg_profile.specs.declared.sections.ProfileSource.{ProfileSource}
use Rattle.cfg_profile.specs.declared.sections.ProfileSource.TheVariants.{Sections, Refused}
use Rattle.cfg_types.specs.Environment.{readable}
use Rattle.cfg_types.specs.Metadata.{mode_in}
use Rattle.cfg_imds.specs.declared.endpoint.Endpoint.{Endpoint}
use Rattle.cfg_imds.specs.declared.endpoint.Endpoint.TheVariants.{At, NoUri, NoMode}

-- ---- modes

-- the address of the service
abbrev pub mode_endpoint : EndpointMode → List ℕ
mode_endpoint IpV4 = codes "http://169.254.169.254"
mode_endpoint IpV6 = codes "http://[fd00:ec2::254]"

-- ---- what is set

abbrev pub key_in : ProfileSource → List ℕ → List ℕ → Option (List ℕ)
key_in (Sections sets) name key = option_and_then (λ section. property section key) (get sets.profiles name)
key_in (Refused reason) name key = None

-- the value of a variable, where it can be read, else that of a key of the selected profile
unfoldable pub setting : Configuration → List ℕ → List ℕ → Option (List ℕ)
setting conf variable key = option_or (option_map encode_utf8_all (readable conf.environment variable)) (key_in conf.profiles (selected_name conf) key)

-- ---- the endpoint

abbrev pub named_mode : List ℕ → Option EndpointMode → Result (List ℕ) (List ℕ)
named_mode text (Some mode) = Ok (mode_endpoint mode)
named_mode text None = Err text

-- the endpoint by what the mode is set to, or the text that names no mode
unfoldable pub mode_by : Option (List ℕ) → Result (List ℕ) (List ℕ)
mode_by (Some text) = named_mode text (mode_in text)
mode_by None = Ok (mode_endpoint IpV4)

-- the endpoint of the mode: the one that was given, else the one that is set, else that of IPv4
unfoldable pub by_mode : Configuration → Option EndpointMode → Result (List ℕ) (List ℕ)
by_mode conf (Some mode) = Ok (mode_endpoint mode)
by_mode conf None = mode_by (setting conf (codes "AWS_EC2_METADATA_SERVICE_ENDPOINT_MODE") (codes "ec2_metadata_service_endpoint_mode"))

abbrev pub or_mode : Option (List ℕ) → Configuration → Option EndpointMode → Result (List ℕ) (List ℕ)
or_mode (Some text) conf mode = Ok text
or_mode None conf mode = by_mode conf mode

abbrev pub endpoint_setting : Configuration → Option (List ℕ)
endpoint_setting conf = setting conf (codes "AWS_EC2_METADATA_SERVICE_ENDPOINT") (codes "ec2_metadata_service_endpoint")

-- the endpoint that was given, else the one that is set, else that of the mode
abbrev pub endpoint_text : Configuration → Option (List ℕ) → Option EndpointMode → Result (List ℕ) (List ℕ)
endpoint_text conf (Some given) mode = Ok (encode_utf8_all given)
endpoint_text conf None mode = or_mode (endpoint_setting conf) conf mode

-- a text that is a URI with a scheme and an authority
pub record HasHost (text : List ℕ) : Type 0 where
  pub scheme : List ℕ
  pub authority : List ℕ
  pub kept : List ℕ
  pub uri : IsUriText text (Some scheme) (Some authority) kept

-- what a text is as an endpoint: usable where it has a scheme and an authority
abbrev pub IsEndpointAt : List ℕ → Endpoint → Type 0
IsEndpointAt text (At given) = (given ≡ characters text) × HasHost text
IsEndpointAt text (NoUri given) = (given ≡ characters text) × (HasHost text → ⊥)
IsEndpointAt text (NoMode given) = ⊥

abbrev pub IsEndpointBy : Result (List ℕ) (List ℕ) → Endpoint → Type 0
IsEndpointBy (Ok text) endpoint = IsEndpointAt text endpoint
IsEndpointBy (Err text) endpoint = endpoint ≡ NoMode (characters text)

-- where the service is asked by this configuration, and by what was given in place of it
abbrev pub IsEndpoint : Configuration → Option (List ℕ) → Option EndpointMode → Endpoint → Type 0
IsEndpoint conf given mode endpoint = IsEndpointBy (endpoint_text conf given mode) endpoint
