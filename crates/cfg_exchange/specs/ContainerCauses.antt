-- Why a container gives no credentials.
use Rattle.std.specs.Option.{option_or}
use Rattle.std.specs.Prelude.{ℕ, List, [], ◌∷◌, Bool, Option, Some, None, option_map, Result, Ok, Err, if◌then◌else◌}
use Rattle.std.specs.List.{list_all}
use Rattle.std.specs.Result.{result_err}
use Rattle.std.specs.Str.{encode_utf8_all}
use Rattle.cfg_base.specs.declared.address.Address.{Address}
use Rattle.cfg_types.specs.Environment.{Variables}
use Rattle.cfg_types.specs.declared.errors.CredentialsError.{CredentialsError}
use Rattle.cfg_types.specs.declared.errors.CredentialsError.TheVariants.{CredentialsNotLoaded, InvalidConfiguration, ProviderError}
use Rattle.cfg_types.specs.declared.errors.NotLoadedCause.TheVariants.{NotConfigured}
use Rattle.cfg_types.specs.declared.errors.ConfigCause.TheVariants as config
use Rattle.cfg_types.specs.declared.errors.ProviderCause.TheVariants.{File}
use Rattle.cfg_types.specs.declared.errors.container.InvalidFullUriError.{InvalidFullUriError}
use Rattle.cfg_types.specs.declared.errors.container.InvalidFullUriError.TheVariants as invalid
use Rattle.cfg_types.specs.declared.reply.FailKind.{FailKind}
use Rattle.cfg_world.specs.declared.ask.Question.{Question}
use Rattle.cfg_world.specs.declared.ask.Question.TheVariants as question
use Rattle.cfg_world.specs.declared.ask.Answer.{Answer}
use Rattle.cfg_world.specs.Fits.{Pair}
use Rattle.cfg_world.specs.Leaves.{contents_of, addresses_of}
use Rattle.cfg_exchange.specs.declared.container.ContainerSettings.{ContainerSettings}
use Rattle.cfg_exchange.specs.declared.container.ContainerUri.{ContainerUri}
use Rattle.cfg_exchange.specs.declared.container.ContainerUri.TheVariants as uri
use Rattle.cfg_exchange.specs.declared.full_uri.FullUri.{FullUri}
use Rattle.cfg_exchange.specs.declared.full_uri.FullUri.TheVariants.{Unreadable, Hostless, Schemeless, Secure, AtAddress, AtName}
use Rattle.cfg_exchange.specs.Addresses.{is_allowed}
use Rattle.cfg_exchange.specs.HeaderValues.{is_header_value}
use Rattle.cfg_exchange.specs.Containers.{token_file, token_text, answer_keys}

-- ---- what a part was answered

abbrev pub file_or : Question → Answer → Option (Result (List ℕ) FailKind) → Option (Result (List ℕ) FailKind)
file_or (question.Read path) a others = Some (contents_of a)
file_or _ a others = others

-- what the first reading of a file in the part gave
abbrev pub file_read : List Pair → Option (Result (List ℕ) FailKind)
file_read [] = None
file_read (e ∷ part) = file_or e.0 e.1 (file_read part)

abbrev pub host_or : Question → Answer → Option (Result (List Address) FailKind) → Option (Result (List Address) FailKind)
host_or (question.LookUp host) a others = Some (addresses_of a)
host_or _ a others = others

-- what the first look-up of a host in the part gave
abbrev pub host_found : List Pair → Option (Result (List Address) FailKind)
host_found [] = None
host_found (e ∷ part) = host_or e.0 e.1 (host_found part)

abbrev pub or_later : Answer → Option Answer → Option Answer
or_later a None = Some a
or_later a (Some later) = Some later

abbrev pub sent_or : Question → Answer → Option Answer → Option Answer
sent_or (question.Send request) a later = or_later a later
sent_or _ a later = later

-- the answer to the last request in the part
abbrev pub last_answer : List Pair → Option Answer
last_answer [] = None
last_answer (e ∷ part) = sent_or e.0 e.1 (last_answer part)

-- ---- the causes

abbrev pub bytes_fault : List ℕ → Option CredentialsError
bytes_fault bytes = if is_header_value bytes then None else Some (InvalidConfiguration config.AuthToken)

abbrev pub held_fault : List ℕ → Option (Result (List ℕ) FailKind) → Option CredentialsError
held_fault path None = None
held_fault path (Some (Ok bytes)) = bytes_fault bytes
held_fault path (Some (Err kind)) = Some (ProviderError (File path))

abbrev pub token_fault_by : Option (List ℕ) → Option (List ℕ) → List Pair → Option CredentialsError
token_fault_by (Some path) text part = held_fault path (file_read part)
token_fault_by None (Some text) part = bytes_fault (encode_utf8_all text)
token_fault_by None None part = None

-- what is wrong with the token: its file cannot be read, or it is no header value
abbrev pub token_fault : Variables → List Pair → Option CredentialsError
token_fault env part = token_fault_by (token_file env) (token_text env) part

abbrev pub found_fault : Option (Result (List Address) FailKind) → Option InvalidFullUriError
found_fault None = None
found_fault (Some (Ok addresses)) = if list_all is_allowed addresses then None else Some invalid.DisallowedIP
found_fault (Some (Err kind)) = Some invalid.DnsLookupFailed

-- what is wrong with a full address
abbrev pub full_fault : Bool → FullUri → List Pair → Option InvalidFullUriError
full_fault dns Unreadable part = Some invalid.InvalidUri
full_fault dns Hostless part = Some invalid.MissingHost
full_fault dns Schemeless part = Some invalid.InvalidUri
full_fault dns (Secure target) part = None
full_fault dns (AtAddress target address) part = if is_allowed address then None else Some invalid.DisallowedIP
full_fault dns (AtName target host) part = if dns then found_fault (host_found part) else Some invalid.NoDnsResolver

-- what is wrong with the address that the variables name
abbrev pub address_fault : Bool → ContainerUri → List Pair → Option CredentialsError
address_fault dns uri.NotSet part = Some (CredentialsNotLoaded NotConfigured)
address_fault dns (uri.Relative target) part = None
address_fault dns (uri.NoRelative text) part = Some (InvalidConfiguration (config.RelativeUri text))
address_fault dns (uri.Full text named) part = option_map (λ e. InvalidConfiguration (config.FullUri e text)) (full_fault dns named part)

abbrev pub fault_of_answer : Option Answer → Option CredentialsError
fault_of_answer None = None
fault_of_answer (Some answer) = result_err (answer_keys answer)

-- why the last attempt gives no credentials
abbrev pub answer_fault : List Pair → Option CredentialsError
answer_fault part = fault_of_answer (last_answer part)

-- Why a container gives no credentials, over its part: the token, else the address, else the last
-- answer. None where it gives them.
abbrev pub why_container : Variables → ContainerSettings → ContainerUri → List Pair → Option CredentialsError
why_container env settings named part = option_or (token_fault env part) (option_or (address_fault settings.dns named part) (answer_fault part))
