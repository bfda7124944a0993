-- What a question is about, in a few words.
use Rattle.std.specs.Prelude.{ℕ, List, [], ◌++◌, codes}
use Rattle.std.specs.Str.{encode_utf8_all}
use Rattle.cfg_types.specs.Addresses.{shown_address}
use Rattle.cfg_types.specs.Commands.{shown_command}
use Rattle.cfg_types.specs.declared.request.Request.{Request}
use Rattle.cfg_types.specs.declared.request.Request.TheVariants as request
use Rattle.cfg_world.specs.declared.ask.Question.{Question}
use Rattle.cfg_world.specs.declared.ask.Question.TheVariants as question

-- a text as it stands
abbrev pub text_bytes : List ℕ → List ℕ
text_bytes text = encode_utf8_all text

-- an address without user information and query
abbrev pub address_words : List ℕ → List ℕ
address_words endpoint = shown_address (encode_utf8_all endpoint)

-- the address and the path of a GET, without user information and query
abbrev pub target_words : List ℕ → List ℕ → List ℕ
target_words endpoint path = codes "GET " ++ (address_words endpoint ++ address_words path)

-- a role of an account
abbrev pub role_words : List ℕ → List ℕ → List ℕ
role_words role account = encode_utf8_all role ++ (codes "/" ++ encode_utf8_all account)

-- Of instance metadata the path is left out, since a reply names the role in it.
abbrev pub subject_of_request : Request → List ℕ
subject_of_request (request.Http call) = target_words call.endpoint call.path
subject_of_request (request.MetadataToken call) = address_words call.endpoint
subject_of_request (request.MetadataGet call) = address_words call.endpoint
subject_of_request (request.AssumeRole call) = text_bytes call.role_arn
subject_of_request (request.AssumeRoleWithWebIdentity call) = text_bytes call.role_arn
subject_of_request (request.GetRoleCredentials call) = role_words call.role_name call.account_id
subject_of_request (request.CreateToken call) = []
subject_of_request (request.CreateOAuth2Token call) = []

-- a path, the program of a command, a host, or what a request is about
abbrev pub subject_of : Question → List ℕ
subject_of question.Now = []
subject_of question.Jitter = []
subject_of (question.Read path) = text_bytes path
subject_of (question.Write path bytes) = text_bytes path
subject_of (question.Run command) = text_bytes (shown_command command)
subject_of (question.LookUp host) = text_bytes host
subject_of (question.Send request) = subject_of_request request
