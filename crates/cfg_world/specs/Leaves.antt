-- One question, and what its answer is read as. An answer that does not fit its question never comes;
-- it is read as something, so that each reading is a function.
use Rattle.std.specs.Prelude.{ℕ, List, pos, Option, Some, None, ok_or, Result, Ok, Err}
use Rattle.cfg_base.specs.Moment.{Moment}
use Rattle.cfg_base.specs.declared.address.Address.{Address}
use Rattle.cfg_types.specs.declared.command.Finished.{Finished}
use Rattle.cfg_types.specs.declared.request.Request.{Request}
use Rattle.cfg_types.specs.declared.request.Request.TheVariants as request
use Rattle.cfg_types.specs.declared.request.http.Http.{Http}
use Rattle.cfg_types.specs.declared.request.http.MetadataToken.{MetadataToken}
use Rattle.cfg_types.specs.declared.request.http.MetadataGet.{MetadataGet}
use Rattle.cfg_types.specs.declared.request.sts.AssumeRole.{AssumeRole}
use Rattle.cfg_types.specs.declared.request.sts.AssumeRoleWithWebIdentity.{AssumeRoleWithWebIdentity}
use Rattle.cfg_types.specs.declared.request.sso.GetRoleCredentials.{GetRoleCredentials}
use Rattle.cfg_types.specs.declared.request.sso.CreateToken.{CreateToken}
use Rattle.cfg_types.specs.declared.request.sign_in.CreateOAuth2Token.{CreateOAuth2Token}
use Rattle.cfg_types.specs.declared.reply.Reply.{Reply}
use Rattle.cfg_types.specs.declared.reply.Refusal.{Refusal}
use Rattle.cfg_types.specs.Replies.{http_in, sts_in, role_in, token_in, sign_in_in}
use Rattle.cfg_types.specs.declared.reply.http.HttpReply.{HttpReply}
use Rattle.cfg_types.specs.declared.reply.sts.StsReply.{StsReply}
use Rattle.cfg_types.specs.declared.reply.sso.RoleReply.{RoleReply}
use Rattle.cfg_types.specs.declared.reply.sso.TokenReply.{TokenReply}
use Rattle.cfg_types.specs.declared.reply.sign_in.SignInReply.{SignInReply}
use Rattle.cfg_types.specs.declared.reply.FailKind.{FailKind}
use Rattle.cfg_types.specs.declared.reply.FailKind.TheVariants.{Io}
use Rattle.cfg_world.specs.declared.ask.Question.TheVariants as question
use Rattle.cfg_world.specs.declared.ask.Answer.{Answer}
use Rattle.cfg_world.specs.declared.ask.Answer.TheVariants as answer
use Rattle.cfg_world.specs.declared.leaves.NotGranted.{NotGranted}
use Rattle.cfg_world.specs.declared.leaves.NotGranted.TheVariants.{Failed, Refused}
use Rattle.cfg_world.specs.Inquiry.{Inquiry, Done, Ask}

-- the moment that a clock answers
abbrev pub moment_of : Answer → Moment
moment_of (answer.Moment m) = m
moment_of _ = record { seconds = pos 0; nanos = 0 }

-- the number that a jitter answers
abbrev pub jitter_of : Answer → ℕ
jitter_of (answer.Jitter n) = n
jitter_of _ = 0

-- how a device failed
abbrev pub failure_of : {T : Type 0} → Answer → Result T FailKind
failure_of (answer.Failed kind) = Err kind
failure_of _ = Err Io

-- what a file holds, or how it failed
abbrev pub contents_of : Answer → Result (List ℕ) FailKind
contents_of (answer.Contents bytes) = Ok bytes
contents_of given = failure_of given

-- that a file was written, or how it failed
abbrev pub written_of : Answer → Result (Unit {0}) FailKind
written_of answer.Written = Ok tt
written_of given = failure_of given

-- what a command left behind, or how it failed
abbrev pub finished_of : Answer → Result Finished FailKind
finished_of (answer.Finished finished) = Ok finished
finished_of given = failure_of given

-- the addresses of a host, or how the look-up failed
abbrev pub addresses_of : Answer → Result (List Address) FailKind
addresses_of (answer.Addresses addresses) = Ok addresses
addresses_of given = failure_of given

-- the reply of a transport, or how it failed
abbrev pub reply_of : Answer → Result Reply FailKind
reply_of (answer.Replied reply) = Ok reply
reply_of given = failure_of given

abbrev http_by : Result Reply FailKind → Result HttpReply FailKind
http_by (Ok given) = ok_or (http_in given) Io
http_by (Err kind) = Err kind

-- the reply to an HTTP request, or how the transport failed
abbrev pub http_of : Answer → Result HttpReply FailKind
http_of given = http_by (reply_of given)

-- a service's reply of its kind, or its refusal
abbrev pub or_refused : {T : Type 0} → Option (Result T Refusal) → Result T NotGranted
or_refused None = Err (Failed Io)
or_refused (Some (Ok given)) = Ok given
or_refused (Some (Err refusal)) = Err (Refused refusal)

-- the reply of a service, or how the transport failed
abbrev pub replied_of : Answer → Result Reply NotGranted
replied_of (answer.Replied given) = Ok given
replied_of (answer.Failed kind) = Err (Failed kind)
replied_of _ = Err (Failed Io)

abbrev granted_by : {T : Type 0} → (Reply → Option (Result T Refusal)) → Result Reply NotGranted → Result T NotGranted
granted_by reading (Ok given) = or_refused (reading given)
granted_by reading (Err reason) = Err reason

-- what a service granted, by a reading of its replies, or why it granted nothing
abbrev pub granted_of : {T : Type 0} → (Reply → Option (Result T Refusal)) → Answer → Result T NotGranted
granted_of reading given = granted_by reading (replied_of given)

-- a reading of the clock
unfoldable pub clock : Inquiry Moment
clock = Ask question.Now (λ a. Done (moment_of a))

-- a jitter
unfoldable pub jitter : Inquiry ℕ
jitter = Ask question.Jitter (λ a. Done (jitter_of a))

-- one reading of a file
unfoldable pub reading_file : List ℕ → Inquiry (Result (List ℕ) FailKind)
reading_file path = Ask (question.Read path) (λ a. Done (contents_of a))

-- one writing of a file
unfoldable pub writing_file : List ℕ → List ℕ → Inquiry (Result (Unit {0}) FailKind)
writing_file path bytes = Ask (question.Write path bytes) (λ a. Done (written_of a))

-- one run of a command
unfoldable pub running : List ℕ → Inquiry (Result Finished FailKind)
running command = Ask (question.Run command) (λ a. Done (finished_of a))

-- one look-up of a host
unfoldable pub looking_up : List ℕ → Inquiry (Result (List Address) FailKind)
looking_up host = Ask (question.LookUp host) (λ a. Done (addresses_of a))

-- one request, and its reply
unfoldable pub sending : Request → Inquiry (Result Reply FailKind)
sending request = Ask (question.Send request) (λ a. Done (reply_of a))

-- one HTTP request, and its reply
unfoldable pub fetching : Http → Inquiry (Result HttpReply FailKind)
fetching call = Ask (question.Send (request.Http call)) (λ a. Done (http_of a))

-- one request for a metadata token, and its reply
unfoldable pub fetching_token : MetadataToken → Inquiry (Result HttpReply FailKind)
fetching_token call = Ask (question.Send (request.MetadataToken call)) (λ a. Done (http_of a))

-- one request for metadata, and its reply
unfoldable pub fetching_metadata : MetadataGet → Inquiry (Result HttpReply FailKind)
fetching_metadata call = Ask (question.Send (request.MetadataGet call)) (λ a. Done (http_of a))

-- one call of `AssumeRole`, and its reply
unfoldable pub assuming : AssumeRole → Inquiry (Result StsReply NotGranted)
assuming call = Ask (question.Send (request.AssumeRole call)) (λ a. Done (granted_of sts_in a))

-- one call of `AssumeRoleWithWebIdentity`, and its reply
unfoldable pub assuming_by_web_identity : AssumeRoleWithWebIdentity → Inquiry (Result StsReply NotGranted)
assuming_by_web_identity call = Ask (question.Send (request.AssumeRoleWithWebIdentity call)) (λ a. Done (granted_of sts_in a))

-- one call of `GetRoleCredentials`, and its reply
unfoldable pub getting_role_credentials : GetRoleCredentials → Inquiry (Result RoleReply NotGranted)
getting_role_credentials call = Ask (question.Send (request.GetRoleCredentials call)) (λ a. Done (granted_of role_in a))

-- one call of `CreateToken`, and its reply
unfoldable pub creating_token : CreateToken → Inquiry (Result TokenReply NotGranted)
creating_token call = Ask (question.Send (request.CreateToken call)) (λ a. Done (granted_of token_in a))

-- one call of `CreateOAuth2Token`, and its reply
unfoldable pub signing_in : CreateOAuth2Token → Inquiry (Result SignInReply NotGranted)
signing_in call = Ask (question.Send (request.CreateOAuth2Token call)) (λ a. Done (granted_of sign_in_in a))
