-- Which answers fit which questions.
use Rattle.std.specs.Prelude.{pos, ◌≤ℤ◌, List}
use Rattle.std.specs.List.{AllByRecursion}
use Rattle.cfg_types.specs.declared.request.Request.{Request}
use Rattle.cfg_types.specs.declared.request.Request.TheVariants as request
use Rattle.cfg_types.specs.declared.reply.Reply.{Reply}
use Rattle.cfg_types.specs.declared.reply.Reply.TheVariants as reply
use Rattle.cfg_types.specs.declared.reply.FailKind.{FailKind}
use Rattle.cfg_types.specs.declared.reply.FailKind.TheVariants.{Dispatch, Timeout, Broken, Io}
use Rattle.cfg_world.specs.declared.ask.Question.{Question}
use Rattle.cfg_world.specs.declared.ask.Question.TheVariants as question
use Rattle.cfg_world.specs.declared.ask.Answer.{Answer}
use Rattle.cfg_world.specs.declared.ask.Answer.TheVariants as answer

-- a reply of the kind that the request asks for, or, where it may be refused, a refusal
abbrev pub FitsRequest : Request → Reply → Type 0
FitsRequest (request.Http call) (reply.Http given) = Unit {0}
FitsRequest (request.MetadataToken call) (reply.Http given) = Unit {0}
FitsRequest (request.MetadataGet call) (reply.Http given) = Unit {0}
FitsRequest (request.AssumeRole call) (reply.Sts given) = Unit {0}
FitsRequest (request.AssumeRole call) (reply.Refused refusal) = Unit {0}
FitsRequest (request.AssumeRoleWithWebIdentity call) (reply.Sts given) = Unit {0}
FitsRequest (request.AssumeRoleWithWebIdentity call) (reply.Refused refusal) = Unit {0}
FitsRequest (request.GetRoleCredentials call) (reply.Role given) = Unit {0}
FitsRequest (request.GetRoleCredentials call) (reply.Refused refusal) = Unit {0}
FitsRequest (request.CreateToken call) (reply.Token given) = Unit {0}
FitsRequest (request.CreateToken call) (reply.Refused refusal) = Unit {0}
FitsRequest (request.CreateOAuth2Token call) (reply.SignIn given) = Unit {0}
FitsRequest (request.CreateOAuth2Token call) (reply.Refused refusal) = Unit {0}
FitsRequest _ _ = ⊥

-- the failures of a transport
abbrev pub IsTransport : FailKind → Type 0
IsTransport Dispatch = Unit {0}
IsTransport Timeout = Unit {0}
IsTransport Broken = Unit {0}
IsTransport Io = ⊥

-- the failure of a file, a command or a look-up
abbrev pub IsIo : FailKind → Type 0
IsIo Io = Unit {0}
IsIo _ = ⊥

-- The answer is of the question's kind, or a failure of that kind of device. A reading of the clock is
-- not before the epoch; the clock and the jitter cannot fail.
abbrev pub Fits : Question → Answer → Type 0
Fits question.Now (answer.Moment m) = pos 0 ≤ℤ m.seconds
Fits question.Jitter (answer.Jitter n) = Unit {0}
Fits (question.Read path) (answer.Contents bytes) = Unit {0}
Fits (question.Read path) (answer.Failed kind) = IsIo kind
Fits (question.Write path bytes) answer.Written = Unit {0}
Fits (question.Write path bytes) (answer.Failed kind) = IsIo kind
Fits (question.Run command) (answer.Finished finished) = Unit {0}
Fits (question.Run command) (answer.Failed kind) = IsIo kind
Fits (question.LookUp host) (answer.Addresses addresses) = Unit {0}
Fits (question.LookUp host) (answer.Failed kind) = IsIo kind
Fits (question.Send request) (answer.Replied reply) = FitsRequest request reply
Fits (question.Send request) (answer.Failed kind) = IsTransport kind
Fits _ _ = ⊥

-- a question with its answer
abbrev pub Pair : Type 0
Pair = Question × Answer

-- every answer fits its question
abbrev pub EachFits : List Pair → Type 0
EachFits = AllByRecursion (λ e. Fits e.0 e.1)
