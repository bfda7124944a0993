-- What an endpoint answers, one question after the other.
use Rattle.std.specs.Prelude.{◌≡◌, ℕ, ◌+◌, List, [], ◌∷◌}
use Rattle.cfg_types.specs.declared.reply.Reply.TheVariants as reply
use Rattle.cfg_types.specs.declared.reply.http.HttpReply.{HttpReply}
use Rattle.cfg_types.specs.declared.request.Request.{Request}
use Rattle.cfg_types.specs.declared.request.Request.TheVariants as request
use Rattle.cfg_world.specs.declared.ask.Question.{Question}
use Rattle.cfg_world.specs.declared.ask.Question.TheVariants as question
use Rattle.cfg_world.specs.declared.ask.Answer.{Answer}
use Rattle.cfg_world.specs.declared.ask.Answer.TheVariants as answer
use Rattle.cfg_world.specs.Fits.{Pair}
use Rattle.cfg_endpoint.specs.Endpoints.{EndpointState, IsReply, after_request}

-- the answer is the endpoint's reply
pub record IsReplied (e : EndpointState) (asked : Request) (given : Answer) : Type 0 where
  pub sent : HttpReply
  pub is : given ≡ answer.Replied (reply.Http sent)
  pub replies : IsReply e asked sent

-- the three kinds of request are answered by the endpoint; of all others nothing is said
abbrev pub AnswersRequest : EndpointState → Request → Answer → Type 0
AnswersRequest e (request.Http call) given = IsReplied e (request.Http call) given
AnswersRequest e (request.MetadataToken call) given = IsReplied e (request.MetadataToken call) given
AnswersRequest e (request.MetadataGet call) given = IsReplied e (request.MetadataGet call) given
AnswersRequest e _ given = Unit {0}

abbrev pub AnswersAs : EndpointState → Question → Answer → Type 0
AnswersAs e (question.Send asked) given = AnswersRequest e asked given
AnswersAs e _ given = Unit {0}

-- the endpoint after a question
abbrev pub after_question : EndpointState → Question → EndpointState
after_question e (question.Send asked) = after_request e asked
after_question e _ = e

-- The answers to the three kinds are those of the endpoint, one after the other, from this state.
abbrev pub Serves : EndpointState → List Pair → Type 0
Serves e [] = Unit {0}
Serves e (x ∷ journal) = AnswersAs e x.0 x.1 × Serves (after_question e x.0) journal

-- the endpoint after these questions
abbrev pub after_questions : EndpointState → List Pair → EndpointState
after_questions e [] = e
after_questions e (x ∷ journal) = after_questions (after_question e x.0) journal

-- how many requests a question is to the endpoint
abbrev pub requests_by : Question → ℕ
requests_by (question.Send (request.Http call)) = 1
requests_by (question.Send (request.MetadataToken call)) = 1
requests_by (question.Send (request.MetadataGet call)) = 1
requests_by _ = 0

-- how many requests to the endpoint these questions are
abbrev pub requests_in : List Pair → ℕ
requests_in [] = 0
requests_in (x ∷ journal) = requests_by x.0 + requests_in journal
