-- One endpoint, with one clock, answers one list of questions in one way.
use Rattle.std.proofs.Common.{◌≡◌, ℕ, List, [], ◌∷◌, inl, inr, sym, ap, ◌∙◌, subst}
use Rattle.cfg_base.specs.Moment.{Moment}
use Rattle.cfg_types.specs.declared.reply.Reply.TheVariants as reply
use Rattle.cfg_types.specs.declared.reply.http.HttpReply.{HttpReply}
use Rattle.cfg_types.specs.declared.request.Request.{Request}
use Rattle.cfg_types.specs.declared.request.Request.TheVariants as request
use Rattle.cfg_types.specs.declared.request.http.MetadataGet.{MetadataGet}
use Rattle.cfg_world.specs.declared.ask.Question.{Question}
use Rattle.cfg_world.specs.declared.ask.Question.TheVariants as question
use Rattle.cfg_world.specs.declared.ask.Answer.{Answer}
use Rattle.cfg_world.specs.declared.ask.Answer.TheVariants as answer
use Rattle.cfg_world.specs.Agreeing.{AnswerAlike}
use Rattle.cfg_world.specs.Fits.{Pair}
use Rattle.cfg_endpoint.specs.Endpoints.{EndpointState, IsGetReply}
use Rattle.cfg_endpoint.specs.Serves.{AnswersAs, after_question, Serves}
use Rattle.cfg_endpoint.specs.Devices.{QuestionKept, place_after, Keeps}

abbrev by_http : HttpReply → Answer
by_http sent = answer.Replied (reply.Http sent)

one_get : (e : EndpointState) (call : MetadataGet) (r s : HttpReply) → IsGetReply e call r → IsGetReply e call s → r ≡ s
one_get e call r s (inl h) (inl k) = h.1 ∙ sym k.1
one_get e call r s (inl h) (inr k) = absurd (k.0 h.0)
one_get e call r s (inr h) (inl k) = absurd (h.0 k.0)
one_get e call r s (inr h) (inr k) = h.1 ∙ sym k.1

one_reply : (e : EndpointState) (clock : List Moment) (place : ℕ) (r : Request) (a b : Answer) →
    AnswersAs e (question.Send r) a → QuestionKept clock place (question.Send r) a → AnswersAs e (question.Send r) b → QuestionKept clock place (question.Send r) b → a ≡ b
one_reply e clock place (request.Http call) a b h i k l = h.is ∙ ap by_http (h.replies ∙ sym k.replies) ∙ sym k.is
one_reply e clock place (request.MetadataToken call) a b h i k l = h.is ∙ ap by_http (h.replies ∙ sym k.replies) ∙ sym k.is
one_reply e clock place (request.MetadataGet call) a b h i k l = h.is ∙ ap by_http (one_get e call h.sent k.sent h.replies k.replies) ∙ sym k.is
one_reply e clock place (request.AssumeRole call) a b h i k l = i ∙ sym l
one_reply e clock place (request.AssumeRoleWithWebIdentity call) a b h i k l = i ∙ sym l
one_reply e clock place (request.GetRoleCredentials call) a b h i k l = i ∙ sym l
one_reply e clock place (request.CreateToken call) a b h i k l = i ∙ sym l
one_reply e clock place (request.CreateOAuth2Token call) a b h i k l = i ∙ sym l

one_answer : (e : EndpointState) (clock : List Moment) (place : ℕ) (q : Question) (a b : Answer) → AnswersAs e q a → QuestionKept clock place q a → AnswersAs e q b → QuestionKept clock place q b → a ≡ b
one_answer e clock place (question.Send r) a b h i k l = one_reply e clock place r a b h i k l
one_answer e clock place question.Now a b h i k l = i ∙ sym l
one_answer e clock place question.Jitter a b h i k l = i ∙ sym l
one_answer e clock place (question.Read path) a b h i k l = i ∙ sym l
one_answer e clock place (question.Write path bytes) a b h i k l = i ∙ sym l
one_answer e clock place (question.Run command) a b h i k l = i ∙ sym l
one_answer e clock place (question.LookUp host) a b h i k l = i ∙ sym l

-- the answers to one question are one, and they lead to one endpoint and one place of the clock
pub served_alike : (e : EndpointState) (clock : List Moment) (place : ℕ) (one other : List Pair) → Serves e one → Keeps clock place one → Serves e other → Keeps clock place other → AnswerAlike one other
served_alike e clock place [] other g h i k = tt
served_alike e clock place (x ∷ one) [] g h i k = tt
served_alike e clock place (x ∷ one) (y ∷ other) g h i k = λ same. (
  one_answer e clock place x.0 x.1 y.1 g.0 h.0 (subst (λ q. AnswersAs e q y.1) (sym same) i.0) (subst (λ q. QuestionKept clock place q y.1) (sym same) k.0),
  served_alike (after_question e x.0) clock (place_after clock place x.0) one other g.1 h.1
      (subst (λ q. Serves (after_question e q) other) (sym same) i.1) (subst (λ q. Keeps clock (place_after clock place q) other) (sym same) k.1),
)
