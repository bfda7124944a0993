-- One question more to devices over an endpoint.
use Rattle.std.proofs.Common.{◌≡◌, ℕ, List, [], ◌∷◌, ◌++◌, Bool, true, false, Some, refl, sym, ap, ◌∙◌, subst}
use Rattle.std.specs.Prelude.{if◌then◌else◌}
use Rattle.cfg_types.specs.declared.request.Request.{Request}
use Rattle.cfg_types.specs.declared.request.Request.TheVariants as request
use Rattle.cfg_world.specs.declared.ask.Question.{Question}
use Rattle.cfg_world.specs.declared.ask.Question.TheVariants as question
use Rattle.cfg_world.specs.declared.ask.Answer.{Answer}
use Rattle.cfg_world.specs.Fits.{Fits, Pair}
use Rattle.cfg_world.specs.Faults.{Counted}
use Rattle.cfg_world.specs.Asked.{Asked}
use Rattle.cfg_endpoint.specs.Endpoints.{EndpointState, gives_token, with_token, after_request}
use Rattle.cfg_endpoint.specs.Serves.{AnswersAs, after_question, after_questions, Serves}
use Rattle.cfg_endpoint.specs.Devices.{DevicesState, QuestionKept, place_after, Keeps, places_after, with_given, start, Allows, Stands, Moved}
use Rattle.cfg_endpoint.proofs.Stretches.{serves_join, after_both, keeps_join, places_both}

-- a question changes nothing of an endpoint but how many tokens were given
token_start : (e : EndpointState) (n : ℕ) (b : Bool) → with_given (if b then with_token e else e) n ≡ with_given e n
token_start e n true = refl
token_start e n false = refl

request_start : (e : EndpointState) (n : ℕ) (r : Request) → with_given (after_request e r) n ≡ with_given e n
request_start e n (request.Http call) = refl
request_start e n (request.MetadataToken call) = token_start e n (gives_token e call.ttl_seconds)
request_start e n (request.MetadataGet call) = refl
request_start e n (request.AssumeRole call) = refl
request_start e n (request.AssumeRoleWithWebIdentity call) = refl
request_start e n (request.GetRoleCredentials call) = refl
request_start e n (request.CreateToken call) = refl
request_start e n (request.CreateOAuth2Token call) = refl

pub question_start : (e : EndpointState) (n : ℕ) (q : Question) → with_given (after_question e q) n ≡ with_given e n
question_start e n (question.Send r) = request_start e n r
question_start e n question.Now = refl
question_start e n question.Jitter = refl
question_start e n (question.Read path) = refl
question_start e n (question.Write path bytes) = refl
question_start e n (question.Run command) = refl
question_start e n (question.LookUp host) = refl

module _ (old new : DevicesState) (q : Question) (a : Answer) (m : Moved old new q a) where
  same_start : start new ≡ start old
  same_start = ap (λ e. with_given e new.first_given) m.endpoint ∙ ap (with_given (after_question old.endpoint q)) m.first_given ∙ question_start old.endpoint old.first_given q

  serves_from : (l : List Pair) → Serves (start old) l → Serves (start new) l
  serves_from l h = subst (λ e. Serves e l) (sym same_start) h

  keeps_from : (l : List Pair) → Keeps old.clock old.first_place l → Keeps new.clock new.first_place l
  keeps_from l h = subst (λ c. Keeps c new.first_place l) (sym m.clock) (subst (λ p. Keeps old.clock p l) (sym m.first_place) h)

  serves_back : (l : List Pair) → Serves (start new) l → Serves (start old) l
  serves_back l h = subst (λ e. Serves e l) same_start h

  keeps_back : (l : List Pair) → Keeps new.clock new.first_place l → Keeps old.clock old.first_place l
  keeps_back l h = subst (λ p. Keeps old.clock p l) m.first_place (subst (λ c. Keeps c new.first_place l) m.clock h)

  abbrev more : List Pair → List Pair
  more l = l ++ (q, a) ∷ []

  stands_more : (l : List Pair) → Stands old l → Stands new (more l)
  stands_more l s =
      let answers : AnswersAs (after_questions (start old) l) q a = subst (λ e. AnswersAs e q a) (sym s.endpoint) m.answers in
      let keeps : QuestionKept old.clock (places_after old.clock old.first_place l) q a = subst (λ p. QuestionKept old.clock p q a) (sym s.place) m.keeps in
      record {
        allowed = (
          serves_from (more l) (serves_join (start old) l ((q, a) ∷ []) s.allowed.0 (answers, tt)),
          keeps_from (more l) (keeps_join old.clock old.first_place l ((q, a) ∷ []) s.allowed.1 (keeps, tt)),
        );
        endpoint =
            ap (λ e. after_questions e (more l)) same_start
            ∙ after_both (start old) l ((q, a) ∷ [])
            ∙ ap (λ e. after_question e q) s.endpoint
            ∙ sym m.endpoint;
        place =
            ap (λ c. places_after c new.first_place (more l)) m.clock
            ∙ ap (λ p. places_after old.clock p (more l)) m.first_place
            ∙ places_both old.clock old.first_place l ((q, a) ∷ [])
            ∙ ap (λ p. place_after old.clock p q) s.place
            ∙ sym m.place;
      }

  pub asked_of : Fits q a → Counted ((q, a) ∷ []) old.faults new.faults → Asked old.faults new.faults (Allows old) (Allows new) (Stands old) (Stands new) q (Some a)
  asked_of fits counted = record {
    same = record { to = λ l h. (serves_from l h.0, keeps_from l h.1); from = λ l h. (serves_back l h.0, keeps_back l h.1) };
    counted = counted;
    fits = fits;
    stands = stands_more;
  }
