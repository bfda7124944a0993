-- Devices over an endpoint, as contracts see them.
use Rattle.std.specs.Prelude.{◌≡◌, ◌≤ℤ◌, pos, ℕ, List, [], ◌∷◌, length, slice_get, unwrap_or, All, Option, Some, None}
use Rattle.cfg_base.specs.Moment.{Moment}
use Rattle.cfg_types.specs.declared.request.Request.{Request}
use Rattle.cfg_types.specs.declared.request.Request.TheVariants as request
use Rattle.cfg_world.specs.declared.ask.Question.{Question}
use Rattle.cfg_world.specs.declared.ask.Question.TheVariants as question
use Rattle.cfg_world.specs.declared.ask.Answer.{Answer}
use Rattle.cfg_world.specs.declared.ask.Answer.TheVariants as answer
use Rattle.cfg_world.specs.Faults.{Faults}
use Rattle.cfg_world.specs.Fits.{Pair}
use Rattle.cfg_world.specs.Handed.{Handed, otherwise}
use Rattle.cfg_world.specs.Script.{last_reading, step}
use Rattle.cfg_world.specs.Tallies.{faults_after}
use Rattle.cfg_endpoint.specs.Endpoints.{EndpointState, after_request}
use Rattle.cfg_endpoint.specs.Serves.{IsReplied, Serves, AnswersAs, after_question, after_questions}

-- the endpoint, the readings of the clock and how many of them were used, how often each kind of device failed;
-- and at the start the number of tokens given, and of readings used
pub record DevicesState : Type 0 where
  pub endpoint : EndpointState
  pub clock : List Moment
  pub place : ℕ
  pub faults : Faults
  pub first_given : ℕ
  pub first_place : ℕ

-- the reading of this place; behind the last one it is repeated, and without one the clock stands at the epoch
abbrev pub reading_at : List Moment → ℕ → Moment
reading_at clock place = unwrap_or (slice_get clock place) (last_reading clock)

-- the endpoint's requests are answered by the endpoint, and any other send fails
abbrev pub RequestKept : Request → Answer → Type 0
RequestKept (request.Http call) given = Unit {0}
RequestKept (request.MetadataToken call) given = Unit {0}
RequestKept (request.MetadataGet call) given = Unit {0}
RequestKept asked given = given ≡ otherwise (question.Send asked)

-- The clock gives its readings; but for the endpoint's requests every other question is answered as where no answer
-- is left.
abbrev pub QuestionKept : List Moment → ℕ → Question → Answer → Type 0
QuestionKept clock place question.Now given = given ≡ answer.Moment (reading_at clock place)
QuestionKept clock place (question.Send asked) given = RequestKept asked given
QuestionKept clock place asked given = given ≡ otherwise asked

-- the place of the clock after a question
abbrev pub place_after : List Moment → ℕ → Question → ℕ
place_after clock place question.Now = step place (length clock)
place_after clock place _ = place

-- these rules hold of each answer, from this place of the clock on
abbrev pub Keeps : List Moment → ℕ → List Pair → Type 0
Keeps clock place [] = Unit {0}
Keeps clock place (e ∷ journal) = QuestionKept clock place e.0 e.1 × Keeps clock (place_after clock place e.0) journal

-- the place of the clock after these questions
abbrev pub places_after : List Moment → ℕ → List Pair → ℕ
places_after clock place [] = place
places_after clock place (e ∷ journal) = places_after clock (place_after clock place e.0) journal

-- the readings are not before the epoch, and no answer is handed to the devices for all else
pub record IsReadyDevices (clock : List Moment) (others : Handed) : Type 0 where
  pub readings : All (λ m. pos 0 ≤ℤ m.seconds) clock
  pub unanswered : others.answers ≡ []

-- One question was answered by the endpoint and the rules.
pub record Moved (old new : DevicesState) (asked : Question) (given : Answer) : Type 0 where
  pub answers : AnswersAs old.endpoint asked given
  pub keeps : QuestionKept old.clock old.place asked given
  pub endpoint : new.endpoint ≡ after_question old.endpoint asked
  pub place : new.place ≡ place_after old.clock old.place asked
  pub faults : new.faults ≡ faults_after asked given old.faults
  pub clock : new.clock ≡ old.clock
  pub first_given : new.first_given ≡ old.first_given
  pub first_place : new.first_place ≡ old.first_place

-- One question was put. Without an answer memory ran out, and nothing changed.
abbrev pub MovesBy : DevicesState → DevicesState → Question → Option Answer → Type 0
MovesBy old new asked None = new ≡ old
MovesBy old new asked (Some given) = Moved old new asked given

-- The endpoint replied to a request. Without a reply memory ran out, and nothing changed.
abbrev pub RepliesBy : EndpointState → EndpointState → Request → Option Answer → Type 0
RepliesBy old new asked None = new ≡ old
RepliesBy old new asked (Some given) = IsReplied old asked given × (new ≡ after_request old asked)

-- the endpoint with so many tokens given
abbrev pub with_given : EndpointState → ℕ → EndpointState
with_given e n = record e { given = n }

-- the endpoint at the start
abbrev pub start : DevicesState → EndpointState
start d = with_given d.endpoint d.first_given

-- the lists that the endpoint and the rules give from the start
abbrev pub Allows : DevicesState → List Pair → Type 0
Allows d journal = Serves (start d) journal × Keeps d.clock d.first_place journal

-- Those of them that lead from the start to what the devices hold now.
pub record Stands (d : DevicesState) (journal : List Pair) : Type 0 where
  pub allowed : Allows d journal
  pub endpoint : after_questions (start d) journal ≡ d.endpoint
  pub place : places_after d.clock d.first_place journal ≡ d.place
