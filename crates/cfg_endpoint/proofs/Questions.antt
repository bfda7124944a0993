-- The questions that devices over an endpoint are asked, each in turn.
use Rattle.std.proofs.Common.{◌≡◌, ◌≤ℤ◌, pos, ℕ, zero, suc, List, [], ◌∷◌, Option, Some, None, refl, sym, ap, ◌∙◌, subst, arith}
use Rattle.std.specs.Prelude.{slice_get, length}
use Rattle.cfg_base.specs.Moment.{Moment}
use Rattle.cfg_types.specs.declared.reply.Reply.{Reply}
use Rattle.cfg_types.specs.declared.reply.Reply.TheVariants as reply
use Rattle.cfg_types.specs.declared.reply.http.HttpReply.{HttpReply}
use Rattle.cfg_types.specs.declared.request.Request.{Request}
use Rattle.cfg_types.specs.declared.request.Request.TheVariants as request
use Rattle.cfg_world.specs.declared.ask.Question.{Question}
use Rattle.cfg_world.specs.declared.ask.Question.TheVariants as question
use Rattle.cfg_world.specs.declared.ask.Answer.{Answer}
use Rattle.cfg_world.specs.declared.ask.Answer.TheVariants as answer
use Rattle.cfg_world.specs.Fits.{Fits}
use Rattle.cfg_world.specs.Faults.{Faults, Counted}
use Rattle.cfg_world.specs.Asked.{Asked}
use Rattle.cfg_world.specs.Handed as handed
use Rattle.cfg_world.specs.Handed.{Handed, IsGiven, HandedOut, otherwise}
use Rattle.cfg_world.specs.Script.{step}
use Rattle.cfg_endpoint.specs.Endpoints.{EndpointState, IsServed, IsReply, after_request}
use Rattle.cfg_endpoint.specs.Serves.{AnswersRequest, AnswersAs, after_question}
use Rattle.cfg_endpoint.specs.Devices.{DevicesState, RequestKept, QuestionKept, place_after, Allows, Stands, RepliesBy, reading_at}
use Rattle.cfg_endpoint.proofs.Moving.{asked_of}

-- devices, from their parts
abbrev pub devices_of : EndpointState → List Moment → ℕ → Faults → ℕ → ℕ → DevicesState
devices_of endpoint clock place faults first_given first_place = record { endpoint = endpoint; clock = clock; place = place; faults = faults; first_given = first_given; first_place = first_place }

-- both keep what every question keeps
abbrev pub Asks : DevicesState → DevicesState → Question → Option Answer → Type 0
Asks old new q o = Asked old.faults new.faults (Allows old) (Allows new) (Stands old) (Stands new) q o

from_view : (was old new : DevicesState) (q : Question) (o : Option Answer) → old ≡ was → Asks old new q o → Asks was new q o
from_view was old new q o view h = subst (λ w. Asks w new q o) view h

-- nothing changed, and nothing was answered
unchanged : (d : DevicesState) (q : Question) → Asks d d q None
unchanged d q = record {
  same = record { to = λ l h. h; from = λ l h. h };
  counted = record {
    files = record { later = omega arith; counted = omega arith };
    transport = record { later = omega arith; counted = omega arith };
    commands = record { later = omega arith; counted = omega arith };
    lookups = record { later = omega arith; counted = omega arith };
  };
  fits = tt;
  stands = tt;
}

-- a reading and a reply are no failures
counted_now : (m : Moment) (f : Faults) → Counted ((question.Now, answer.Moment m) ∷ []) f f
counted_now m f = record {
  files = record { later = omega arith; counted = omega arith };
  transport = record { later = omega arith; counted = omega arith };
  commands = record { later = omega arith; counted = omega arith };
  lookups = record { later = omega arith; counted = omega arith };
}

counted_reply : (r : Request) (sent : Reply) (f : Faults) → Counted ((question.Send r, answer.Replied sent) ∷ []) f f
counted_reply r sent f = record {
  files = record { later = omega arith; counted = omega arith };
  transport = record { later = omega arith; counted = omega arith };
  commands = record { later = omega arith; counted = omega arith };
  lookups = record { later = omega arith; counted = omega arith };
}

-- a question that is neither the clock's nor the endpoint's
pub record IsOther (q : Question) : Type 0 where
  pub answers : (e : EndpointState) (a : Answer) → AnswersAs e q a
  pub keeps : (clock : List Moment) (place : ℕ) (a : Answer) → a ≡ otherwise q → QuestionKept clock place q a
  pub endpoint : (e : EndpointState) → after_question e q ≡ e
  pub place : (clock : List Moment) (place : ℕ) → place_after clock place q ≡ place

pub other_jitter : IsOther question.Jitter
other_jitter = record { answers = λ e a. tt; keeps = λ clock place a h. h; endpoint = λ e. refl; place = λ clock place. refl }

pub other_read : (path : List ℕ) → IsOther (question.Read path)
other_read path = record { answers = λ e a. tt; keeps = λ clock place a h. h; endpoint = λ e. refl; place = λ clock place. refl }

pub other_write : (path bytes : List ℕ) → IsOther (question.Write path bytes)
other_write path bytes = record { answers = λ e a. tt; keeps = λ clock place a h. h; endpoint = λ e. refl; place = λ clock place. refl }

pub other_run : (command : List ℕ) → IsOther (question.Run command)
other_run command = record { answers = λ e a. tt; keeps = λ clock place a h. h; endpoint = λ e. refl; place = λ clock place. refl }

pub other_look_up : (host : List ℕ) → IsOther (question.LookUp host)
other_look_up host = record { answers = λ e a. tt; keeps = λ clock place a h. h; endpoint = λ e. refl; place = λ clock place. refl }

pub other_send : (r : Request) → (IsServed r → ⊥) → IsOther (question.Send r)
other_send (request.Http call) n = absurd (n tt)
other_send (request.MetadataToken call) n = absurd (n tt)
other_send (request.MetadataGet call) n = absurd (n tt)
other_send (request.AssumeRole call) n = record { answers = λ e a. tt; keeps = λ clock place a h. h; endpoint = λ e. refl; place = λ clock place. refl }
other_send (request.AssumeRoleWithWebIdentity call) n = record { answers = λ e a. tt; keeps = λ clock place a h. h; endpoint = λ e. refl; place = λ clock place. refl }
other_send (request.GetRoleCredentials call) n = record { answers = λ e a. tt; keeps = λ clock place a h. h; endpoint = λ e. refl; place = λ clock place. refl }
other_send (request.CreateToken call) n = record { answers = λ e a. tt; keeps = λ clock place a h. h; endpoint = λ e. refl; place = λ clock place. refl }
other_send (request.CreateOAuth2Token call) n = record { answers = λ e a. tt; keeps = λ clock place a h. h; endpoint = λ e. refl; place = λ clock place. refl }

no_item : (n : ℕ) → slice_get {X = Answer} [] n ≡ None
no_item zero = refl
no_item (suc n) = refl

-- without an answer at hand the question is answered as where none is left
unanswered_is : (h : Handed) (q : Question) (a : Answer) → h.answers ≡ [] → IsGiven (slice_get h.answers h.used) q a → a ≡ otherwise q
unanswered_is h q a none is = subst (λ o. IsGiven o q a) (ap (λ l. slice_get l h.used) none ∙ no_item h.used) is

module _ (endpoint : EndpointState) (clock : List Moment) (place first_given first_place : ℕ) (was : DevicesState) where
  -- all that is not the clock's and not the endpoint's
  module _ (h k : Handed) (view : devices_of endpoint clock place h.faults first_given first_place ≡ was) (none : h.answers ≡ []) where
    other_by : (q : Question) (o : Option Answer) → IsOther q → HandedOut h k q o → Asked h.faults k.faults (handed.Allows h) (handed.Allows k) (handed.Stands h) (handed.Stands k) q o →
        Asks (devices_of endpoint clock place h.faults first_given first_place) (devices_of endpoint clock place k.faults first_given first_place) q o
    other_by q None other out asked = subst (λ x. Asks (devices_of endpoint clock place h.faults first_given first_place) (devices_of endpoint clock place x.faults first_given first_place) q None) (sym out) (unchanged (devices_of endpoint clock place h.faults first_given first_place) q)
    other_by q (Some a) other out asked =
        asked_of (devices_of endpoint clock place h.faults first_given first_place) (devices_of endpoint clock place k.faults first_given first_place) q a (record {
          answers = other.answers endpoint a;
          keeps = other.keeps clock place a (unanswered_is h q a none out.is);
          endpoint = sym (other.endpoint endpoint);
          place = sym (other.place clock place);
          faults = out.faults;
          clock = refl;
          first_given = refl;
          first_place = refl;
        }) asked.fits asked.counted

    pub other_asked : (q : Question) (o : Option Answer) → IsOther q → HandedOut h k q o → Asked h.faults k.faults (handed.Allows h) (handed.Allows k) (handed.Stands h) (handed.Stands k) q o →
        Asks was (devices_of endpoint clock place k.faults first_given first_place) q o
    other_asked q o other out asked = from_view was (devices_of endpoint clock place h.faults first_given first_place) (devices_of endpoint clock place k.faults first_given first_place) q o view (other_by q o other out asked)

  module _ (faults : Faults) (view : devices_of endpoint clock place faults first_given first_place ≡ was) where
    abbrev here : DevicesState
    here = devices_of endpoint clock place faults first_given first_place

    -- the clock
    pub clock_asked : (m : Moment) (next : ℕ) → m ≡ reading_at clock place → next ≡ step place (length clock) → pos 0 ≤ℤ m.seconds → Asks was (devices_of endpoint clock next faults first_given first_place) question.Now (Some (answer.Moment m))
    clock_asked m next is further fits =
        from_view was here (devices_of endpoint clock next faults first_given first_place) question.Now (Some (answer.Moment m)) view
        (asked_of here (devices_of endpoint clock next faults first_given first_place) question.Now (answer.Moment m)
        (record { answers = tt; keeps = ap answer.Moment is; endpoint = refl; place = further; faults = refl; clock = refl; first_given = refl; first_place = refl })
        fits (counted_now m faults))

    -- the endpoint
    replied : (r : Request) (sent : HttpReply) → IsReply endpoint r sent → AnswersRequest endpoint r (answer.Replied (reply.Http sent))
    replied (request.Http call) sent h = record { sent = sent; is = refl; replies = h }
    replied (request.MetadataToken call) sent h = record { sent = sent; is = refl; replies = h }
    replied (request.MetadataGet call) sent h = record { sent = sent; is = refl; replies = h }
    replied (request.AssumeRole call) sent h = tt
    replied (request.AssumeRoleWithWebIdentity call) sent h = tt
    replied (request.GetRoleCredentials call) sent h = tt
    replied (request.CreateToken call) sent h = tt
    replied (request.CreateOAuth2Token call) sent h = tt

    kept : (r : Request) (sent : HttpReply) → IsReply endpoint r sent → RequestKept r (answer.Replied (reply.Http sent))
    kept (request.Http call) sent h = tt
    kept (request.MetadataToken call) sent h = tt
    kept (request.MetadataGet call) sent h = tt
    kept (request.AssumeRole call) sent h = absurd h
    kept (request.AssumeRoleWithWebIdentity call) sent h = absurd h
    kept (request.GetRoleCredentials call) sent h = absurd h
    kept (request.CreateToken call) sent h = absurd h
    kept (request.CreateOAuth2Token call) sent h = absurd h

    fitting : (r : Request) (sent : HttpReply) → IsReply endpoint r sent → Fits (question.Send r) (answer.Replied (reply.Http sent))
    fitting (request.Http call) sent h = tt
    fitting (request.MetadataToken call) sent h = tt
    fitting (request.MetadataGet call) sent h = tt
    fitting (request.AssumeRole call) sent h = absurd h
    fitting (request.AssumeRoleWithWebIdentity call) sent h = absurd h
    fitting (request.GetRoleCredentials call) sent h = absurd h
    fitting (request.CreateToken call) sent h = absurd h
    fitting (request.CreateOAuth2Token call) sent h = absurd h

    reply_asked : (r : Request) (sent : HttpReply) (next : EndpointState) → IsReply endpoint r sent → next ≡ after_request endpoint r →
        Asks was (devices_of next clock place faults first_given first_place) (question.Send r) (Some (answer.Replied (reply.Http sent)))
    reply_asked r sent next is after =
        from_view was here (devices_of next clock place faults first_given first_place) (question.Send r) (Some (answer.Replied (reply.Http sent))) view
        (asked_of here (devices_of next clock place faults first_given first_place) (question.Send r) (answer.Replied (reply.Http sent))
        (record { answers = replied r sent is; keeps = kept r sent is; endpoint = after; place = refl; faults = refl; clock = refl; first_given = refl; first_place = refl })
        (fitting r sent is) (counted_reply r (reply.Http sent) faults))

    pub endpoint_asked : (r : Request) (next : EndpointState) (o : Option Answer) → RepliesBy endpoint next r o → Asks was (devices_of next clock place faults first_given first_place) (question.Send r) o
    endpoint_asked r next None same =
        from_view was here (devices_of next clock place faults first_given first_place) (question.Send r) None view
        (subst (λ e. Asks here (devices_of e clock place faults first_given first_place) (question.Send r) None) (sym same) (unchanged here (question.Send r)))
    endpoint_asked r next (Some a) h =
        subst (λ x. Asks was (devices_of next clock place faults first_given first_place) (question.Send r) (Some x)) (sym h.0.is) (reply_asked r h.0.sent next h.0.replies h.1)
