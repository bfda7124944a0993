-- Stretches of a journal, one after the other.
use Rattle.std.proofs.Common.{◌≡◌, ℕ, List, [], ◌∷◌, ◌++◌, refl}
use Rattle.cfg_base.specs.Moment.{Moment}
use Rattle.cfg_world.specs.Fits.{Pair}
use Rattle.cfg_endpoint.specs.Endpoints.{EndpointState}
use Rattle.cfg_endpoint.specs.Serves.{after_question, Serves, after_questions}
use Rattle.cfg_endpoint.specs.Devices.{place_after, Keeps, places_after}

pub serves_split : (e : EndpointState) (part rest : List Pair) → Serves e (part ++ rest) → Serves e part × Serves (after_questions e part) rest
serves_split e [] rest h = (tt, h)
serves_split e (x ∷ part) rest h = let r = serves_split (after_question e x.0) part rest h.1 in ((h.0, r.0), r.1)

pub serves_join : (e : EndpointState) (part rest : List Pair) → Serves e part → Serves (after_questions e part) rest → Serves e (part ++ rest)
serves_join e [] rest h k = k
serves_join e (x ∷ part) rest h k = (h.0, serves_join (after_question e x.0) part rest h.1 k)

pub after_both : (e : EndpointState) (part rest : List Pair) → after_questions e (part ++ rest) ≡ after_questions (after_questions e part) rest
after_both e [] rest = refl
after_both e (x ∷ part) rest = after_both (after_question e x.0) part rest

module _ (clock : List Moment) where
  pub keeps_split : (place : ℕ) (part rest : List Pair) → Keeps clock place (part ++ rest) → Keeps clock place part × Keeps clock (places_after clock place part) rest
  keeps_split place [] rest h = (tt, h)
  keeps_split place (x ∷ part) rest h = let r = keeps_split (place_after clock place x.0) part rest h.1 in ((h.0, r.0), r.1)

  pub keeps_join : (place : ℕ) (part rest : List Pair) → Keeps clock place part → Keeps clock (places_after clock place part) rest → Keeps clock place (part ++ rest)
  keeps_join place [] rest h k = k
  keeps_join place (x ∷ part) rest h k = (h.0, keeps_join (place_after clock place x.0) part rest h.1 k)

  pub places_both : (place : ℕ) (part rest : List Pair) → places_after clock place (part ++ rest) ≡ places_after clock (places_after clock place part) rest
  places_both place [] rest = refl
  places_both place (x ∷ part) rest = places_both (place_after clock place x.0) part rest
