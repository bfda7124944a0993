-- Kept states that are told decide what is found and what is left.
use Rattle.std.proofs.Common.{◌≡◌, List, [], ◌∷◌, Option, Some, None, refl, sym, ap, ◌∙◌, subst, inr}
use Rattle.cfg_world.specs.Fits.{Pair}
use Rattle.cfg_kept.specs.declared.place.Place.TheVariants.{Chain, Named}
use Rattle.cfg_kept.specs.Kinds.{Spot, SsoSection, LoginSection, MetadataTokenOf, RetrievedOf, Value, SsoAt, LoginAt, MetadataTokenAt, RetrievedAt, States, spot_of, value_at, with_value}
use Rattle.cfg_kept.specs.KeptInquiry.{KeptInquiry, Gives, Puts, Finds, Leaves, Runs, Begins, Reads, StandsIn, leave, found_by, kept_after}

-- A run from states that are told finds what the definition says, and leaves what it says.
pub told : {R : Type 0} (p : KeptInquiry R) (old : States) (new : Option States) (found : List Value) (journal : List Pair) (out : R) →
    Runs p (Some old) found journal out new → (found ≡ found_by p old journal) × (new ≡ Some (kept_after p old journal)) × Reads p (found_by p old journal) journal out
told (Gives r) old new [] [] out h = (refl, sym h.1, (h.0, refl))
told (Gives r) old new [] (e ∷ journal) out h = absurd h
told (Gives r) old new (f ∷ found) journal out h = absurd h
told (Puts q n) old new found [] out h = absurd h
told (Puts q n) old new found (e ∷ journal) out h = let r = told (n e.1) old new found journal out h.1 in (r.0, r.1, (h.0, r.2))
told (Finds spot n) old new [] journal out h = absurd h
told (Finds spot n) old new (f ∷ found) journal out h =
    let same : f ≡ value_at old spot = h.1 ∙ ap (value_at old) h.0 in
    let r = told (n (value_at old spot)) old new found journal out (subst (λ v. Runs (n v) (Some old) found journal out new) same h.2) in
    (ap (λ x. x ∷ found) same ∙ ap (λ x. value_at old spot ∷ x) r.0, r.1, (ap spot_of (sym same) ∙ h.0, tt, r.2))
told (Leaves v p) old new found journal out h = told p (with_value old v) new found journal out h

-- What is read over the found values of the definition is a run from the states that are told.
pub read_told : {R : Type 0} (p : KeptInquiry R) (old : States) (journal : List Pair) (out : R) →
    Reads p (found_by p old journal) journal out → Runs p (Some old) (found_by p old journal) journal out (Some (kept_after p old journal))
read_told (Gives r) old [] out h = (h.0, refl)
read_told (Gives r) old (e ∷ journal) out h = absurd h
read_told (Puts q n) old [] out h = absurd h
read_told (Puts q n) old (e ∷ journal) out h = (h.0, read_told (n e.1) old journal out h.1)
read_told (Finds spot n) old journal out h = (h.0, ap (value_at old) (sym h.0), read_told (n (value_at old spot)) old journal out h.2)
read_told (Leaves v p) old journal out h = read_told p (with_value old v) journal out h

pub told_back : {R : Type 0} (p : KeptInquiry R) (old : States) (new : Option States) (found : List Value) (journal : List Pair) (out : R) →
    (found ≡ found_by p old journal) × (new ≡ Some (kept_after p old journal)) × Reads p (found_by p old journal) journal out → Runs p (Some old) found journal out new
told_back p old new found journal out h =
    subst (λ k. Runs p (Some old) found journal out k) (sym h.1)
    (subst (λ f. Runs p (Some old) f journal out (Some (kept_after p old journal))) (sym h.0) (read_told p old journal out h.2))

-- a whole run is a beginning
pub run_begins : {R : Type 0} (p : KeptInquiry R) (old new : Option States) (found : List Value) (journal : List Pair) (out : R) → Runs p old found journal out new → Begins p old found journal new
run_begins (Gives r) old new [] [] out h = h.1
run_begins (Gives r) old new [] (e ∷ journal) out h = absurd h
run_begins (Gives r) old new (f ∷ found) journal out h = absurd h
run_begins (Puts q n) old new found [] out h = absurd h
run_begins (Puts q n) old new found (e ∷ journal) out h = (h.0, run_begins (n e.1) old new found journal out h.1)
run_begins (Finds spot n) old new [] journal out h = absurd h
run_begins (Finds spot n) old new (f ∷ found) journal out h = (h.0, h.1, run_begins (n f) old new found journal out h.2)
run_begins (Leaves v p) old new found journal out h = inr (run_begins p (leave old v) new found journal out h)

-- what is kept at a spot is at this spot, and stands there
pub spot_at : (states : States) (spot : Spot) → spot_of (value_at states spot) ≡ spot
spot_at states SsoSection = refl
spot_at states LoginSection = refl
spot_at states (MetadataTokenOf place) = refl
spot_at states (RetrievedOf place) = refl

pub stands_at : (states : States) (spot : Spot) → value_at states spot ≡ value_at states (spot_of (value_at states spot))
stands_at states spot = ap (value_at states) (sym (spot_at states spot))

-- leaving what is kept there changes nothing
same_value : (states : States) (v : Value) → v ≡ value_at states (spot_of v) → with_value states v ≡ states
same_value states (SsoAt token last) e = ap (with_value states) e
same_value states (LoginAt token last) e = ap (with_value states) e
same_value states (MetadataTokenAt Chain token) e = ap (with_value states) e
same_value states (MetadataTokenAt Named token) e = ap (with_value states) e
same_value states (RetrievedAt Chain keys) e = ap (with_value states) e
same_value states (RetrievedAt Named keys) e = ap (with_value states) e

pub leaves_same : (kept : Option States) (v : Value) → StandsIn kept v → leave kept v ≡ kept
leaves_same None v h = refl
leaves_same (Some states) v h = ap Some (same_value states v h)
