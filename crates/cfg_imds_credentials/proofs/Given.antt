-- What was given, whoever keeps the values.
use Rattle.std.proofs.Common.{◌≡◌, List, [], ◌∷◌, ◌++◌, Option, refl, ap, ◌∙◌, append-nil}
use Rattle.cfg_world.specs.Fits.{Pair}
use Rattle.cfg_kept.specs.Kinds.{Value, States}
use Rattle.cfg_kept.specs.KeptInquiry.{KeptInquiry, Gives, Puts, Finds, Leaves, Runs, Reads, leave}

-- nothing is found or asked for a value that is given
pub given_is : {R : Type 0} (said out : R) (found : List Value) (part : List Pair) → Reads (Gives said) found part out → (found ≡ []) × (part ≡ []) × (said ≡ out)
given_is said out [] [] h = (refl, refl, h.0)
given_is said out [] (e ∷ part) h = absurd h
given_is said out (f ∷ found) part h = absurd h

-- a part that nothing follows
pub whole_part : {A : Type 0} (whole part rest : List A) → whole ≡ part ++ rest → rest ≡ [] → whole ≡ part
whole_part whole part rest parts none = parts ∙ ap (λ r. part ++ r) none ∙ append-nil part

-- a run reads the same, whoever keeps the values
pub run_reads : {R : Type 0} (p : KeptInquiry R) (old new : Option States) (found : List Value) (part : List Pair) (out : R) → Runs p old found part out new → Reads p found part out
run_reads (Gives r) old new [] [] out h = (h.0, refl)
run_reads (Gives r) old new [] (e ∷ part) out h = absurd h
run_reads (Gives r) old new (f ∷ found) part out h = absurd h
run_reads (Puts q n) old new found [] out h = absurd h
run_reads (Puts q n) old new found (e ∷ part) out h = (h.0, run_reads (n e.1) old new found part out h.1)
run_reads (Finds spot n) old new [] part out h = absurd h
run_reads (Finds spot n) old new (f ∷ found) part out h = (h.0, tt, run_reads (n f) old new found part out h.2)
run_reads (Leaves v p) old new found part out h = run_reads p (leave old v) new found part out h
