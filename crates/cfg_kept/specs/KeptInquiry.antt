-- Trees of questions that also find kept values and leave others in their place.
use Rattle.std.specs.Prelude.{◌≡◌, List, [], ◌∷◌, Result, Ok, Err, Option, Some, None, ◌⊎◌}
use Rattle.cfg_world.specs.declared.ask.Question.{Question}
use Rattle.cfg_world.specs.declared.ask.Answer.{Answer}
use Rattle.cfg_world.specs.Fits.{Pair}
use Rattle.cfg_world.specs.Inquiry.{Inquiry, Done, Ask}
use Rattle.cfg_kept.specs.Kinds.{Spot, Value, States, spot_of, value_at, with_value}

-- A tree that gives an outcome; puts a question, and goes on by the answer; finds what is kept at a
-- spot, and goes on by this value; or leaves a value at its spot, and goes on.
pub data KeptInquiry (R : Type 0) : Type 0 where
  Gives : (outcome : R) → KeptInquiry R
  Puts : (question : Question) → (next : Answer → KeptInquiry R) → KeptInquiry R
  Finds : (spot : Spot) → (next : Value → KeptInquiry R) → KeptInquiry R
  Leaves : (value : Value) → (rest : KeptInquiry R) → KeptInquiry R

-- an inquiry that finds and leaves nothing
abbrev pub lift : {R : Type 0} → Inquiry R → KeptInquiry R
lift (Done outcome) = Gives outcome
lift (Ask question next) = Puts question (λ a. lift (next a))

-- one tree after another
abbrev pub onwards : {A B : Type 0} → KeptInquiry A → (A → KeptInquiry B) → KeptInquiry B
onwards (Gives x) f = f x
onwards (Puts question next) f = Puts question (λ a. onwards (next a) f)
onwards (Finds spot next) f = Finds spot (λ v. onwards (next v) f)
onwards (Leaves value rest) f = Leaves value (onwards rest f)

-- on goes an Ok; a refusal ends the tree
abbrev pub onwards_if_ok : {A B E : Type 0} → (A → KeptInquiry (Result B E)) → Result A E → KeptInquiry (Result B E)
onwards_if_ok f (Ok x) = f x
onwards_if_ok f (Err e) = Gives (Err e)

-- one tree after another, which goes on after an Ok alone
infixl 10 ◌>>=◌
abbrev pub ◌>>=◌ : {A B E : Type 0} → KeptInquiry (Result A E) → (A → KeptInquiry (Result B E)) → KeptInquiry (Result B E)
p >>= f = onwards p (onwards_if_ok f)

-- The value is the one that is kept at its spot, where the kept states are told.
abbrev pub StandsIn : Option States → Value → Type 0
StandsIn None value = Unit {0}
StandsIn (Some states) value = value ≡ value_at states (spot_of value)

-- the kept states, where they are told, with this value at its spot
abbrev pub leave : Option States → Value → Option States
leave None value = None
leave (Some states) value = Some (with_value states value)

-- From the kept states old, over these found values and this journal, and no more and no less, the
-- tree comes to this outcome and leaves the kept states new.
abbrev pub Runs : {R : Type 0} → KeptInquiry R → Option States → List Value → List Pair → R → Option States → Type 0
Runs (Gives r) old [] [] out new = (r ≡ out) × (old ≡ new)
Runs (Gives r) old [] (e ∷ journal) out new = ⊥
Runs (Gives r) old (f ∷ found) journal out new = ⊥
Runs (Puts q next) old found [] out new = ⊥
Runs (Puts q next) old found (e ∷ journal) out new = (e.0 ≡ q) × Runs (next e.1) old found journal out new
Runs (Finds spot next) old [] journal out new = ⊥
Runs (Finds spot next) old (f ∷ found) journal out new = (spot_of f ≡ spot) × StandsIn old f × Runs (next f) old found journal out new
Runs (Leaves value rest) old found journal out new = Runs rest (leave old value) found journal out new

-- After these found values and this journal the tree asks this question next. Until then it leaves
-- the kept states new.
abbrev pub Asks : {R : Type 0} → KeptInquiry R → Option States → List Value → List Pair → Question → Option States → Type 0
Asks (Gives r) old found journal asked new = ⊥
Asks (Puts q next) old [] [] asked new = (q ≡ asked) × (old ≡ new)
Asks (Puts q next) old (f ∷ found) [] asked new = ⊥
Asks (Puts q next) old found (e ∷ journal) asked new = (e.0 ≡ q) × Asks (next e.1) old found journal asked new
Asks (Finds spot next) old [] journal asked new = ⊥
Asks (Finds spot next) old (f ∷ found) journal asked new = (spot_of f ≡ spot) × StandsIn old f × Asks (next f) old found journal asked new
Asks (Leaves value rest) old found journal asked new = Asks rest (leave old value) found journal asked new

-- The found values and the journal are the tree's, so far. A value that it leaves after the last of
-- them may be left already, or not yet.
abbrev pub Begins : {R : Type 0} → KeptInquiry R → Option States → List Value → List Pair → Option States → Type 0
Begins (Gives r) old [] [] new = old ≡ new
Begins (Gives r) old [] (e ∷ journal) new = ⊥
Begins (Gives r) old (f ∷ found) journal new = ⊥
Begins (Puts q next) old [] [] new = old ≡ new
Begins (Puts q next) old (f ∷ found) [] new = ⊥
Begins (Puts q next) old found (e ∷ journal) new = (e.0 ≡ q) × Begins (next e.1) old found journal new
Begins (Finds spot next) old [] [] new = old ≡ new
Begins (Finds spot next) old [] (e ∷ journal) new = ⊥
Begins (Finds spot next) old (f ∷ found) journal new = (spot_of f ≡ spot) × StandsIn old f × Begins (next f) old found journal new
Begins (Leaves value rest) old found journal new = ((found ≡ []) × (journal ≡ []) × (old ≡ new)) ⊎ Begins rest (leave old value) found journal new

-- Over these found values, whoever keeps them, and this journal the tree comes to this outcome.
abbrev pub Reads : {R : Type 0} → KeptInquiry R → List Value → List Pair → R → Type 0
Reads p found journal out = Runs p None found journal out None

-- the values that the tree finds over this journal: each time what was last left at the spot, and at
-- first what old keeps there
abbrev pub found_by : {R : Type 0} → KeptInquiry R → States → List Pair → List Value
found_by (Gives r) old journal = []
found_by (Puts q next) old [] = []
found_by (Puts q next) old (e ∷ journal) = found_by (next e.1) old journal
found_by (Finds spot next) old journal = value_at old spot ∷ found_by (next (value_at old spot)) old journal
found_by (Leaves value rest) old journal = found_by rest (with_value old value) journal

-- what is kept after the tree over this journal
abbrev pub kept_after : {R : Type 0} → KeptInquiry R → States → List Pair → States
kept_after (Gives r) old journal = old
kept_after (Puts q next) old [] = old
kept_after (Puts q next) old (e ∷ journal) = kept_after (next e.1) old journal
kept_after (Finds spot next) old journal = kept_after (next (value_at old spot)) old journal
kept_after (Leaves value rest) old journal = kept_after rest (with_value old value) journal
