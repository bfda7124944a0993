use Rattle.std.specs.Prelude.{◌≡◌, List, [], ◌∷◌, Result, Ok, Err}
use Rattle.cfg_world.specs.declared.ask.Question.{Question}
use Rattle.cfg_world.specs.declared.ask.Answer.{Answer}
use Rattle.cfg_world.specs.Fits.{Pair}

-- A tree of questions: done with an outcome, or a question and what follows each answer.
pub data Inquiry (R : Type 0) : Type 0 where
  Done : (outcome : R) → Inquiry R
  Ask : (question : Question) → (next : Answer → Inquiry R) → Inquiry R

-- Over this journal, and no more and no less, the inquiry comes to this outcome.
abbrev pub Reads : {R : Type 0} → Inquiry R → List Pair → R → Type 0
Reads (Done r) [] out = r ≡ out
Reads (Done r) (e ∷ journal) out = ⊥
Reads (Ask q next) [] out = ⊥
Reads (Ask q next) (e ∷ journal) out = (e.0 ≡ q) × Reads (next e.1) journal out

-- After this journal the inquiry asks this question next.
abbrev pub AsksNext : {R : Type 0} → Inquiry R → List Pair → Question → Type 0
AsksNext (Done r) journal asked = ⊥
AsksNext (Ask q next) [] asked = q ≡ asked
AsksNext (Ask q next) (e ∷ journal) asked = (e.0 ≡ q) × AsksNext (next e.1) journal asked

-- The journal is the inquiry's, so far.
abbrev pub Begun : {R : Type 0} → Inquiry R → List Pair → Type 0
Begun (Done r) [] = Unit {0}
Begun (Done r) (e ∷ journal) = ⊥
Begun (Ask q next) [] = Unit {0}
Begun (Ask q next) (e ∷ journal) = (e.0 ≡ q) × Begun (next e.1) journal

-- one inquiry after another
abbrev pub after : {A B : Type 0} → Inquiry A → (A → Inquiry B) → Inquiry B
after (Done x) f = f x
after (Ask q next) f = Ask q (λ a. after (next a) f)

-- on goes an Ok; a refusal ends the inquiry
abbrev pub if_ok : {A B E : Type 0} → (A → Inquiry (Result B E)) → Result A E → Inquiry (Result B E)
if_ok f (Ok x) = f x
if_ok f (Err e) = Done (Err e)

-- one inquiry after another, which goes on after an Ok alone
infixl 10 ◌>>=◌
abbrev pub ◌>>=◌ : {A B E : Type 0} → Inquiry (Result A E) → (A → Inquiry (Result B E)) → Inquiry (Result B E)
p >>= f = after p (if_ok f)
