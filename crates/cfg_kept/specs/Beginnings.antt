-- How far a tree has come.
use Rattle.std.specs.Prelude.{◌≡◌, List, ◌++◌, Option, ◌⊎◌}
use Rattle.cfg_world.specs.declared.ask.Question.{Question}
use Rattle.cfg_world.specs.Fits.{Pair}
use Rattle.cfg_kept.specs.Kinds.{Value, States}
use Rattle.cfg_kept.specs.KeptInquiry.{KeptInquiry, Runs, Asks, Begins}

-- One list is a prefix of the other.
abbrev pub IsPrefix : {A : Type 0} → List A → List A → Type 0
IsPrefix {A} one other = (rest : List A) × (other ≡ one ++ rest)

-- Found values and a journal that go on as others, and further.
pub record GoesOn (found : List Value) (journal : List Pair) (more : List Value) (longer : List Pair) : Type 0 where
  pub finds : IsPrefix found more
  pub asks : IsPrefix journal longer

-- The tree comes to an end over this journal.
abbrev pub IsWhole : {R : Type 0} → KeptInquiry R → Option States → List Pair → Type 0
IsWhole {R} tree old journal = (found : List Value) × (out : R) × (new : Option States) × Runs tree old found journal out new

-- After this journal the tree asks this question next.
abbrev pub IsNext : {R : Type 0} → KeptInquiry R → Option States → List Pair → Question → Type 0
IsNext tree old journal question = (found : List Value) × (new : Option States) × Asks tree old found journal question new

-- After this journal the tree asks exactly one question next.
pub record AsksOne {R : Type 0} (tree : KeptInquiry R) (old : Option States) (journal : List Pair) : Type 0 where
  pub question : Question
  pub asked : IsNext tree old journal question
  pub alone : (other : Question) → IsNext tree old journal other → other ≡ question
  pub unfinished : IsWhole tree old journal → ⊥

-- The first of two trees ran whole, and the second, by its outcome, has begun behind it.
pub record BeginsBehind {A B : Type 0} (first : KeptInquiry A) (second : A → KeptInquiry B) (old : Option States) (found : List Value) (journal : List Pair) (new : Option States) : Type 0 where
  pub outcome : A
  pub middle : Option States
  pub found_before : List Value
  pub found_behind : List Value
  pub part : List Pair
  pub rest : List Pair
  pub finds : found ≡ found_before ++ found_behind
  pub parts : journal ≡ part ++ rest
  pub runs : Runs first old found_before part outcome middle
  pub begins : Begins (second outcome) middle found_behind rest new

-- The first of two trees has begun; or it ran whole, and the second has begun behind it.
abbrev pub BeginsInTurn : {A B : Type 0} → KeptInquiry A → (A → KeptInquiry B) → Option States → List Value → List Pair → Option States → Type 0
BeginsInTurn first second old found journal new = Begins first old found journal new ⊎ BeginsBehind first second old found journal new
