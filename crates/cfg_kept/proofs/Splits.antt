-- The parts of one tree after another, and of a tree that only asks.
use Rattle.std.proofs.Common.{◌≡◌, List, [], ◌∷◌, ◌++◌, Option, None, refl, sym, ap, subst}
use Rattle.cfg_world.specs.Fits.{Pair}
use Rattle.cfg_world.specs.Inquiry as low
use Rattle.cfg_world.specs.Inquiry.{Inquiry, Done, Ask}
use Rattle.cfg_kept.specs.Kinds.{Value, States}
use Rattle.cfg_kept.specs.KeptInquiry.{KeptInquiry, Gives, Puts, Finds, Leaves, Runs, Reads, leave, lift, onwards}
use Rattle.cfg_kept.proofs.Trees.{lift_runs}

-- The parts of one tree after another, from these kept states to those.
pub record RunSplit {A B : Type 0} (p : KeptInquiry A) (f : A → KeptInquiry B) (old : Option States) (found : List Value) (journal : List Pair) (out : B) (new : Option States) : Type 0 where
  pub middle : A
  pub kept : Option States
  pub found_first : List Value
  pub found_then : List Value
  pub part : List Pair
  pub rest : List Pair
  pub finds : found ≡ found_first ++ found_then
  pub parts : journal ≡ part ++ rest
  pub first : Runs p old found_first part middle kept
  pub then : Runs (f middle) kept found_then rest out new

pub split_runs : {A B : Type 0} (p : KeptInquiry A) (f : A → KeptInquiry B) (old new : Option States) (found : List Value) (journal : List Pair) (out : B) → Runs (onwards p f) old found journal out new → RunSplit p f old found journal out new
split_runs (Gives x) f old new found journal out h = record { middle = x; kept = old; found_first = []; found_then = found; part = []; rest = journal; finds = refl; parts = refl; first = (refl, refl); then = h }
split_runs (Puts q n) f old new found [] out h = absurd h
split_runs (Puts q n) f old new found (e ∷ journal) out h = let r = split_runs (n e.1) f old new found journal out h.1 in
    record { middle = r.middle; kept = r.kept; found_first = r.found_first; found_then = r.found_then; part = e ∷ r.part; rest = r.rest; finds = r.finds; parts = ap (λ x. e ∷ x) r.parts; first = (h.0, r.first); then = r.then }
split_runs (Finds spot n) f old new [] journal out h = absurd h
split_runs (Finds spot n) f old new (g ∷ found) journal out h = let r = split_runs (n g) f old new found journal out h.2 in
    record { middle = r.middle; kept = r.kept; found_first = g ∷ r.found_first; found_then = r.found_then; part = r.part; rest = r.rest; finds = ap (λ x. g ∷ x) r.finds; parts = r.parts; first = (h.0, h.1, r.first); then = r.then }
split_runs (Leaves v p) f old new found journal out h = let r = split_runs p f (leave old v) new found journal out h in
    record { middle = r.middle; kept = r.kept; found_first = r.found_first; found_then = r.found_then; part = r.part; rest = r.rest; finds = r.finds; parts = r.parts; first = r.first; then = r.then }

-- kept states that are not told stay untold
pub untold : {R : Type 0} (p : KeptInquiry R) (new : Option States) (found : List Value) (journal : List Pair) (out : R) → Runs p None found journal out new → new ≡ None
untold (Gives r) new [] [] out h = sym h.1
untold (Gives r) new [] (e ∷ journal) out h = absurd h
untold (Gives r) new (f ∷ found) journal out h = absurd h
untold (Puts q n) new found [] out h = absurd h
untold (Puts q n) new found (e ∷ journal) out h = untold (n e.1) new found journal out h.1
untold (Finds spot n) new [] journal out h = absurd h
untold (Finds spot n) new (f ∷ found) journal out h = untold (n f) new found journal out h.2
untold (Leaves v p) new found journal out h = untold p new found journal out h

-- The parts of one tree after another, whoever keeps the values.
pub record Split {A B : Type 0} (p : KeptInquiry A) (f : A → KeptInquiry B) (found : List Value) (journal : List Pair) (out : B) : Type 0 where
  pub middle : A
  pub found_first : List Value
  pub found_then : List Value
  pub part : List Pair
  pub rest : List Pair
  pub finds : found ≡ found_first ++ found_then
  pub parts : journal ≡ part ++ rest
  pub first : Reads p found_first part middle
  pub then : Reads (f middle) found_then rest out

pub split_onwards : {A B : Type 0} (p : KeptInquiry A) (f : A → KeptInquiry B) (found : List Value) (journal : List Pair) (out : B) → Reads (onwards p f) found journal out → Split p f found journal out
split_onwards p f found journal out h =
    let r = split_runs p f None None found journal out h in
    let none = untold p r.kept r.found_first r.part r.middle r.first in
    record {
      middle = r.middle;
      found_first = r.found_first;
      found_then = r.found_then;
      part = r.part;
      rest = r.rest;
      finds = r.finds;
      parts = r.parts;
      first = subst (λ k. Runs p None r.found_first r.part r.middle k) none r.first;
      then = subst (λ k. Runs (f r.middle) k r.found_then r.rest out None) none r.then;
    }

-- a tree that only asks finds nothing, and leaves what is kept as it was
pub lowered_run : {R : Type 0} (p : Inquiry R) (old new : Option States) (found : List Value) (journal : List Pair) (out : R) → Runs (lift p) old found journal out new → (found ≡ []) × (old ≡ new) × low.Reads p journal out
lowered_run (Done r) old new [] [] out h = (refl, h.1, h.0)
lowered_run (Done r) old new [] (e ∷ journal) out h = absurd h
lowered_run (Done r) old new (f ∷ found) journal out h = absurd h
lowered_run (Ask q n) old new found [] out h = absurd h
lowered_run (Ask q n) old new found (e ∷ journal) out h = let r = lowered_run (n e.1) old new found journal out h.1 in (r.0, r.1, (h.0, r.2))

pub lowered : {R : Type 0} (p : Inquiry R) (found : List Value) (journal : List Pair) (out : R) → Reads (lift p) found journal out → (found ≡ []) × low.Reads p journal out
lowered p found journal out h = let r = lowered_run p None None found journal out h in (r.0, r.2)

-- and reads as below
pub lifted : {R : Type 0} (p : Inquiry R) (journal : List Pair) (out : R) → low.Reads p journal out → Reads (lift p) [] journal out
lifted p journal out h = lift_runs p None journal out h

pub lifted_nothing : {R : Type 0} (p : Inquiry R) (found : List Value) (journal : List Pair) (out : R) → (found ≡ []) × low.Reads p journal out → Reads (lift p) found journal out
lifted_nothing p found journal out h = subst (λ f. Reads (lift p) f journal out) (sym h.0) (lifted p journal out h.1)
