-- How trees are put together.
use Rattle.std.proofs.Common.{List, [], ◌∷◌, ◌++◌, Option, Some, None, IfSome, refl, subst, inl, inr}
use Rattle.cfg_world.specs.declared.ask.Question.{Question}
use Rattle.cfg_world.specs.Fits.{Pair}
use Rattle.cfg_world.specs.Inquiry as low
use Rattle.cfg_world.specs.Inquiry.{Inquiry, Done, Ask}
use Rattle.cfg_kept.specs.Kinds.{Value, States}
use Rattle.cfg_kept.specs.KeptInquiry.{KeptInquiry, Gives, Puts, Finds, Leaves, Runs, Asks, Begins, leave, lift, onwards}

pub runs_then : {A B : Type 0} (p : KeptInquiry A) (f : A → KeptInquiry B) (old mid new : Option States) (found more : List Value) (part rest : List Pair) (x : A) (out : B) →
    Runs p old found part x mid → Runs (f x) mid more rest out new → Runs (onwards p f) old (found ++ more) (part ++ rest) out new
runs_then (Gives r) f old mid new [] more [] rest x out h k = rw (h.0, h.1) k
runs_then (Gives r) f old mid new [] more (e ∷ part) rest x out h k = absurd h
runs_then (Gives r) f old mid new (g ∷ found) more part rest x out h k = absurd h
runs_then (Puts q n) f old mid new found more [] rest x out h k = absurd h
runs_then (Puts q n) f old mid new found more (e ∷ part) rest x out h k = (h.0, runs_then (n e.1) f old mid new found more part rest x out h.1 k)
runs_then (Finds spot n) f old mid new [] more part rest x out h k = absurd h
runs_then (Finds spot n) f old mid new (g ∷ found) more part rest x out h k = (h.0, h.1, runs_then (n g) f old mid new found more part rest x out h.2 k)
runs_then (Leaves v p) f old mid new found more part rest x out h k = runs_then p f (leave old v) mid new found more part rest x out h k

pub asks_then : {A B : Type 0} (p : KeptInquiry A) (f : A → KeptInquiry B) (old mid new : Option States) (found more : List Value) (part rest : List Pair) (x : A) (q : Question) →
    Runs p old found part x mid → Asks (f x) mid more rest q new → Asks (onwards p f) old (found ++ more) (part ++ rest) q new
asks_then (Gives r) f old mid new [] more [] rest x q h k = rw (h.0, h.1) k
asks_then (Gives r) f old mid new [] more (e ∷ part) rest x q h k = absurd h
asks_then (Gives r) f old mid new (g ∷ found) more part rest x q h k = absurd h
asks_then (Puts asked n) f old mid new found more [] rest x q h k = absurd h
asks_then (Puts asked n) f old mid new found more (e ∷ part) rest x q h k = (h.0, asks_then (n e.1) f old mid new found more part rest x q h.1 k)
asks_then (Finds spot n) f old mid new [] more part rest x q h k = absurd h
asks_then (Finds spot n) f old mid new (g ∷ found) more part rest x q h k = (h.0, h.1, asks_then (n g) f old mid new found more part rest x q h.2 k)
asks_then (Leaves v p) f old mid new found more part rest x q h k = asks_then p f (leave old v) mid new found more part rest x q h k

pub begins_then : {A B : Type 0} (p : KeptInquiry A) (f : A → KeptInquiry B) (old mid new : Option States) (found more : List Value) (part rest : List Pair) (x : A) →
    Runs p old found part x mid → Begins (f x) mid more rest new → Begins (onwards p f) old (found ++ more) (part ++ rest) new
begins_then (Gives r) f old mid new [] more [] rest x h k = rw (h.0, h.1) k
begins_then (Gives r) f old mid new [] more (e ∷ part) rest x h k = absurd h
begins_then (Gives r) f old mid new (g ∷ found) more part rest x h k = absurd h
begins_then (Puts asked n) f old mid new found more [] rest x h k = absurd h
begins_then (Puts asked n) f old mid new found more (e ∷ part) rest x h k = (h.0, begins_then (n e.1) f old mid new found more part rest x h.1 k)
begins_then (Finds spot n) f old mid new [] more part rest x h k = absurd h
begins_then (Finds spot n) f old mid new (g ∷ found) more part rest x h k = (h.0, h.1, begins_then (n g) f old mid new found more part rest x h.2 k)
begins_then (Leaves v p) f old mid new found more part rest x h k = inr (begins_then p f (leave old v) mid new found more part rest x h k)

pub asks_first : {A B : Type 0} (p : KeptInquiry A) (f : A → KeptInquiry B) (old mid : Option States) (found : List Value) (part : List Pair) (q : Question) → Asks p old found part q mid → Asks (onwards p f) old found part q mid
asks_first (Gives r) f old mid found part q h = absurd h
asks_first (Puts asked n) f old mid [] [] q h = h
asks_first (Puts asked n) f old mid (g ∷ found) [] q h = absurd h
asks_first (Puts asked n) f old mid found (e ∷ part) q h = (h.0, asks_first (n e.1) f old mid found part q h.1)
asks_first (Finds spot n) f old mid [] part q h = absurd h
asks_first (Finds spot n) f old mid (g ∷ found) part q h = (h.0, h.1, asks_first (n g) f old mid found part q h.2)
asks_first (Leaves v p) f old mid found part q h = asks_first p f (leave old v) mid found part q h

pub begins_here : {B : Type 0} (p : KeptInquiry B) (old : Option States) → Begins p old [] [] old
begins_here (Gives r) old = refl
begins_here (Puts q n) old = refl
begins_here (Finds spot n) old = refl
begins_here (Leaves v p) old = inl (refl, refl, refl)

pub begins_first : {A B : Type 0} (p : KeptInquiry A) (f : A → KeptInquiry B) (old mid : Option States) (found : List Value) (part : List Pair) → Begins p old found part mid → Begins (onwards p f) old found part mid
begins_first (Gives r) f old mid [] [] h = subst (λ t. Begins (f r) old [] [] t) h (begins_here (f r) old)
begins_first (Gives r) f old mid [] (e ∷ part) h = absurd h
begins_first (Gives r) f old mid (g ∷ found) part h = absurd h
begins_first (Puts asked n) f old mid [] [] h = h
begins_first (Puts asked n) f old mid (g ∷ found) [] h = absurd h
begins_first (Puts asked n) f old mid found (e ∷ part) h = (h.0, begins_first (n e.1) f old mid found part h.1)
begins_first (Finds spot n) f old mid [] [] h = h
begins_first (Finds spot n) f old mid [] (e ∷ part) h = absurd h
begins_first (Finds spot n) f old mid (g ∷ found) part h = (h.0, h.1, begins_first (n g) f old mid found part h.2)
begins_first (Leaves v p) f old mid found part (inl h) = inl h
begins_first (Leaves v p) f old mid found part (inr h) = inr (begins_first p f (leave old v) mid found part h)

-- a tree that only asks
pub lift_runs : {R : Type 0} (p : Inquiry R) (old : Option States) (part : List Pair) (out : R) → low.Reads p part out → Runs (lift p) old [] part out old
lift_runs (Done r) old [] out h = (h, refl)
lift_runs (Done r) old (e ∷ part) out h = absurd h
lift_runs (Ask q n) old [] out h = absurd h
lift_runs (Ask q n) old (e ∷ part) out h = (h.0, lift_runs (n e.1) old part out h.1)

pub lift_asks : {R : Type 0} (p : Inquiry R) (old : Option States) (part : List Pair) (q : Question) → low.AsksNext p part q → Asks (lift p) old [] part q old
lift_asks (Done r) old part q h = absurd h
lift_asks (Ask asked n) old [] q h = (h, refl)
lift_asks (Ask asked n) old (e ∷ part) q h = (h.0, lift_asks (n e.1) old part q h.1)

pub lift_begins : {R : Type 0} (p : Inquiry R) (old : Option States) (part : List Pair) → low.Begun p part → Begins (lift p) old [] part old
lift_begins (Done r) old [] h = refl
lift_begins (Done r) old (e ∷ part) h = absurd h
lift_begins (Ask asked n) old [] h = refl
lift_begins (Ask asked n) old (e ∷ part) h = (h.0, lift_begins (n e.1) old part h.1)

pub lift_open : {R : Type 0} (p : Inquiry R) (old : Option States) (part : List Pair) (left : Option Question) → IfSome left (low.AsksNext p part) → IfSome left (λ q. Asks (lift p) old [] part q old)
lift_open p old part None h = h
lift_open p old part (Some q) h = lift_asks p old part q h

pub open_then : {A B : Type 0} (p : KeptInquiry A) (f : A → KeptInquiry B) (old mid new : Option States) (found more : List Value) (part rest : List Pair) (x : A) (left : Option Question) →
    Runs p old found part x mid → IfSome left (λ q. Asks (f x) mid more rest q new) → IfSome left (λ q. Asks (onwards p f) old (found ++ more) (part ++ rest) q new)
open_then p f old mid new found more part rest x None h k = k
open_then p f old mid new found more part rest x (Some q) h k = asks_then p f old mid new found more part rest x q h k

pub open_first : {A B : Type 0} (p : KeptInquiry A) (f : A → KeptInquiry B) (old mid : Option States) (found : List Value) (part : List Pair) (left : Option Question) →
    IfSome left (λ q. Asks p old found part q mid) → IfSome left (λ q. Asks (onwards p f) old found part q mid)
open_first p f old mid found part None k = k
open_first p f old mid found part (Some q) k = asks_first p f old mid found part q k
