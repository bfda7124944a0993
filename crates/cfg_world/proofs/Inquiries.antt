-- How calls that follow inquiries are put together.
use Rattle.std.proofs.Common.{◌≡◌, List, [], ◌∷◌, ◌++◌, Option, Some, None, IfSome, refl, sym, ◌∙◌, ap, append_assoc, append-nil}
use Rattle.cfg_world.specs.declared.ask.Question.{Question}
use Rattle.cfg_world.specs.declared.asking.Asking.{Ghosts}
use Rattle.cfg_world.specs.Fits.{Pair, EachFits}
use Rattle.cfg_world.specs.Inquiry.{Inquiry, Done, Ask, Reads, AsksNext, Begun, after}
use Rattle.cfg_world.specs.Follows.{Ends, Waits, Breaks}
use Rattle.cfg_world.proofs.Counts.{Same-refl, Same-trans, StandsOn-none, StandsOn-then, Counted-none, Counted-then}

pub reads_after : {A B : Type 0} (p : Inquiry A) (f : A → Inquiry B) (J K : List Pair) (x : A) (out : B) →
    Reads p J x → Reads (f x) K out → Reads (after p f) (J ++ K) out
reads_after (Done r) f [] K x out h k = rw h k
reads_after (Done r) f (e ∷ J) K x out h k = absurd h
reads_after (Ask q next) f [] K x out h k = absurd h
reads_after (Ask q next) f (e ∷ J) K x out h k = (h.0, reads_after (next e.1) f J K x out h.1 k)

pub asks_after : {A B : Type 0} (p : Inquiry A) (f : A → Inquiry B) (J K : List Pair) (x : A) (q : Question) →
    Reads p J x → AsksNext (f x) K q → AsksNext (after p f) (J ++ K) q
asks_after (Done r) f [] K x q h k = rw h k
asks_after (Done r) f (e ∷ J) K x q h k = absurd h
asks_after (Ask asked next) f [] K x q h k = absurd h
asks_after (Ask asked next) f (e ∷ J) K x q h k = (h.0, asks_after (next e.1) f J K x q h.1 k)

pub begun_after : {A B : Type 0} (p : Inquiry A) (f : A → Inquiry B) (J K : List Pair) (x : A) →
    Reads p J x → Begun (f x) K → Begun (after p f) (J ++ K)
begun_after (Done r) f [] K x h k = rw h k
begun_after (Done r) f (e ∷ J) K x h k = absurd h
begun_after (Ask asked next) f [] K x h k = absurd h
begun_after (Ask asked next) f (e ∷ J) K x h k = (h.0, begun_after (next e.1) f J K x h.1 k)

-- what the first inquiry asks next, both ask next
pub asks_first : {A B : Type 0} (p : Inquiry A) (f : A → Inquiry B) (J : List Pair) (q : Question) → AsksNext p J q → AsksNext (after p f) J q
asks_first (Done r) f J q h = absurd h
asks_first (Ask asked next) f [] q h = h
asks_first (Ask asked next) f (e ∷ J) q h = (h.0, asks_first (next e.1) f J q h.1)

-- any inquiry has begun where nothing was asked
pub begun_here : {B : Type 0} (p : Inquiry B) → Begun p []
begun_here (Done r) = tt
begun_here (Ask asked next) = tt

pub begun_first : {A B : Type 0} (p : Inquiry A) (f : A → Inquiry B) (J : List Pair) → Begun p J → Begun (after p f) J
begun_first (Done r) f [] h = begun_here (f r)
begun_first (Done r) f (e ∷ J) h = absurd h
begun_first (Ask asked next) f [] h = tt
begun_first (Ask asked next) f (e ∷ J) h = (h.0, begun_first (next e.1) f J h.1)

asks_open_after : {A B : Type 0} (p : Inquiry A) (f : A → Inquiry B) (J K : List Pair) (x : A) (left : Option Question) →
    Reads p J x → IfSome left (AsksNext (f x) K) → IfSome left (AsksNext (after p f) (J ++ K))
asks_open_after p f J K x None h k = k
asks_open_after p f J K x (Some q) h k = asks_after p f J K x q h k

asks_open_first : {A B : Type 0} (p : Inquiry A) (f : A → Inquiry B) (J : List Pair) (left : Option Question) →
    IfSome left (AsksNext p J) → IfSome left (AsksNext (after p f) J)
asks_open_first p f J None k = k
asks_open_first p f J (Some q) k = asks_first p f J q k

fits_append : (one other : List Pair) → EachFits one → EachFits other → EachFits (one ++ other)
fits_append [] other h k = k
fits_append (e ∷ one) other h k = (h.0, fits_append one other h.1 k)

module _ {W : Type 0} {w : Ghosts W} where
  -- one call after another
  pub ends_after : {A B : Type 0} {p : Inquiry A} (f : A → Inquiry B) {old mid new : W} {x : A} {out : B} →
      Ends w p old mid x → Ends w (f x) mid new out → Ends w (after p f) old new out
  ends_after {p = p} f {old = old} {mid = mid} {new = new} {x = x} {out = out} a b = record {
    part = a.part ++ b.part;
    grows = b.grows ∙ ap (λ t. t ++ b.part) a.grows ∙ append_assoc (w.journal old) a.part b.part;
    fits = fits_append a.part b.part a.fits b.fits;
    made = b.made ∙ a.made;
    same = Same-trans a.same b.same;
    counted = Counted-then a.counted b.counted;
    stands = StandsOn-then (w.stands old) (w.stands mid) (w.stands new) a.part b.part a.stands b.stands;
    reads = reads_after p f a.part b.part x out a.reads b.reads;
  }

  pub waits_after : {A B : Type 0} {p : Inquiry A} (f : A → Inquiry B) {old mid new : W} {x : A} →
      Ends w p old mid x → Waits w (f x) mid new → Waits w (after p f) old new
  waits_after {p = p} f {old = old} {mid = mid} {new = new} {x = x} a b = record {
    part = a.part ++ b.part;
    grows = b.grows ∙ ap (λ t. t ++ b.part) a.grows ∙ append_assoc (w.journal old) a.part b.part;
    fits = fits_append a.part b.part a.fits b.fits;
    made = b.made ∙ a.made;
    same = Same-trans a.same b.same;
    counted = Counted-then a.counted b.counted;
    stands = StandsOn-then (w.stands old) (w.stands mid) (w.stands new) a.part b.part a.stands b.stands;
    asks = asks_open_after p f a.part b.part x (w.open_question new) a.reads b.asks;
    is_open = b.is_open;
  }

  pub waits_first : {A B : Type 0} {p : Inquiry A} (f : A → Inquiry B) {old new : W} → Waits w p old new → Waits w (after p f) old new
  waits_first {p = p} f {new = new} b = record {
    part = b.part;
    grows = b.grows;
    fits = b.fits;
    made = b.made;
    same = b.same;
    counted = b.counted;
    stands = b.stands;
    asks = asks_open_first p f b.part (w.open_question new) b.asks;
    is_open = b.is_open;
  }

  pub breaks_after : {A B : Type 0} {p : Inquiry A} (f : A → Inquiry B) {old mid new : W} {x : A} →
      Ends w p old mid x → Breaks w (f x) mid new → Breaks w (after p f) old new
  breaks_after {p = p} f {old = old} {x = x} a b = record {
    part = a.part ++ b.part;
    grows = b.grows ∙ ap (λ t. t ++ b.part) a.grows ∙ append_assoc (w.journal old) a.part b.part;
    fits = fits_append a.part b.part a.fits b.fits;
    made = b.made ∙ a.made;
    same = Same-trans a.same b.same;
    counted = Counted-then a.counted b.counted;
    begun = begun_after p f a.part b.part x a.reads b.begun;
  }

  pub breaks_first : {A B : Type 0} {p : Inquiry A} (f : A → Inquiry B) {old new : W} → Breaks w p old new → Breaks w (after p f) old new
  breaks_first {p = p} f b = record { part = b.part; grows = b.grows; fits = b.fits; made = b.made; same = b.same; counted = b.counted; begun = begun_first p f b.part b.begun }

  pub ends_done : {A : Type 0} {r : A} {old : W} → Ends w (Done r) old old r
  ends_done {old = old} = record { part = []; grows = sym (append-nil (w.journal old)); fits = tt; made = refl; same = Same-refl _; counted = Counted-none _; stands = StandsOn-none (w.stands old); reads = refl }

  -- where nothing was asked yet
  pub breaks_here : {A : Type 0} {p : Inquiry A} {old : W} → Breaks w p old old
  breaks_here {p = p} {old = old} = record { part = []; grows = sym (append-nil (w.journal old)); fits = tt; made = refl; same = Same-refl _; counted = Counted-none _; begun = begun_here p }

pub ruleset asking_steps = (ends_after, waits_after, waits_first, breaks_after, breaks_first, ends_done, breaks_here)

-- The inquiry led from old to mid, and another is left: what the rest does, the whole does.
pub record Leads {W R : Type 0} (w : Ghosts W) (inquiry : Inquiry R) (old mid : W) (left : Inquiry R) : Type 0 where
  pub ends : (new : W) (out : R) → Ends w left mid new out → Ends w inquiry old new out
  pub waits : (new : W) → Waits w left mid new → Waits w inquiry old new
  pub breaks : (new : W) → Breaks w left mid new → Breaks w inquiry old new

module _ {W : Type 0} {w : Ghosts W} where
  pub leads_start : {R : Type 0} {p : Inquiry R} {old : W} → Leads w p old old p
  leads_start = record { ends = λ new out h. h; waits = λ new h. h; breaks = λ new h. h }

  pub leads_after : {R A : Type 0} {inquiry : Inquiry R} {old mid new : W} {p : Inquiry A} (f : A → Inquiry R) {x : A} →
      Leads w inquiry old mid (after p f) → Ends w p mid new x → Leads w inquiry old new (f x)
  leads_after f a b = record {
    ends = λ last out h. a.ends last out (ends_after f b h);
    waits = λ last h. a.waits last (waits_after f b h);
    breaks = λ last h. a.breaks last (breaks_after f b h);
  }

  pub ends_left : {R : Type 0} {inquiry : Inquiry R} {old mid new : W} {left : Inquiry R} {out : R} → Leads w inquiry old mid left → Ends w left mid new out → Ends w inquiry old new out
  ends_left a b = a.ends _ _ b

  pub waits_left : {R : Type 0} {inquiry : Inquiry R} {old mid new : W} {left : Inquiry R} → Leads w inquiry old mid left → Waits w left mid new → Waits w inquiry old new
  waits_left a b = a.waits _ b

  pub breaks_left : {R : Type 0} {inquiry : Inquiry R} {old mid new : W} {left : Inquiry R} → Leads w inquiry old mid left → Breaks w left mid new → Breaks w inquiry old new
  breaks_left a b = a.breaks _ b

pub ruleset loop_steps = (leads_start, ends_left, waits_left, breaks_left, asking_steps)

-- The parts of one inquiry after another.
pub record Split {A B : Type 0} (p : Inquiry A) (f : A → Inquiry B) (journal : List Pair) (out : B) : Type 0 where
  pub middle : A
  pub part : List Pair
  pub rest : List Pair
  pub parts : journal ≡ part ++ rest
  pub first : Reads p part middle
  pub then : Reads (f middle) rest out

pub split_after : {A B : Type 0} (p : Inquiry A) (f : A → Inquiry B) (journal : List Pair) (out : B) → Reads (after p f) journal out → Split p f journal out
split_after (Done x) f journal out h = record { middle = x; part = []; rest = journal; parts = refl; first = refl; then = h }
split_after (Ask q next) f [] out h = absurd h
split_after (Ask q next) f (e ∷ journal) out h =
    let s = split_after (next e.1) f journal out h.1 in
    record { middle = s.middle; part = e ∷ s.part; rest = s.rest; parts = ap (λ x. e ∷ x) s.parts; first = (h.0, s.first); then = s.then }
