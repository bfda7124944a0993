-- How calls that follow trees are put together.
use Rattle.std.proofs.Common.{◌≡◌, List, [], ◌∷◌, ◌++◌, refl, sym, ◌∙◌, ap, append_assoc, append-nil}
use Rattle.cfg_world.specs.declared.asking.Asking.{Ghosts}
use Rattle.cfg_world.specs.Fits.{Pair, EachFits}
use Rattle.cfg_world.specs.Inquiry.{Inquiry}
use Rattle.cfg_world.specs.Follows.{Ends, Waits, Breaks}
use Rattle.cfg_world.proofs.Counts.{Same-refl, Same-trans, StandsOn-none, StandsOn-then, Counted-none, Counted-then}
use Rattle.cfg_kept.specs.KeptInquiry.{KeptInquiry, Gives, lift, onwards}
use Rattle.cfg_kept.specs.Holds.{Holdings, HoldsEnds, HoldsWaits, HoldsBreaks}
use Rattle.cfg_kept.proofs.Trees.{runs_then, open_then, open_first, begins_then, begins_first, begins_here, lift_runs, lift_open, lift_begins}

fits_append : (one other : List Pair) → EachFits one → EachFits other → EachFits (one ++ other)
fits_append [] other h k = k
fits_append (e ∷ one) other h k = (h.0, fits_append one other h.1 k)

module _ {W : Type 0} {w : Ghosts W} where
  -- one call after another
  pub holds_ends_then : {A B : Type 0} {p : KeptInquiry A} (f : A → KeptInquiry B) {old mid new : W} {before between later : Holdings} {x : A} {out : B} →
      HoldsEnds w p old before mid between x → HoldsEnds w (f x) mid between new later out → HoldsEnds w (onwards p f) old before new later out
  holds_ends_then {p = p} f {old = old} {mid = mid} {new = new} {before = before} {between = between} {later = later} {x = x} {out = out} a b = record {
    part = a.part ++ b.part;
    grows = b.grows ∙ ap (λ t. t ++ b.part) a.grows ∙ append_assoc (w.journal old) a.part b.part;
    fits = fits_append a.part b.part a.fits b.fits;
    made = b.made ∙ a.made;
    same = Same-trans a.same b.same;
    counted = Counted-then a.counted b.counted;
    stands = StandsOn-then (w.stands old) (w.stands mid) (w.stands new) a.part b.part a.stands b.stands;
    found = a.found ++ b.found;
    finds = b.finds ∙ ap (λ t. t ++ b.found) a.finds ∙ append_assoc before.found a.found b.found;
    runs = runs_then p f before.kept between.kept later.kept a.found b.found a.part b.part x out a.runs b.runs;
  }

  pub holds_waits_then : {A B : Type 0} {p : KeptInquiry A} (f : A → KeptInquiry B) {old mid new : W} {before between later : Holdings} {x : A} →
      HoldsEnds w p old before mid between x → HoldsWaits w (f x) mid between new later → HoldsWaits w (onwards p f) old before new later
  holds_waits_then {p = p} f {old = old} {mid = mid} {new = new} {before = before} {between = between} {later = later} {x = x} a b = record {
    part = a.part ++ b.part;
    grows = b.grows ∙ ap (λ t. t ++ b.part) a.grows ∙ append_assoc (w.journal old) a.part b.part;
    fits = fits_append a.part b.part a.fits b.fits;
    made = b.made ∙ a.made;
    same = Same-trans a.same b.same;
    counted = Counted-then a.counted b.counted;
    stands = StandsOn-then (w.stands old) (w.stands mid) (w.stands new) a.part b.part a.stands b.stands;
    found = a.found ++ b.found;
    finds = b.finds ∙ ap (λ t. t ++ b.found) a.finds ∙ append_assoc before.found a.found b.found;
    asks = open_then p f before.kept between.kept later.kept a.found b.found a.part b.part x (w.open_question new) a.runs b.asks;
    is_open = b.is_open;
  }

  pub holds_waits_first : {A B : Type 0} {p : KeptInquiry A} (f : A → KeptInquiry B) {old new : W} {before later : Holdings} → HoldsWaits w p old before new later → HoldsWaits w (onwards p f) old before new later
  holds_waits_first {p = p} f {new = new} {before = before} {later = later} b = record {
    part = b.part;
    grows = b.grows;
    fits = b.fits;
    made = b.made;
    same = b.same;
    counted = b.counted;
    stands = b.stands;
    found = b.found;
    finds = b.finds;
    asks = open_first p f before.kept later.kept b.found b.part (w.open_question new) b.asks;
    is_open = b.is_open;
  }

  pub holds_breaks_then : {A B : Type 0} {p : KeptInquiry A} (f : A → KeptInquiry B) {old mid new : W} {before between later : Holdings} {x : A} →
      HoldsEnds w p old before mid between x → HoldsBreaks w (f x) mid between new later → HoldsBreaks w (onwards p f) old before new later
  holds_breaks_then {p = p} f {old = old} {before = before} {between = between} {later = later} {x = x} a b = record {
    part = a.part ++ b.part;
    grows = b.grows ∙ ap (λ t. t ++ b.part) a.grows ∙ append_assoc (w.journal old) a.part b.part;
    fits = fits_append a.part b.part a.fits b.fits;
    made = b.made ∙ a.made;
    same = Same-trans a.same b.same;
    counted = Counted-then a.counted b.counted;
    found = a.found ++ b.found;
    finds = b.finds ∙ ap (λ t. t ++ b.found) a.finds ∙ append_assoc before.found a.found b.found;
    begins = begins_then p f before.kept between.kept later.kept a.found b.found a.part b.part x a.runs b.begins;
  }

  pub holds_breaks_first : {A B : Type 0} {p : KeptInquiry A} (f : A → KeptInquiry B) {old new : W} {before later : Holdings} → HoldsBreaks w p old before new later → HoldsBreaks w (onwards p f) old before new later
  holds_breaks_first {p = p} f {before = before} {later = later} b = record {
    part = b.part;
    grows = b.grows;
    fits = b.fits;
    made = b.made;
    same = b.same;
    counted = b.counted;
    found = b.found;
    finds = b.finds;
    begins = begins_first p f before.kept later.kept b.found b.part b.begins;
  }

  -- a call that finds and leaves nothing
  pub holds_ends : {A : Type 0} {p : Inquiry A} {old new : W} {before : Holdings} {out : A} → Ends w p old new out → HoldsEnds w (lift p) old before new before out
  holds_ends {p = p} {before = before} {out = out} a = record { part = a.part; grows = a.grows; fits = a.fits; made = a.made; same = a.same; counted = a.counted; stands = a.stands; found = []; finds = sym (append-nil before.found); runs = lift_runs p before.kept a.part out a.reads }

  pub holds_waits : {A : Type 0} {p : Inquiry A} {old new : W} {before : Holdings} → Waits w p old new → HoldsWaits w (lift p) old before new before
  holds_waits {p = p} {new = new} {before = before} a = record {
    part = a.part;
    grows = a.grows;
    fits = a.fits;
    made = a.made;
    same = a.same;
    counted = a.counted;
    stands = a.stands;
    found = [];
    finds = sym (append-nil before.found);
    asks = lift_open p before.kept a.part (w.open_question new) a.asks;
    is_open = a.is_open;
  }

  pub holds_breaks : {A : Type 0} {p : Inquiry A} {old new : W} {before : Holdings} → Breaks w p old new → HoldsBreaks w (lift p) old before new before
  holds_breaks {p = p} {before = before} a = record { part = a.part; grows = a.grows; fits = a.fits; made = a.made; same = a.same; counted = a.counted; found = []; finds = sym (append-nil before.found); begins = lift_begins p before.kept a.part a.begun }

  -- an outcome without a question
  pub holds_said : {A : Type 0} {said out : A} {old : W} {before : Holdings} → said ≡ out → HoldsEnds w (Gives said) old before old before out
  holds_said {old = old} {before = before} e = record {
    part = [];
    grows = sym (append-nil (w.journal old));
    fits = tt;
    made = refl;
    same = Same-refl _;
    counted = Counted-none _;
    stands = StandsOn-none (w.stands old);
    found = [];
    finds = sym (append-nil before.found);
    runs = (e, refl);
  }

  -- where nothing was asked or found yet
  pub holds_breaks_here : {A : Type 0} {p : KeptInquiry A} {old : W} {before : Holdings} → HoldsBreaks w p old before old before
  holds_breaks_here {p = p} {old = old} {before = before} = record { part = []; grows = sym (append-nil (w.journal old)); fits = tt; made = refl; same = Same-refl _; counted = Counted-none _; found = []; finds = sym (append-nil before.found); begins = begins_here p before.kept }

pub ruleset holding_steps = (holds_ends_then, holds_waits_then, holds_waits_first, holds_breaks_then, holds_breaks_first, holds_ends, holds_waits, holds_breaks, holds_said, holds_breaks_here)

-- The tree led from old to mid, and another is left: what the rest does, the whole does.
pub record HoldsLeads {W R : Type 0} (w : Ghosts W) (tree : KeptInquiry R) (old : W) (before : Holdings) (mid : W) (between : Holdings) (left : KeptInquiry R) : Type 0 where
  pub ends : (new : W) (later : Holdings) (out : R) → HoldsEnds w left mid between new later out → HoldsEnds w tree old before new later out
  pub waits : (new : W) (later : Holdings) → HoldsWaits w left mid between new later → HoldsWaits w tree old before new later
  pub breaks : (new : W) (later : Holdings) → HoldsBreaks w left mid between new later → HoldsBreaks w tree old before new later

module _ {W : Type 0} {w : Ghosts W} where
  pub holds_leads_start : {R : Type 0} {p : KeptInquiry R} {old : W} {before : Holdings} → HoldsLeads w p old before old before p
  holds_leads_start = record { ends = λ new later out k. k; waits = λ new later k. k; breaks = λ new later k. k }

  pub holds_leads_then : {R A : Type 0} {tree : KeptInquiry R} {old mid new : W} {before between later : Holdings} {p : KeptInquiry A} (f : A → KeptInquiry R) {x : A} →
      HoldsLeads w tree old before mid between (onwards p f) → HoldsEnds w p mid between new later x → HoldsLeads w tree old before new later (f x)
  holds_leads_then f a b = record {
    ends = λ last final out k. a.ends last final out (holds_ends_then f b k);
    waits = λ last final k. a.waits last final (holds_waits_then f b k);
    breaks = λ last final k. a.breaks last final (holds_breaks_then f b k);
  }

  pub holds_ends_left : {R : Type 0} {tree : KeptInquiry R} {old mid new : W} {before between later : Holdings} {left : KeptInquiry R} {out : R} →
      HoldsLeads w tree old before mid between left → HoldsEnds w left mid between new later out → HoldsEnds w tree old before new later out
  holds_ends_left a b = a.ends _ _ _ b

  pub holds_waits_left : {R : Type 0} {tree : KeptInquiry R} {old mid new : W} {before between later : Holdings} {left : KeptInquiry R} →
      HoldsLeads w tree old before mid between left → HoldsWaits w left mid between new later → HoldsWaits w tree old before new later
  holds_waits_left a b = a.waits _ _ b

  pub holds_breaks_left : {R : Type 0} {tree : KeptInquiry R} {old mid new : W} {before between later : Holdings} {left : KeptInquiry R} →
      HoldsLeads w tree old before mid between left → HoldsBreaks w left mid between new later → HoldsBreaks w tree old before new later
  holds_breaks_left a b = a.breaks _ _ b

pub ruleset holding_loop_steps = (holds_leads_start, holds_ends_left, holds_waits_left, holds_breaks_left, holding_steps)
