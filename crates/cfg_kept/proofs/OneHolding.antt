-- One holding of a kept value.
use Rattle.std.proofs.Common.{◌≡◌, List, [], ◌∷◌, ◌++◌, Result, Ok, Err, Option, Some, None, IfSome, refl, sym, ◌∙◌, ap, subst, append-nil}
use Rattle.std.specs.Prelude.{IsSome}
use Rattle.cfg_world.specs.declared.ask.Question.{Question}
use Rattle.cfg_world.specs.declared.asking.Asking.{Ghosts}
use Rattle.cfg_world.specs.declared.asking.Stop.{Stop}
use Rattle.cfg_world.specs.declared.asking.Stop.TheVariants.{OutOfMemory, Open}
use Rattle.cfg_world.specs.Fits.{Pair}
use Rattle.cfg_world.specs.Inquiry as low
use Rattle.cfg_world.specs.Inquiry.{Inquiry}
use Rattle.cfg_world.specs.Follows.{Ends, Halts}
use Rattle.cfg_world.proofs.Counts.{Same-refl, StandsOn-none, Counted-none}
use Rattle.cfg_kept.specs.Kinds.{Spot, Value, States, spot_of, value_at, with_value}
use Rattle.cfg_kept.specs.KeptInquiry.{KeptInquiry, Gives, Finds, Leaves, Runs, Asks, Begins, StandsIn, leave, lift, onwards}
use Rattle.cfg_kept.specs.Holds.{Holdings, held, HoldsFound, leaves_in, HoldsEnds, HoldsBreaks, HoldsHalts, HoldsFollows, HoldsOne, left_by, holding}
use Rattle.cfg_kept.proofs.Trees.{runs_then, asks_first, begins_first, begins_here, lift_runs, lift_asks, lift_begins}
use Rattle.cfg_kept.proofs.Told.{leaves_same, run_begins}

holding_open : {R T : Type 0} (spot : Spot) (at : T → Value) (body : Value → Inquiry (R × T)) (f : Value) (kept : Option States) (journal : List Pair) (left : Option Question) → spot_of f ≡ spot → StandsIn kept f →
    IfSome left (low.AsksNext (body f) journal) → IfSome left (λ q. Asks (holding spot at body) kept (f ∷ []) journal q kept)
unfolding holding
holding_open spot at body f kept journal None is stands h = h
holding_open spot at body f kept journal (Some q) is stands h = (is, stands, asks_first (lift (body f)) (left_by at) kept kept [] journal q (lift_asks (body f) kept journal q h))

module _ {W : Type 0} (w : Ghosts W) {R T : Type 0} (spot : Spot) (at : T → Value) (body : Value → Inquiry (R × T)) where
  -- a holding of a value that came to an outcome, and left what came of it
  pub holding_ends : (old new : W) (found later : List Value) (kept : Option States) (f : Value) (out : R) (t : T) →
      spot_of f ≡ spot → StandsIn kept f → later ≡ found ++ f ∷ [] → Ends w (body f) old new (out, t) →
      HoldsEnds w (holding spot at body) old (held found kept) new (held later (leave kept (at t))) out
  unfolding holding
  holding_ends old new found later kept f out t is stands e m = record {
    part = m.part;
    grows = m.grows;
    fits = m.fits;
    made = m.made;
    same = m.same;
    counted = m.counted;
    stands = m.stands;
    found = f ∷ [];
    finds = e;
    runs = (
      is,
      stands,
      subst (λ J. Runs (onwards (lift (body f)) (left_by at)) kept [] J out (leave kept (at t))) (append-nil m.part)
          (runs_then (lift (body f)) (left_by at) kept kept (leave kept (at t)) [] [] m.part [] (out, t) out (lift_runs (body f) kept m.part (out, t) m.reads) (refl, refl)),
    );
  }

  -- one that was stopped, and left what was there
  pub holding_halts : (old new : W) (found later : List Value) (kept : Option States) (f : Value) (stop : Stop) →
      spot_of f ≡ spot → StandsIn kept f → later ≡ found ++ f ∷ [] → Halts w (body f) old new stop →
      HoldsHalts w (holding spot at body) old (held found kept) new (held later kept) stop
  unfolding holding
  holding_halts old new found later kept f Open is stands e m = record {
    part = m.part;
    grows = m.grows;
    fits = m.fits;
    made = m.made;
    same = m.same;
    counted = m.counted;
    stands = m.stands;
    found = f ∷ [];
    finds = e;
    asks = holding_open spot at body f kept m.part (w.open_question new) is stands m.asks;
    is_open = m.is_open;
  }
  holding_halts old new found later kept f OutOfMemory is stands e m = record {
    part = m.part;
    grows = m.grows;
    fits = m.fits;
    made = m.made;
    same = m.same;
    counted = m.counted;
    found = f ∷ [];
    finds = e;
    begins = (is, stands, begins_first (lift (body f)) (left_by at) kept kept [] m.part (lift_begins (body f) kept m.part m.begun));
  }

  -- both, whatever else is kept
  pub holding_ended : (old new : W) (found later : List Value) (was : Value) (out : R) (t : T) →
      spot_of was ≡ spot → later ≡ found ++ was ∷ [] → Ends w (body was) old new (out, t) →
      HoldsOne w (holding spot at body) old new found later was (at t) (Ok out)
  holding_ended old new found later was out t is e m = λ kept stands. holding_ends old new found later kept was out t is stands e m

  pub holding_halted : (old new : W) (found later : List Value) (was is : Value) (stop : Stop) →
      spot_of was ≡ spot → is ≡ was → later ≡ found ++ was ∷ [] → Halts w (body was) old new stop →
      HoldsOne w (holding spot at body) old new found later was is (Err stop)
  holding_halted old new found later was is stop at_spot same e m = λ kept stands.
      subst (λ k. HoldsHalts w (holding spot at body) old (held found kept) new (held later k) stop) (sym (ap (leave kept) same ∙ leaves_same kept was stands))
      (holding_halts old new found later kept was stop at_spot stands e m)

module _ {W : Type 0} (w : Ghosts W) where
  -- memory ran out before anything was found
  pub nothing_held : {R : Type 0} (p : KeptInquiry R) (old : W) (found later : List Value) (was is : Value) (result : Result R Stop) → result ≡ Err OutOfMemory → is ≡ was → later ≡ found →
      HoldsOne w p old old found later was is result
  nothing_held p old found later was is result out same e = λ kept stands. subst (λ r. HoldsFollows w p old (held found kept) old (held later (leave kept is)) r) (sym out) (record {
    part = [];
    grows = sym (append-nil (w.journal old));
    fits = tt;
    made = refl;
    same = Same-refl _;
    counted = Counted-none _;
    found = [];
    finds = e ∙ sym (append-nil found);
    begins = subst (λ k. Begins p kept [] [] k) (sym (ap (leave kept) same ∙ leaves_same kept was stands)) (begins_here p kept);
  })

  -- one holding, where the kept states are told
  pub one_told : {K R : Type 0} (key : Option K) (p : K → KeptInquiry R) (old new : W) (found later : List Value) (was is : Value) (result : Result R Stop) (states : States) → was ≡ value_at states (spot_of was) →
      IfSome key (λ k. HoldsOne w (p k) old new found later was is result) →
      IfSome key (λ k. HoldsFollows w (p k) old (held found (Some states)) new (held later (Some (with_value states is))) result)
  one_told None p old new found later was is result states stands h = h
  one_told (Some k) p old new found later was is result states stands h = h (Some states) stands

  -- the same, with the states that this leaves
  pub one_told_after : {K R : Type 0} (key : Option K) (p : K → KeptInquiry R) (old new : W) (found later : List Value) (was is : Value) (result : Result R Stop) (states after : States) → was ≡ value_at states (spot_of was) → after ≡ with_value states is →
      IfSome key (λ k. HoldsOne w (p k) old new found later was is result) →
      IfSome key (λ k. HoldsFollows w (p k) old (held found (Some states)) new (held later (Some after)) result)
  one_told_after key p old new found later was is result states after stands left h =
      subst (λ x. IfSome key (λ k. HoldsFollows w (p k) old (held found (Some states)) new (held later (Some x)) result)) (sym left) (one_told key p old new found later was is result states stands h)

  -- a call that came to an end has begun
  pub ended_begins : {R : Type 0} (p : KeptInquiry R) (old new : W) (before later : Holdings) (out : R) → HoldsEnds w p old before new later out → HoldsBreaks w p old before new later
  ended_begins p old new before later out h = record {
    part = h.part;
    grows = h.grows;
    fits = h.fits;
    made = h.made;
    same = h.same;
    counted = h.counted;
    found = h.found;
    finds = h.finds;
    begins = run_begins p before.kept later.kept h.found h.part out h.runs;
  }

  pub ended_breaks : {K R : Type 0} (key : Option K) (p : K → KeptInquiry R) (old new : W) (before later : Holdings) (out : R) →
      IfSome key (λ k. HoldsEnds w (p k) old before new later out) → IfSome key (λ k. HoldsBreaks w (p k) old before new later)
  ended_breaks None p old new before later out h = h
  ended_breaks (Some k) p old new before later out h = ended_begins (p k) old new before later out h

  -- a value that was left
  pub holds_left : {R : Type 0} (v : Value) (old : W) (before later : Holdings) (said out : R) → later ≡ leaves_in before v → said ≡ out → HoldsEnds w (Leaves v (Gives said)) old before old later out
  holds_left v old before later said out e is = subst (λ x. HoldsEnds w (Leaves v (Gives said)) old before old x out) (sym e) (record {
    part = [];
    grows = sym (append-nil (w.journal old));
    fits = tt;
    made = refl;
    same = Same-refl _;
    counted = Counted-none _;
    stands = StandsOn-none (w.stands old);
    found = [];
    finds = sym (append-nil before.found);
    runs = (is, refl);
  })

  -- a value that was found, and nothing asked
  pub holds_found : {R : Type 0} (spot : Spot) (f : Value → R) (v : Value) (old : W) (before later : Holdings) (out : R) → spot_of v ≡ spot → HoldsFound before later v → f v ≡ out → HoldsEnds w (Finds spot (λ x. Gives (f x))) old before old later out
  holds_found spot f v old before later out at found is = record {
    part = [];
    grows = sym (append-nil (w.journal old));
    fits = tt;
    made = refl;
    same = Same-refl _;
    counted = Counted-none _;
    stands = StandsOn-none (w.stands old);
    found = v ∷ [];
    finds = found.finds;
    runs = (at, found.stands, (is, sym found.kept));
  }

  -- memory ran out, and nothing was held
  pub nothing_done : {R : Type 0} (p : KeptInquiry R) (old : W) (before later : Holdings) → later ≡ before → HoldsBreaks w p old before old later
  nothing_done p old before later e = subst (λ x. HoldsBreaks w p old before old x) (sym e) (record {
    part = [];
    grows = sym (append-nil (w.journal old));
    fits = tt;
    made = refl;
    same = Same-refl _;
    counted = Counted-none _;
    found = [];
    finds = sym (append-nil before.found);
    begins = begins_here p before.kept;
  })

-- none is not some
pub no_question : IsSome {T = Question} None → ⊥
no_question h = absurd cc

-- where no question is left open, memory ran out
pub broken : {W R : Type 0} {w : Ghosts W} {tree : KeptInquiry R} {old new : W} {before later : Holdings} (stop : Stop) → HoldsHalts w tree old before new later stop → (IsSome (w.open_question new) → ⊥) → HoldsBreaks w tree old before new later
broken Open h n = absurd (n h.is_open)
broken OutOfMemory h n = h
