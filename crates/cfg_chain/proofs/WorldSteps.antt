-- A world over one stretch and then another.
use Rattle.std.proofs.Common.{List, [], ◌∷◌, ◌++◌, sym, ap, ◌∙◌, subst, append_assoc, append-nil}
use Rattle.cfg_world.specs.declared.devices.Devices.{Ghosts}
use Rattle.cfg_world.specs.Fits.{Pair, EachFits}
use Rattle.cfg_world.specs.Grows.{Grows, Stays}
use Rattle.cfg_world.specs.Held.{Held}
use Rattle.cfg_world.proofs.Counts.{Same-refl, Same-trans, StandsOn-none, StandsOn-then, Counted-none, Counted-then}

each_fits : (one other : List Pair) → EachFits one → EachFits other → EachFits (one ++ other)
each_fits [] other h k = k
each_fits (e ∷ one) other h k = (h.0, each_fits one other h.1 k)

module _ {D : Type 0} {d : Ghosts D} where
  -- nothing was asked
  pub grows_here : (old : Held D) → Grows d [] old old
  grows_here old = record { journal = sym (append-nil old.journal); fits = tt; same = Same-refl _; counted = Counted-none _; stands = StandsOn-none (d.stands old.devices) }

  pub stays_here : (old : Held D) → Stays d [] old old
  stays_here old = record { journal = sym (append-nil old.journal); fits = tt; same = Same-refl _; counted = Counted-none _ }

module _ {D : Type 0} {d : Ghosts D} {old mid new : Held D} {part more : List Pair} where
  pub grows_then : Grows d part old mid → Grows d more mid new → Grows d (part ++ more) old new
  grows_then a b = record {
    journal = b.journal ∙ ap (λ j. j ++ more) a.journal ∙ append_assoc old.journal part more;
    fits = each_fits part more a.fits b.fits;
    same = Same-trans a.same b.same;
    counted = Counted-then a.counted b.counted;
    stands = StandsOn-then (d.stands old.devices) (d.stands mid.devices) (d.stands new.devices) part more a.stands b.stands;
  }

  pub stays_then : Grows d part old mid → Stays d more mid new → Stays d (part ++ more) old new
  stays_then a b = record {
    journal = b.journal ∙ ap (λ j. j ++ more) a.journal ∙ append_assoc old.journal part more;
    fits = each_fits part more a.fits b.fits;
    same = Same-trans a.same b.same;
    counted = Counted-then a.counted b.counted;
  }

module _ {D : Type 0} {d : Ghosts D} {old mid new : Held D} {part : List Pair} where
  -- and then nothing
  pub grows_still : Grows d part old mid → Grows d [] mid new → Grows d part old new
  grows_still a b = subst (λ p. Grows d p old new) (append-nil part) (grows_then a b)

  pub stays_still : Grows d part old mid → Stays d [] mid new → Stays d part old new
  stays_still a b = subst (λ p. Stays d p old new) (append-nil part) (stays_then a b)
