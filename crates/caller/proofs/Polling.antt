-- What a world gains by questions that are put one at a time is what a call gains.
use Rattle.std.proofs.Common.{◌≡◌, List, ◌∷◌, [], ◌++◌, sym, ap, ◌∙◌, subst, append_assoc}
use Rattle.cfg_world.specs.declared.devices.Devices.{Ghosts}
use Rattle.cfg_world.specs.Fits.{Pair, EachFits}
use Rattle.cfg_world.specs.Grows.{Grows}
use Rattle.cfg_world.specs.Held.{Held}
use Rattle.cfg_world.proofs.Counts.{Same-trans, StandsOn-then, Counted-then}
use Rattle.cfg_kept.specs.Kinds.{Value, States}
use Rattle.cfg_providers.specs.CustomSources.{Answer}
use Rattle.cfg_chain.specs.Provides.{IsCall, Provides}
use Rattle.cfg_chain.specs.Settings.{ChainSetting}

fits_append : (one other : List Pair) → EachFits one → EachFits other → EachFits (one ++ other)
fits_append [] other h k = k
fits_append (e ∷ one) other h k = (h.0, fits_append one other h.1 k)

module _ {D : Type 0} {d : Ghosts D} where
  pub grows_then : {one other : List Pair} {old mid new : Held D} → Grows d one old mid → Grows d other mid new → Grows d (one ++ other) old new
  grows_then {one = one} {other = other} {old = old} {mid = mid} {new = new} a b = record {
    journal = b.journal ∙ ap (λ t. t ++ other) a.journal ∙ append_assoc old.journal one other;
    fits = fits_append one other a.fits b.fits;
    same = Same-trans a.same b.same;
    counted = Counted-then a.counted b.counted;
    stands = StandsOn-then (d.stands old.devices) (d.stands mid.devices) (d.stands new.devices) one other a.stands b.stands;
  }

  -- one question more
  pub grows_more : {asked before : List Pair} {e : Pair} {old mid new : Held D} → asked ≡ before → Grows d before old mid → Grows d (e ∷ []) mid new → Grows d (asked ++ e ∷ []) old new
  grows_more {e = e} {old = old} {new = new} is a b = subst (λ j. Grows d (j ++ e ∷ []) old new) (sym is) (grows_then a b)

  -- a call that came to its end provides what was asked for it
  pub provides_by : (run over : ChainSetting) (base old kept new : States) (found more : List Value) (asked before : List Pair) (first last : Held D) (out : Answer) →
      run ≡ over → base ≡ old → new ≡ kept → more ≡ found → asked ≡ before → Grows d before first last → IsCall run base kept found asked out → Provides d over old new more first last out
  provides_by run over base old kept new found more asked before first last out is_over is_old is_new finds is grows call = record {
    part = asked;
    grows = subst (λ j. Grows d j first last) (sym is) grows;
    call = subst (λ o. IsCall o old new more asked out) is_over
        (subst (λ b. IsCall run b new more asked out) is_old
        (subst (λ k. IsCall run base k more asked out) (sym is_new) (subst (λ f. IsCall run base kept f asked out) (sym finds) call)));
  }
