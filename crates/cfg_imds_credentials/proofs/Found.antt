-- A kept value that was found, and nothing asked.
use Rattle.std.proofs.Common.{◌≡◌, [], ◌∷◌, Result, Err, refl, sym, subst, append-nil}
use Rattle.cfg_world.specs.declared.asking.Asking.{Ghosts}
use Rattle.cfg_world.specs.declared.asking.Stop.{Stop}
use Rattle.cfg_world.specs.declared.asking.Stop.TheVariants.{OutOfMemory}
use Rattle.cfg_world.proofs.Counts.{Same-refl, Counted-none}
use Rattle.cfg_kept.specs.Kinds.{Spot, Value, spot_of}
use Rattle.cfg_kept.specs.KeptInquiry.{KeptInquiry, Finds, Begins}
use Rattle.cfg_kept.specs.Holds.{Holdings, HoldsFound, HoldsFollows}
use Rattle.cfg_kept.proofs.OneHolding.{nothing_done}
use Rattle.cfg_kept.proofs.Trees.{begins_here}

module _ {W : Type 0} (w : Ghosts W) where
  -- memory ran out before anything was held
  pub nothing_found : {R : Type 0} (p : KeptInquiry R) (old : W) (before later : Holdings) (result : Result R Stop) → result ≡ Err OutOfMemory → later ≡ before → HoldsFollows w p old before old later result
  nothing_found p old before later result out same = subst (λ r. HoldsFollows w p old before old later r) (sym out) (nothing_done w p old before later same)

  -- memory ran out behind it
  pub found_breaks : {R : Type 0} (spot : Spot) (next : Value → KeptInquiry R) (v : Value) (old : W) (before later : Holdings) (result : Result R Stop) → result ≡ Err OutOfMemory → spot_of v ≡ spot → HoldsFound before later v →
      HoldsFollows w (Finds spot next) old before old later result
  found_breaks spot next v old before later result out at found = subst (λ r. HoldsFollows w (Finds spot next) old before old later r) (sym out) (record {
    part = [];
    grows = sym (append-nil (w.journal old));
    fits = tt;
    made = refl;
    same = Same-refl _;
    counted = Counted-none _;
    found = v ∷ [];
    finds = found.finds;
    begins = (at, found.stands, subst (λ k. Begins (next v) before.kept [] [] k) (sym found.kept) (begins_here (next v) before.kept));
  })
