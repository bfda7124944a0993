-- Journals of an inquiry: nothing was asked yet, or the next question was answered.
use Rattle.std.proofs.Common.{◌≡◌, List, [], ◌∷◌, ◌++◌, sym, subst}
use Rattle.cfg_world.specs.Fits.{Pair}
use Rattle.cfg_world.specs.Inquiry.{Inquiry, Done, Ask, AsksNext, Begun}
use Rattle.cfg_world.proofs.Inquiries.{begun_here}

pub none_is_begun : {R : Type 0} (p : Inquiry R) (J : List Pair) → J ≡ [] → Begun p J
none_is_begun p J e = subst (λ J. Begun p J) (sym e) (begun_here p)

pub answered_is_begun : {R : Type 0} (p : Inquiry R) (J : List Pair) (e : Pair) → AsksNext p J e.0 → Begun p (J ++ e ∷ [])
answered_is_begun (Done r) J e h = absurd h
answered_is_begun (Ask q next) [] e h = (sym h, begun_here (next e.1))
answered_is_begun (Ask q next) (d ∷ J) e h = (h.0, answered_is_begun (next d.1) J e h.1)

pub ruleset answered_steps = (begun_here, none_is_begun, answered_is_begun)
