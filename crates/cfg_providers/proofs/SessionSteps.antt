-- A name made from a reading of the clock.
use Rattle.std.proofs.Common.{◌≡◌, ℕ, List, Option, None, sym, subst}
use Rattle.cfg_base.specs.Moment.{Moment}
use Rattle.cfg_world.specs.declared.asking.Asking.{Ghosts}
use Rattle.cfg_world.specs.Inquiry.{Done, after}
use Rattle.cfg_world.specs.Leaves.{clock}
use Rattle.cfg_world.specs.Follows.{Ends}
use Rattle.cfg_world.proofs.Inquiries.{ends_after, ends_done}
use Rattle.cfg_providers.specs.SessionNames.{default_session_name, session_name}

pub named_by_clock : {W : Type 0} {w : Ghosts W} {old new : W} (base : List ℕ) (given : Option (List ℕ)) (now : Moment) (name : List ℕ) →
    given ≡ None → Ends w clock old new now → name ≡ default_session_name base now → Ends w (session_name base given) old new name
unfolding session_name
named_by_clock {w = w} {old = old} {new = new} base given now name none e is =
    subst (λ g. Ends w (session_name base g) old new name) (sym none)
    (subst (λ n. Ends w (after clock (λ m. Done (default_session_name base m))) old new n) (sym is) (ends_after (λ m. Done (default_session_name base m)) e ends_done))
