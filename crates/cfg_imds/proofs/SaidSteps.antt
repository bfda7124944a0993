-- The steps of a body that asks, where its outcome was computed by a call of its own.
use Rattle.std.proofs.Common.{◌≡◌, subst}
use Rattle.cfg_world.specs.declared.asking.Asking.{Ghosts}
use Rattle.cfg_world.specs.Inquiry.{Done}
use Rattle.cfg_world.specs.Follows.{Ends}
use Rattle.cfg_world.proofs.Inquiries.{ends_after, waits_after, waits_first, breaks_after, breaks_first, ends_done, breaks_here}

pub ends_said : {W R : Type 0} {w : Ghosts W} {old : W} {said out : R} → said ≡ out → Ends w (Done said) old old out
ends_said {w = w} {old = old} {said = said} e = subst (λ x. Ends w (Done said) old old x) e ends_done

pub ruleset said_steps = (ends_after, waits_after, waits_first, breaks_after, breaks_first, ends_said, breaks_here)
