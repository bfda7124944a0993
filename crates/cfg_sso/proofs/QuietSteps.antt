-- A part in which nothing is asked.
use Rattle.std.proofs.Common.{◌≡◌, subst}
use Rattle.cfg_world.specs.declared.asking.Asking.{Ghosts}
use Rattle.cfg_world.specs.Inquiry.{Done}
use Rattle.cfg_world.specs.Follows.{Ends}
use Rattle.cfg_world.proofs.Inquiries.{ends_done, breaks_here}

pub ends_quiet : {W R : Type 0} {w : Ghosts W} {old : W} {said out : R} → said ≡ out → Ends w (Done said) old old out
ends_quiet {w = w} {old = old} {said = said} e = subst (λ x. Ends w (Done said) old old x) e ends_done

pub ruleset quiet_steps = (ends_quiet, breaks_here)
