-- A session token has one number.
use Rattle.std.proofs.Common.{◌≤◌, ◌<◌, sym, ◌∙◌, subst}
use Rattle.cfg_endpoint.proofs.Numbers.{one_number, within, no_truth}
use Rattle.cfg_endpoint.proofs.tokens.is_accepted.Goals as goal

pub returns-in-Some : goal.returns-in-Some
returns-in-Some c = (
  λ t. let p = c.is_between.ensures.0 t in (c.in-Some.number, p.0, p.1, c.in-Some.ensures.some),
  λ a. let same = one_number a.0 c.in-Some.number (within a.0 c.args.given c.ranges.given.fits a.2) c.in-Some.ensures.small (sym a.3 ∙ c.in-Some.ensures.some) in
      c.is_between.ensures.1 (subst (λ n. c.args.since < n) same a.1, subst (λ n. n ≤ c.args.given) same a.2),
)

pub returns-in-None : goal.returns-in-None
returns-in-None c = (λ t. absurd (no_truth t), λ a. absurd (c.in-None.ensures.none a.0 (within a.0 c.args.given c.ranges.given.fits a.2) a.3))
