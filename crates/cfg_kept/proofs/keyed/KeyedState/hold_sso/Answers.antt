-- Memory ran out before anything was found: the state is as it was.
use Rattle.std.proofs.Common.{◌≡◌, Option, Some, refl, subst, rules}
use Rattle.cfg_kept.specs.declared.keyed.EitherState.{EitherState}
use Rattle.cfg_kept.specs.declared.keyed.EitherState.TheVariants.{Sso}
use Rattle.cfg_kept.specs.KeyedStates.{HoldsSso}
use Rattle.cfg_kept.proofs.OneHolding.{nothing_held}
use Rattle.cfg_kept.proofs.keyed.KeyedState.hold_sso.Goals as goal

pub returns-in_err-value-in-Some-Sso-clause-one : goal.returns-in_err-value-in-Some-Sso-clause-one
returns-in_err-value-in-Some-Sso-clause-one g c =
    let now : Option EitherState = Some (Sso c.in-Some-Sso.state) in
    let same : now ≡ c.args.self.now = search rules in
    subst (λ s. HoldsSso g.A.Asking c.args.env.now c.args.settings.now c.args.asking.now c.args.found.now.items s c.args.asking.now c.args.found.now.items now c.from_residual.result) same
    (nothing_held _ _ _ _ _ _ _ _ (search rules) refl refl)
