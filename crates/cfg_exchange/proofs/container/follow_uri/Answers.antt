-- The token is known, and there is no target, or its check stops.
use Rattle.std.proofs.lemmas.Result.{err_from_is_err_and}
use Rattle.cfg_exchange.proofs.ContainerSteps.{container_target_halts, container_untargeted}
use Rattle.cfg_exchange.proofs.container.follow_uri.Goals as goal

pub returns-in_err-target : goal.returns-in_err-target
returns-in_err-target g c =
    let given = rw c.in_ok-token.was at c.auth_token.ensures in
    let stopped = rw c.in_err-target.was at c.into_target.ensures in
    let p = err_from_is_err_and c.from_residual-in_err-target.result c.from_residual-in_err-target.ensures.1 in
    rw (p.1, p.2)
    (container_target_halts c.into_target.new.asking c.args.env.now c.args.settings.now c.args.named c.in-Ok.token c.in_ok-token.field-0 _ given c.in-Ok.is stopped)

pub returns-in-Err-2 : goal.returns-in-Err-2
returns-in-Err-2 g c =
    let given = rw c.in_ok-token.was at c.auth_token.ensures in
    let refused = rw c.in_ok-target.was at c.into_target.ensures in
    container_untargeted c.args.env.now c.args.settings.now c.args.named c.in-Err-2.error c.in-Ok.token c.in_ok-token.field-0 c.in_ok-target.field-0 given c.in-Ok.is refused c.in-Err-2.is
