-- The settle had come to its end, and the call was stopped behind it.
use Rattle.std.specs.Prelude.{Err}
use Rattle.cfg_imds.specs.Clients.{rules_of, fetch_text}
use Rattle.cfg_imds.proofs.LeftKept.{left_settled, on_err}
use Rattle.cfg_imds.proofs.imds.client.follow_get.Goals as goal

pub returns-in_err-outcome-clause-left : goal.returns-in_err-outcome-clause-left
returns-in_err-outcome-clause-left g c =
    let settled = rw c.in-Ok.is at c.in_ok-token.ensures.follows in
    on_err c.from_residual-in_err-outcome.result _
    (let rules = rules_of (λ b. (goal.ClassifyRetry-dyn g (b.vtable, b.value)).repeated b.value) c.args.client.now in
    left_settled _ _ _ _ rules c.args.kept.now c.follow_settle.new.kept c.in-Ok.token (fetch_text rules c.args.path.now c.in-Ok.token) (Err c.in_err-outcome.field-0.0) settled c.in_err-outcome.ensures)
