-- The walk is over what is left.
use Rattle.std.proofs.Common.{◌-◌, length, take, drop, Some, sym, ◌∙◌, ap}
use Rattle.std.specs.Option.{option_copied}
use Rattle.cfg_run.proofs.RoleWalks.{slice_is, walk_whole, walk_open}
use Rattle.cfg_run.proofs.roles.next_of_roles.Goals as goal

pub returns-in_ok-marked-in-Ok : goal.returns-in_ok-marked-in-Ok
returns-in_ok-marked-in-Ok c = λ left.
    let e = c.in-Ok.ensures in
    let role = c.index-roles-0.result in
    let first = c.args.last.at - c.questions_before.result in
    let roles = take (length c.as_slice.result.now - c.args.last.number) (drop c.args.last.number c.as_slice.result.now) in
    let receipts = take (length c.args.receipts.now - first) (drop first c.args.receipts.now) in
    let signs = ap Some c.in_ok-signer.ensures ∙ ap option_copied (sym c.unwrap.ensures) ∙ c.signer_of.ensures in
    walk_whole c.args.planned.now.settings c.args.planned.now.plan.roles c.args.receipts.now c.args.last c.index-receipts-last.result role c.questions_before.result c.in_ok-signer.signer roles receipts e.part
    c.new-replay.result c.follow_role_chain.new.asking (slice_is c.args.last.number c.as_slice.result.now ∙ ap (drop c.args.last.number) c.as_slice.ensures) (slice_is first c.args.receipts.now)
    c.index-receipts-last.is c.index-roles-0.is c.questions_before.ensures signs
    c.new-replay.ensures e.grows e.made left c.in-Ok.outcome c.in_ok-marked-in-Ok.field-0
    e.reads c.in_ok-marked-in-Ok.ensures

pub returns-in-Err-Open : goal.returns-in-Err-Open
returns-in-Err-Open c = λ left.
    let e = rw c.in-Err-Open.field-0-is at c.in-Err-Open.ensures in
    let role = c.index-roles-0.result in
    let first = c.args.last.at - c.questions_before.result in
    let roles = take (length c.as_slice.result.now - c.args.last.number) (drop c.args.last.number c.as_slice.result.now) in
    let receipts = take (length c.args.receipts.now - first) (drop first c.args.receipts.now) in
    let signs = ap Some c.in_ok-signer.ensures ∙ ap option_copied (sym c.unwrap.ensures) ∙ c.signer_of.ensures in
    walk_open c.args.planned.now.settings c.args.planned.now.plan.roles c.args.receipts.now c.args.last c.index-receipts-last.result role c.questions_before.result c.in_ok-signer.signer roles receipts e.part
    c.new-replay.result c.follow_role_chain.new.asking (slice_is c.args.last.number c.as_slice.result.now ∙ ap (drop c.args.last.number) c.as_slice.ensures) (slice_is first c.args.receipts.now)
    c.index-receipts-last.is c.index-roles-0.is c.questions_before.ensures signs
    c.new-replay.ensures e.grows e.made left c.unwrap-in-Err-Open.result
    (sym c.into_question.ensures.is ∙ c.unwrap-in-Err-Open.ensures) c.into_question.ensures.open e.asks
