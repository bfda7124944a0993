-- The receipt is the last one for a role, or is for none.
use Rattle.std.proofs.Common.{rules, ◌<◌, length}
use Rattle.cfg_run.proofs.LastRoles.{stays_last, number_below, later_role, signer_told}
use Rattle.cfg_run.proofs.last_role.behind.Goals as goal

pub returns-then-is_none : goal.returns-then-is_none
returns-then-is_none c =
    stays_last c.args.last c.args.receipts.now c.args.receipt.now c.requires (search (rules, c.signer_of.ensures, c.is_none.ensures, c.if-is_none.true, c.if-is_none.ensures))

pub overflow_add-result : goal.overflow_add-result
overflow_add-result c =
    let below : c.in-Some.last.number < length c.args.receipts.now = number_below c.args.receipts.now c.in-Some.last (rw c.in-Some.is at c.requires) in
    search (rules, below, c.well_formed)

pub returns-in-Some : goal.returns-in-Some
returns-in-Some c =
    let signer = signer_told c.signer_of.result _ c.signer_of.ensures c.if-is_none.ensures in
    later_role c.args.receipts.now c.in-Some.last c.args.receipt.now signer.0 signer.1 (rw c.in-Some.is at c.requires)
