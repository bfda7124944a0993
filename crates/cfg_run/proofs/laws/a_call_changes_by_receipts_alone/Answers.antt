use Rattle.cfg_run.proofs.CallLaws.{call_by_receipts}
use Rattle.cfg_run.proofs.laws.a_call_changes_by_receipts_alone.Goals as goal

pub returns : goal.returns
returns c = λ over before later step some h base key asked comes. call_by_receipts over before later base key asked step some h comes
