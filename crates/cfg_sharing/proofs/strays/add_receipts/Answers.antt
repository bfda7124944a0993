-- One receipt more.
use Rattle.cfg_sharing.specs.Histories.{entries_in}
use Rattle.cfg_sharing.proofs.Straying.{adds_next}
use Rattle.cfg_sharing.proofs.strays.add_receipts.Goals as goal

pub loop-receipt-preserved : goal.loop-receipt-preserved
loop-receipt-preserved g c =
    adds_next (entries_in c.args.calls.now) c.args.receipts.now c.loop-receipt.receipt-index c.receipt-item.result c.args.count c.loop-receipt.count c.add_stray-count.result
    c.loop-receipt-test.true c.receipt-item.is c.loop-receipt.invariant c.add_stray-count.ensures
