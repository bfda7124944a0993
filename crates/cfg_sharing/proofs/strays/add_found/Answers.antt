-- The receipts of one value more.
use Rattle.cfg_sharing.specs.Receipts.{receipts_of}
use Rattle.cfg_sharing.specs.Histories.{entries_in}
use Rattle.cfg_sharing.proofs.Straying.{adds_more}
use Rattle.cfg_sharing.proofs.strays.add_found.Goals as goal

pub loop-value-preserved : goal.loop-value-preserved
loop-value-preserved g c =
    adds_more (entries_in c.args.calls.now) receipts_of c.args.found.now c.loop-value.value-index c.value-item.result c.args.count c.loop-value.count c.add_value-count.result
    c.loop-value-test.true c.value-item.is c.loop-value.invariant c.add_value-count.ensures
