-- What one caller more found.
use Rattle.std.proofs.Common.{List, subst}
use Rattle.std.specs.List.{flat_map}
use Rattle.cfg_kept.specs.declared.found.Found.{Found}
use Rattle.cfg_sharing.specs.Receipts.{receipts_of}
use Rattle.cfg_sharing.specs.Histories.{entries_in}
use Rattle.cfg_sharing.specs.Strays.{AddsStrays}
use Rattle.cfg_sharing.proofs.Straying.{adds_more}
use Rattle.cfg_sharing.proofs.strays.strays_in.Goals as goal

pub loop-called-preserved : goal.loop-called-preserved
loop-called-preserved g c =
    let entries = entries_in c.args.calls.now in
    adds_more entries (λ x. flat_map receipts_of x.answered.found) c.args.calls.now c.loop-called.called-index c.called-item.result 0 c.loop-called.count c.add_found-count.result
    c.loop-called-test.true c.called-item.is c.loop-called.invariant
    (subst (λ (f : List Found). AddsStrays entries (flat_map receipts_of f) c.loop-called.count c.add_found-count.result) c.as_slice.ensures c.add_found-count.ensures)
