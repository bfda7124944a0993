-- One piece more.
use Rattle.std.proofs.Common.{arith}
use Rattle.cfg_program.proofs.Pieces.{goes_on}
use Rattle.cfg_program.proofs.output.write_all.Goals as goal

pub loop-rest-preserved : goal.loop-rest-preserved
loop-rest-preserved g c = record {
  written = rw c.split_at.ensures.back (goes_on _ _ _ _ _ c.in_ok-n.n c.loop-rest.invariant.written c.in_ok-n.ensures.bytes);
  counted = omega (arith, c.loop-rest.invariant.counted, c.in_ok-n.ensures.counted);
}
