-- What is left is what was not written.
use Rattle.std.proofs.Common.{◌≤◌, length}
use Rattle.cfg_program.proofs.Pieces.{Written}
use Rattle.cfg_program.proofs.output.write_all.Given as goal

abbrev pub invariant-loop-rest : goal.invariant-loop-rest
invariant-loop-rest g l = record {
  written : Written (g.K.Sink.written l.fn.sink) (g.K.Sink.written l.sink) l.bytes l.rest;
  counted : g.K.Sink.faults l.fn.sink ≤ g.K.Sink.faults l.sink;
}

abbrev pub decreases-loop-rest : goal.decreases-loop-rest
decreases-loop-rest g l = length l.rest
