-- Of too many bytes, one more than the limit was read.
use Rattle.std.proofs.Common.{◌<◌, length, arith}
use Rattle.cfg_program.specs.Inputs.{most_bytes}
use Rattle.cfg_program.proofs.Pieces.{gave_long}
use Rattle.cfg_program.proofs.input.read_all.Goals as goal

pub returns-clause-long : goal.returns-clause-long
returns-clause-long g c =
    let more : most_bytes < length c.loop-buffer.out.items = omega (arith, c.loop-buffer-test.false, c.len.ensures) in
    λ _. gave_long _ _ c.loop-buffer.out.items c.loop-buffer.invariant.0 more c.loop-buffer.invariant.1
