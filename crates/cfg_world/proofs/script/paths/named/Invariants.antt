-- The paths so far have names.
use Rattle.std.proofs.Common.{take}
use Rattle.cfg_world.specs.Paths.{Lists}
use Rattle.cfg_world.proofs.script.paths.named.Given as goal

abbrev pub invariant-loop-path : goal.invariant-loop-path
invariant-loop-path l = Lists l.names (take l.path-index l.paths)
