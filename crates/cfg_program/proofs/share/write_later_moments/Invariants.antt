-- The moments so far.
use Rattle.std.proofs.Common.{◌≡◌, ◌++◌, take}
use Rattle.std.specs.List.{flat_map}
use Rattle.cfg_program.specs.Shares.{later_moment}
use Rattle.cfg_program.proofs.share.write_later_moments.Given as goal

abbrev pub invariant-loop-moment : goal.invariant-loop-moment
invariant-loop-moment l = l.line.items ≡ l.fn.line.items ++ flat_map later_moment (take l.moment-index l.moments)
