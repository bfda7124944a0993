-- The characters so far are written.
use Rattle.std.proofs.Common.{◌≡◌, ◌++◌}
use Rattle.std.specs.List.{flat_map}
use Rattle.cfg_program.specs.Escapes.{line_character}
use Rattle.cfg_program.proofs.causes.write_escaped.Given as goal

abbrev pub invariant-loop-character : goal.invariant-loop-character
invariant-loop-character l = l.lines.items ≡ l.fn.lines.items ++ flat_map line_character l.yielded
