-- The sections so far.
use Rattle.std.proofs.Common.{◌≡◌, map}
use Rattle.cfg_script.specs.Script.{section_bytes}
use Rattle.cfg_program.specs.Calls.{section_parts}
use Rattle.cfg_program.proofs.configuration.sections.Given as goal

abbrev pub invariant-loop-name : goal.invariant-loop-name
invariant-loop-name l = l.sections.items ≡ map section_parts (map section_bytes l.yielded)
