-- What the program's arguments ask for, of callers on threads of their own.
use Rattle.std.specs.Prelude.{ℕ, List, [], ◌∷◌, Option, Some, None, codes, bytes_eq, if◌then◌else◌}
use Rattle.cfg_program.specs.declared.shared_commands.SharedCommand.{SharedCommand}
use Rattle.cfg_program.specs.declared.shared_commands.SharedCommand.TheVariants.{Share, Gated}

abbrev pub shared_command_named : List (List ℕ) → Option SharedCommand
shared_command_named (name ∷ []) = if bytes_eq name (codes "share") then Some Share else (if bytes_eq name (codes "gated") then Some Gated else None)
shared_command_named _ = None
