-- How the program's devices count their failures.
use Rattle.std.specs.Prelude.{ℕ}
use Rattle.cfg_world.specs.Faults.{Faults}

-- one count for every kind of device
abbrev pub each_is : ℕ → Faults
each_is count = record { files = count; transport = count; commands = count; lookups = count }
