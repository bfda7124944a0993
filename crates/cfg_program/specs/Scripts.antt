-- What commands read the bytes of their input as.
use Rattle.std.specs.Prelude.{ℕ, ◌==◌, List, Bool, true, false, Option, Some, None, if◌then◌else◌}
use Rattle.cfg_script.specs.Script.{Plain, PlainShare}
use Rattle.cfg_script.specs.Reading.{script_of, share_of}
use Rattle.cfg_program.specs.declared.commands.Command.{Command}
use Rattle.cfg_program.specs.declared.commands.Command.TheVariants.{Resolve, Cached, Region, Token, Explain, Audit, Endpoint}

-- a script of one call
abbrev pub of_one_call : Option Plain → Option Plain
of_one_call None = None
of_one_call (Some p) = if p.calls == 1 then Some p else None

-- the script that the bytes are, where it has one call
abbrev pub script_of_one_call : List ℕ → Option Plain
script_of_one_call bytes = of_one_call (script_of bytes)

-- a script of one call for each caller
abbrev pub of_one_call_each : Option PlainShare → Option PlainShare
of_one_call_each None = None
of_one_call_each (Some p) = if p.calls == 1 then Some p else None

-- the script of several callers that the bytes are, where each makes one call
abbrev pub share_of_one_call : List ℕ → Option PlainShare
share_of_one_call bytes = of_one_call_each (share_of bytes)

-- whether a command reads an input
abbrev pub reads_input : Command → Bool
reads_input (Resolve below) = true
reads_input Cached = true
reads_input Region = true
reads_input (Token below) = true
reads_input Explain = true
reads_input Audit = true
reads_input Endpoint = true
reads_input _ = false
