-- What the program's arguments ask for.
use Rattle.std.specs.Prelude.{ℕ, ◌+◌, ◌-◌, ◌*◌, nat_lt, List, [], ◌∷◌, Bool, false, not, ◌&&◌, ◌==◌, Option, Some, None, option_map, codes, bytes_eq, if◌then◌else◌}
use Rattle.std.specs.Str.{all_ascii_digits}
use Rattle.cfg_program.specs.Lines.{digit_zero}
use Rattle.cfg_program.specs.declared.commands.Command.{Command}
use Rattle.cfg_program.specs.declared.commands.Command.TheVariants.{Help, Version, Resolve, Cached, Region, Token, Explain, Audit, Endpoint, Local, Generate}
use Rattle.cfg_program.specs.declared.causes.Below.TheVariants as below

-- the number that decimal digits write behind those of n
abbrev pub number_after : ℕ → List ℕ → ℕ
number_after n [] = n
number_after n (d ∷ digits) = number_after (n * 10 + (d - digit_zero)) digits

-- one decimal digit or more, and nothing else, of which the first is not `0`
abbrev pub is_numeral : List ℕ → Bool
is_numeral [] = false
is_numeral (d ∷ digits) = not (d == digit_zero) && all_ascii_digits (d ∷ digits)

-- how many profiles `generate` takes
abbrev pub most_profiles : ℕ
most_profiles = 1000

-- a number that is not too large
abbrev pub up_to_most : ℕ → Option ℕ
up_to_most n = if nat_lt most_profiles n then None else Some n

-- The number of a text: from 1 to the largest, in decimal digits, without sign or leading zero.
abbrev pub count_of : List ℕ → Option ℕ
count_of text = if is_numeral text then up_to_most (number_after 0 text) else None

-- exactly one of the names that are known, `generate` with its number
abbrev pub command_named : List (List ℕ) → Option Command
command_named [] = None
command_named (name ∷ []) =
    if bytes_eq name (codes "resolve") then Some (Resolve below.Nothing)
    else (if bytes_eq name (codes "why") then Some (Resolve below.Causes)
    else (if bytes_eq name (codes "cached") then Some Cached
    else (if bytes_eq name (codes "region") then Some Region
    else (if bytes_eq name (codes "token") then Some (Token below.Nothing)
    else (if bytes_eq name (codes "why-token") then Some (Token below.Causes)
    else (if bytes_eq name (codes "explain") then Some Explain
    else (if bytes_eq name (codes "audit") then Some Audit
    else (if bytes_eq name (codes "endpoint") then Some Endpoint
    else (if bytes_eq name (codes "local") then Some Local
    else (if bytes_eq name (codes "--help") then Some Help
    else (if bytes_eq name (codes "--version") then Some Version else None)))))))))))
command_named (name ∷ number ∷ []) = if bytes_eq name (codes "generate") then option_map Generate (count_of number) else None
command_named (name ∷ number ∷ other ∷ more) = None

-- whether it is a command, and such a one
abbrev pub is_command : (Command → Bool) → Option Command → Bool
is_command is None = false
is_command is (Some command) = is command
