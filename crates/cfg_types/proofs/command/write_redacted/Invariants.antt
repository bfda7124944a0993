-- Where the program is ASCII, the quotation mark and what stands for the characters so far are written.
use Rattle.std.proofs.Common.{◌≡◌, ◌∷◌, true}
use Rattle.std.specs.Char.{is_ascii}
use Rattle.std.specs.Fmt.{IsPlainFormatter, HasWritten, debug_escape}
use Rattle.std.specs.List.{flat_map, list_all}
use Rattle.cfg_types.proofs.command.write_redacted.Given as goal

abbrev pub invariant-loop-c : goal.invariant-loop-c
invariant-loop-c g l = list_all is_ascii l.yielded ≡ true → IsPlainFormatter l.fn.f
    → HasWritten g.W.Write.write_str_gives l.fn.f (34 ∷ flat_map (debug_escape 34) l.yielded) l.f
