-- The callers so far.
use Rattle.std.proofs.Common.{◌≡◌, ◌++◌, take}
use Rattle.std.specs.List.{flat_map}
use Rattle.cfg_program.specs.Tokens.{shown_token}
use Rattle.cfg_program.proofs.gated.write_each.Given as goal

abbrev pub invariant-loop-caller : goal.invariant-loop-caller
invariant-loop-caller l = l.line.items ≡ l.fn.line.items ++ flat_map (λ _. shown_token l.outcome l.journal) (take l._caller-index l.callers)
