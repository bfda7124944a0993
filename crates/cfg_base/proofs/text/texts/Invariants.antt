-- The texts of the strings so far.
use Rattle.std.proofs.Common.{◌≡◌, map, string_bytes}
use Rattle.cfg_base.specs.Text.{characters}
use Rattle.cfg_base.proofs.text.texts.Given as goal

abbrev pub invariant-loop-string : goal.invariant-loop-string
invariant-loop-string l = l.texts.items ≡ map (λ s. characters (string_bytes s)) l.yielded
