-- The properties so far.
use Rattle.std.proofs.Common.{◌≡◌, map, take}
use Rattle.cfg_profile.specs.SectionParts.{bytes_of}
use Rattle.caller.proofs.configuration.section.Given as goal

abbrev pub invariant-loop-key : goal.invariant-loop-key
invariant-loop-key l = map bytes_of l.held.items ≡ map (λ p. (p.0.now, p.1.now)) (take l.key-index l.properties)
