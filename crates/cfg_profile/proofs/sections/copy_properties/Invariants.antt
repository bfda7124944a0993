-- The properties so far.
use Rattle.std.proofs.Common.{◌≡◌, map, take}
use Rattle.cfg_profile.specs.Sections.{bytes_of}
use Rattle.cfg_profile.proofs.sections.copy_properties.Given as goal

abbrev pub invariant-loop-property : goal.invariant-loop-property
invariant-loop-property l = map bytes_of l.copied.items ≡ map bytes_of (take l.property-index l.properties)
