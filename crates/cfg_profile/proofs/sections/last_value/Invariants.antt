-- The last match of the properties so far.
use Rattle.std.proofs.Common.{◌≡◌, map, take}
use Rattle.std.specs.Prelude.{option_map}
use Rattle.cfg_profile.specs.Sections.{bytes_of, last_match}
use Rattle.cfg_profile.proofs.sections.last_value.Given as goal

abbrev pub invariant-loop-property : goal.invariant-loop-property
invariant-loop-property l = option_map (λ v. v.now) l.found ≡ last_match l.key (map bytes_of (take l.property-index l.properties))
