-- The sections so far.
use Rattle.std.proofs.Common.{◌≡◌, map}
use Rattle.cfg_base.specs.Entries.{each_set}
use Rattle.cfg_profile.specs.Sections.{named_section}
use Rattle.cfg_profile.proofs.sections.by_name.Given as goal

abbrev pub invariant-loop-section : goal.invariant-loop-section
invariant-loop-section l = l.named ≡ each_set (map named_section l.yielded)
