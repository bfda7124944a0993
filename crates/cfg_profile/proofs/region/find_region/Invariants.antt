-- So many steps from the selected profile, and no region so far.
use Rattle.std.proofs.Common.{◌≡◌, Some}
use denote.Text.{Utf8}
use denote.Shadow.{shadow}
use Rattle.cfg_profile.proofs.RegionWalks.{after}
use Rattle.cfg_profile.proofs.region.find_region.Given as goal

abbrev pub invariant-loop-step : goal.invariant-loop-step
invariant-loop-step l = record {
  text : shadow (Utf8 l.name);
  stands : after l.set.profiles l.selected l.step ≡ Some l.name;
}
