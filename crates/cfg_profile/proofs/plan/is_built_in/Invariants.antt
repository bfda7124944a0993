-- None of the sources so far has the name.
use Rattle.std.proofs.Common.{◌≡◌, false, take}
use Rattle.std.specs.List.{list_any}
use Rattle.cfg_profile.specs.NamedSources.{is_alike}
use Rattle.cfg_profile.proofs.plan.is_built_in.Given as goal

abbrev pub invariant-loop-source : goal.invariant-loop-source
invariant-loop-source l = list_any (λ source. is_alike l.name source.now) (take l.source-index l.source-items) ≡ false
