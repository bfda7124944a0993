-- What a run knows of its chain's plan.
use Rattle.std.specs.Prelude.{ℕ, List, map, Option, Some, None, Ok}
use Rattle.cfg_types.specs.declared.settings.CallSettings.{CallSettings}
use Rattle.cfg_providers.specs.declared.custom.CustomSource.{CustomSource}
use Rattle.cfg_chain.specs.profile.Plans.{Planned}
use Rattle.cfg_run.specs.declared.planned.PlannedRoles.{PlannedRoles}

-- the plan that is known, and else this one
abbrev pub plan_or : Option PlannedRoles → Planned → Planned
plan_or (Some planned) given = Ok planned.plan
plan_or None given = given

-- the settings that are known, and else these
abbrev pub settings_or : Option PlannedRoles → CallSettings → CallSettings
settings_or (Some planned) given = planned.settings
settings_or None given = given

-- the names of sources
abbrev pub names_in : {V : Type 0} {I : V → Type 0} → List (CustomSource V I) → List (List ℕ)
names_in sources = map (λ s. s.name) sources
