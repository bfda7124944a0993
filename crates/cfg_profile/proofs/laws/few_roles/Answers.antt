use Rattle.std.proofs.Common.{refl}
use Rattle.std.specs.FinMap.{get}
use Rattle.cfg_profile.proofs.PlanLaws.{few_roles_at}
use Rattle.cfg_profile.proofs.laws.few_roles.Goals as goal

pub returns : goal.returns
returns c sets name chain h = few_roles_at sets name (get sets.profiles name) chain refl h
