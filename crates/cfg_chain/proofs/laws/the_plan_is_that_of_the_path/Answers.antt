-- The plan is the one answer that the law of one plan has.
use Rattle.cfg_profile.proofs.PlanLaws.{the_plan}
use Rattle.cfg_chain.specs.profile.Plans.{profile_plan}
use Rattle.cfg_chain.proofs.laws.the_plan_is_that_of_the_path.Goals as goal

pub returns-clause-path : goal.returns-clause-path
unfolding profile_plan
returns-clause-path c = λ sets name sources. (the_plan sets name sources).said

pub returns-clause-only : goal.returns-clause-only
unfolding profile_plan
returns-clause-only c = λ sets name sources answer said. (the_plan sets name sources).only answer said
