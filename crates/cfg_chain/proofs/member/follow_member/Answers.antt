-- The variables are those of the configuration.
use Rattle.cfg_kept.proofs.HoldingSteps.{holds_ends}
use Rattle.cfg_chain.specs.Members.{member_tree}
use Rattle.cfg_chain.proofs.member.follow_member.Goals as goal

pub returns-in_ok-outcome-in-Environment-clause-follows : goal.returns-in_ok-outcome-in-Environment-clause-follows
unfolding member_tree
returns-in_ok-outcome-in-Environment-clause-follows g c = rw c.in-Environment.is (holds_ends (rw c.env.ensures at c.in_ok-outcome-in-Environment.ensures))
