-- No name.
use Rattle.cfg_identity.proofs.NameSteps.{numbered_none}
use Rattle.cfg_identity.proofs.names.Names.new.Goals as goal

pub invariant_of-result : goal.invariant_of-result
invariant_of-result c = record { numbered = numbered_none c.new.result c.new.ensures }
