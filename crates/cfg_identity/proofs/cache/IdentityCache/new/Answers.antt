-- No name, and no slot.
use Rattle.cfg_identity.proofs.NameSteps.{none_counted}
use Rattle.cfg_identity.proofs.cache.IdentityCache.new.Goals as goal

pub invariant_of-result : goal.invariant_of-result
invariant_of-result g c = record { counted = none_counted c.new-2.result.items c.new.result.numbers c.new-2.ensures.items c.new.ensures }
