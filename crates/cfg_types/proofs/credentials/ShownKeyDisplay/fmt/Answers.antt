-- The texts are printed as they stand.
use Rattle.cfg_types.proofs.credentials.ShownKeyDisplay.fmt.Goals as goal

pub returns-clause-writes : goal.returns-clause-writes
returns-clause-writes g c = rw (← c.as_str-provider.ensures.bytes, ← c.as_str-id.ensures.bytes) (λ plain ok. c.write.ensures.writes plain ok)
