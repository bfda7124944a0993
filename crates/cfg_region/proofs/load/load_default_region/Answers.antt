-- The region of the default chain, or the beginning of its part.
use Rattle.cfg_exchange.proofs.Checks.{no_question, broken}
use Rattle.cfg_region.proofs.Loads.{loaded, load_breaks}
use Rattle.cfg_region.proofs.load.load_default_region.Goals as goal

pub returns-in-Ok-clause-set : goal.returns-in-Ok-clause-set
returns-in-Ok-clause-set g c =
    let e = c.in-Ok.ensures in
    loaded _ c.into_configuration.result _ c.in_ok-chain.chain _ _ c.in-Ok.region e.part c.in_ok-chain.ensures
    (record { journal = e.grows; fits = e.fits; same = e.same; counted = e.counted; stands = e.stands }) e.reads c.into_configuration.ensures c.with_region.ensures

pub returns-in-Err-clause-breaks : goal.returns-in-Err-clause-breaks
returns-in-Err-clause-breaks g c =
    let e = broken c.in-Err.field-0 c.in-Err.ensures no_question in
    load_breaks _ c.in_ok-chain.chain _ _ e.part c.in_ok-chain.ensures (record { journal = e.grows; fits = e.fits; same = e.same; counted = e.counted }) e.begun
