-- The journal gained what was asked for the name.
use Rattle.cfg_exchange.proofs.Checks.{no_question, broken}
use Rattle.cfg_assume_role.proofs.sts.builder.named.Goals as goal

pub returns-in-Ok-clause-asks : goal.returns-in-Ok-clause-asks
returns-in-Ok-clause-asks g c =
    let e = c.in-Ok.ensures in
    record { part = e.part; grows = record { journal = e.grows; fits = e.fits; same = e.same; counted = e.counted; stands = e.stands }; reads = e.reads }

pub returns-in-Err-clause-breaks : goal.returns-in-Err-clause-breaks
returns-in-Err-clause-breaks g c =
    let e = broken c.in-Err.field-0 c.in-Err.ensures no_question in
    record { part = e.part; stays = record { journal = e.grows; fits = e.fits; same = e.same; counted = e.counted }; begun = e.begun }
