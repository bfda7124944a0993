-- The credentials are held to the end of their life.
use Rattle.cfg_identity.proofs.CallSteps.{holds_keys}
use Rattle.cfg_identity.proofs.loaded.hold.Goals as goal

pub returns-in_ok-copy-in-Ok-clause-holds : goal.returns-in_ok-copy-in-Ok-clause-holds
returns-in_ok-copy-in-Ok-clause-holds c = λ none.
    holds_keys c.args.settings c.args.now c.args.outcome c.args.held.now c.in-Ok.credentials _ c.expiry.result
    c.in-Ok.is c.in_ok-copy-in-Ok.ensures c.expiry.ensures c.end_of-life.ensures
