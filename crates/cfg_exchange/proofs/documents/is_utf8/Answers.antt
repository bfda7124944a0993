use Rattle.cfg_exchange.proofs.Utf8.{passes_utf8, fails_utf8}
use Rattle.cfg_exchange.proofs.documents.is_utf8.Goals as goal

pub returns-in-Ok : goal.returns-in-Ok
returns-in-Ok c = passes_utf8 c.args.bytes.now c.in-Ok.ensures.cases.1

pub returns-in-Err : goal.returns-in-Err
returns-in-Err c = fails_utf8 c.args.bytes.now c.in-Err.ensures.cases.0
