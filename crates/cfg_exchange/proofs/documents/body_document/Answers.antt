-- The body is UTF-8 and a document, or why it is not.
use Rattle.cfg_exchange.proofs.Bodies.{body_not_utf8, body_said, body_refused}
use Rattle.cfg_exchange.proofs.documents.body_document.Goals as goal

pub returns-in_default : goal.returns-in_default
returns-in_default c = body_not_utf8 c.args.body.now c.in_default.ensures.cases.0

pub returns-in-Ok-2 : goal.returns-in-Ok-2
returns-in-Ok-2 c =
    body_said c.args.body.now c.in-Ok.text.now c.in_ok-said.field-0 c.in-Ok-2.said c.in-Ok.ensures.cases.1 c.in-Ok.ensures.cases.0 c.in_ok-said.ensures c.in-Ok-2.is

pub returns-in-Err : goal.returns-in-Err
returns-in-Err c =
    body_refused c.args.body.now c.in-Ok.text.now c.in_ok-said.field-0 c.in-Err.error c.in-Ok.ensures.cases.1 c.in-Ok.ensures.cases.0 c.in_ok-said.ensures c.in-Err.is
