use Rattle.cfg_providers.proofs.ProcessSaid.{said_answers, says_one_thing}
use Rattle.cfg_providers.proofs.laws.a_process_document_says_one_thing.Goals as goal

pub returns-clause-said : goal.returns-clause-said
returns-clause-said c = said_answers

pub returns-clause-only : goal.returns-clause-only
returns-clause-only c = says_one_thing
