-- The world's journal gained the part of the provider, or the beginning of it.
use Rattle.cfg_exchange.proofs.Checks.{no_question}
use Rattle.cfg_imds_credentials.proofs.Over.{ended, began, broken}
use Rattle.cfg_imds_credentials.proofs.imds.credentials.ImdsCredentialsProvider.provide_credentials.Goals as goal

pub returns-in-Ok-clause-provides : goal.returns-in-Ok-clause-provides
returns-in-Ok-clause-provides g c = λ other. ended _ _ _ _ _ _ _ c.in-Ok.ensures.follows

pub returns-in-Ok-clause-stays : goal.returns-in-Ok-clause-stays
returns-in-Ok-clause-stays g c = λ no_memory. began _ _ _ _ _ _ _ c.in-Ok.ensures.follows

pub returns-in-Err-clause-stays : goal.returns-in-Err-clause-stays
returns-in-Err-clause-stays g c = λ no_memory. broken _ _ _ _ _ _ c.in-Err.field-0 c.in-Err.ensures.follows no_question
