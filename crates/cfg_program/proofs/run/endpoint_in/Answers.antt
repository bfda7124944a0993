-- The bytes were read, and say an endpoint or none; or they were not read.
use Rattle.std.proofs.Common.{sym, subst}
use Rattle.cfg_program.specs.Endpoints.{made_endpoint_of}
use Rattle.cfg_program.specs.Run.{WasRead}
use Rattle.cfg_program.proofs.Endings.{early_unread, found_over}
use Rattle.cfg_program.proofs.run.endpoint_in.Goals as goal

pub returns-in-Ok-clause-read : goal.returns-in-Ok-clause-read
returns-in-Ok-clause-read g c = found_over _ made_endpoint_of c.as_slice.result.now (subst (WasRead _) (sym c.as_slice.ensures.value) c.in-Ok.ensures) _ c.endpoint_by.result c.endpoint_by.ensures.read

pub returns-in-Err-clause-read : goal.returns-in-Err-clause-read
returns-in-Err-clause-read g c = early_unread _ _ c.in-Err.ended c.in-Err.ensures
