-- The endpoint is made, or it is not.
use Rattle.std.proofs.Common.{sym, subst}
use Rattle.std.specs.Prelude.{Some}
use Rattle.cfg_program.specs.Endpoints.{if_made}
use Rattle.cfg_program.specs.Run.{EndsOver}
use Rattle.cfg_program.proofs.EndpointFound.{was_made, was_not_made}
use Rattle.cfg_program.proofs.endpoint.made_by.Goals as goal

pub returns-in-Ok-clause-read : goal.returns-in-Ok-clause-read
returns-in-Ok-clause-read c = was_made c.args.script c.in-Ok.endpoint c.in-Ok.ensures

pub returns-in-Err-clause-read : goal.returns-in-Err-clause-read
returns-in-Err-clause-read c = subst (EndsOver (if_made (Some c.args.script))) (sym c.ended_by.ensures) (was_not_made c.args.script c.in-Err.fault c.in-Err.ensures)
