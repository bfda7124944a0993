-- What the object of an endpoint says fits its devices, and it makes as many calls as there may be.
use Rattle.cfg_script.proofs.EndpointFits.{endpoint_fits}
use Rattle.cfg_script.proofs.endpoint.read_endpoint.Goals as goal

pub returns-in-Ok-Ok-clause-clock : goal.returns-in-Ok-Ok-clause-clock
returns-in-Ok-Ok-clause-clock c = (endpoint_fits c.args.bytes.now c.in-Ok-Ok.script (rw c.in-Ok-Ok.field-0-is at c.in-Ok-Ok.ensures)).0

pub returns-in-Ok-Ok-clause-calls : goal.returns-in-Ok-Ok-clause-calls
returns-in-Ok-Ok-clause-calls c = (endpoint_fits c.args.bytes.now c.in-Ok-Ok.script (rw c.in-Ok-Ok.field-0-is at c.in-Ok-Ok.ensures)).1.0

pub returns-in-Ok-Ok-clause-forgets : goal.returns-in-Ok-Ok-clause-forgets
returns-in-Ok-Ok-clause-forgets c = (endpoint_fits c.args.bytes.now c.in-Ok-Ok.script (rw c.in-Ok-Ok.field-0-is at c.in-Ok-Ok.ensures)).1.1
