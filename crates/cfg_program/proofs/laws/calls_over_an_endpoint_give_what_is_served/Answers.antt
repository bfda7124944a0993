use Rattle.cfg_program.proofs.EndpointServes.{gives_served}
use Rattle.cfg_program.proofs.laws.calls_over_an_endpoint_give_what_is_served.Goals as goal

pub returns : goal.returns
returns c = gives_served
