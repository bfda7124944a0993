use Rattle.std.proofs.Common.{ap}
use Rattle.cfg_base.specs.Gives.{◌>>=◌}
use Rattle.cfg_script.specs.Endpoints.{endpoint_in}
use Rattle.cfg_script.proofs.endpoint.WholeEndpointObject.put.Goals as goal

pub returns-clause-put : goal.returns-clause-put
returns-clause-put c = λ ms. ap (λ r. r >>= λ rows. endpoint_in rows) (c.put.ensures.put ms)
