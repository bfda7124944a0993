use Rattle.std.proofs.Common.{ap}
use Rattle.cfg_base.specs.Gives.{◌>>=◌}
use Rattle.cfg_script.specs.Endpoints.{endpoint_in}
use Rattle.cfg_script.proofs.endpoint.WholeEndpointObject.empty.Goals as goal

pub returns : goal.returns
returns c = λ ms. ap (λ r. r >>= λ rows. endpoint_in rows) (c.empty.ensures ms)
