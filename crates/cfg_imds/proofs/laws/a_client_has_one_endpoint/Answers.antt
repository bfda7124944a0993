use Rattle.cfg_imds.proofs.OneEndpoint.{one_endpoint, one_client, one_asked}
use Rattle.cfg_imds.proofs.laws.a_client_has_one_endpoint.Goals as goal

pub returns-clause-endpoint : goal.returns-clause-endpoint
returns-clause-endpoint c = one_endpoint

pub returns-clause-client : goal.returns-clause-client
returns-clause-client c = one_client

pub returns-clause-asked : goal.returns-clause-asked
returns-clause-asked c = one_asked
