use Rattle.cfg_program.proofs.OneEndpoint.{one_endpoint}
use Rattle.cfg_program.proofs.laws.one_endpoint_has_one_list_of_lines.Goals as goal

pub returns : goal.returns
returns c = one_endpoint
