use Rattle.cfg_chain.proofs.FoundCalls.{provides_found, interrupted_found}
use Rattle.cfg_chain.proofs.laws.a_lent_call_is_one_of_its_found_values.Goals as goal

pub returns-clause-answered : goal.returns-clause-answered
returns-clause-answered g c = provides_found g.D.Devices

pub returns-clause-interrupted : goal.returns-clause-interrupted
returns-clause-interrupted g c = interrupted_found g.D.Devices
