use Rattle.cfg_chain.proofs.Validity.{valid_loaded}
use Rattle.cfg_chain.proofs.laws.nothing_in_the_way_gives_credentials.Goals as goal

pub returns : goal.returns
returns c = valid_loaded
