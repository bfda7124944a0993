use Rattle.cfg_sso.proofs.InTime.{nothing_in_the_way}
use Rattle.cfg_sso.proofs.laws.nothing_in_the_way_gives_credentials.Goals as goal

pub returns : goal.returns
returns c = nothing_in_the_way
