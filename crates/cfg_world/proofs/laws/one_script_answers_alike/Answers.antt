use Rattle.cfg_world.proofs.Agreeing.{given_alike}
use Rattle.cfg_world.proofs.laws.one_script_answers_alike.Goals as goal

pub returns : goal.returns
returns c = given_alike
