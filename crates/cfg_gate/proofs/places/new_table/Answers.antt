use Rattle.std.proofs.Common.{rules, refl}
use Rattle.cfg_gate.proofs.TurnSteps.{opens}
use Rattle.cfg_gate.proofs.places.new_table.Goals as goal

pub new-requires : goal.new-requires
new-requires g c = opens _ _ c.args.state _ _ refl (search rules) c.requires.loads c.requires.bound
