use Rattle.std.proofs.Common.{rules, ◌≤◌, subst}
use Rattle.cfg_gate.proofs.TurnSteps.{splits}
use Rattle.cfg_gate.proofs.places.cut.Goals as goal

pub split_seat-requires : goal.split_seat-requires
split_seat-requires g c = (search rules, search rules, splits _ _ _ _ _ c.requires.idle.0 (subst (λ n. n ≤ c.args.place.now.me.0.left) c.requires.is c.requires.share))
