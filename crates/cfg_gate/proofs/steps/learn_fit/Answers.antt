use Rattle.std.proofs.Common.{rules}
use Rattle.cfg_gate.proofs.TurnSteps.{fits_word}
use Rattle.cfg_gate.proofs.steps.learn_fit.Goals as goal

pub load-served-requires : goal.load-served-requires
load-served-requires g c = (search rules, search rules, fits_word _ _ _ _ _)
