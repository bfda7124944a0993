use Rattle.std.proofs.Common.{refl}
use Rattle.cfg_kept.specs.KeptStates.{states_of}
use Rattle.cfg_kept.proofs.OneHolding.{one_told_after}
use Rattle.cfg_kept.proofs.SectionSteps.{login_left}
use Rattle.cfg_kept.proofs.kept.KeptKeeper.login_section.Goals as goal

pub returns-clause-follows : goal.returns-clause-follows
returns-clause-follows g c = one_told_after _ _ _ _ _ _ _ _ _ _ (states_of c.args.self.now) _ refl (login_left (states_of c.args.self.now) _ _ c.hold_login.ensures.other) c.hold_login.ensures.one
