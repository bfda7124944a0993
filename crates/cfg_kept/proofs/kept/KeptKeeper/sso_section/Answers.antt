use Rattle.std.proofs.Common.{refl}
use Rattle.cfg_kept.specs.KeptStates.{states_of}
use Rattle.cfg_kept.proofs.OneHolding.{one_told_after}
use Rattle.cfg_kept.proofs.SectionSteps.{sso_left}
use Rattle.cfg_kept.proofs.kept.KeptKeeper.sso_section.Goals as goal

pub returns-clause-follows : goal.returns-clause-follows
returns-clause-follows g c = one_told_after _ _ _ _ _ _ _ _ _ _ (states_of c.args.self.now) _ refl (sso_left (states_of c.args.self.now) _ _ c.hold_sso.ensures.other) c.hold_sso.ensures.one
