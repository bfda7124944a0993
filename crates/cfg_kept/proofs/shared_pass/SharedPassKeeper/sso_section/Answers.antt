-- The key of the state is the one that is kept.
use Rattle.std.proofs.Common.{None, IfSome, map, subst}
use Rattle.cfg_kept.specs.FoundValues.{bare}
use Rattle.cfg_kept.specs.Holds.{HoldsFollows, held}
use Rattle.cfg_kept.specs.SsoHoldings.{sso_holding}
use Rattle.cfg_kept.proofs.shared_pass.SharedPassKeeper.sso_section.Goals as goal

pub returns-clause-follows : goal.returns-clause-follows
returns-clause-follows g c =
    subst (λ k. IfSome k (λ key. HoldsFollows g.A.Asking (sso_holding key c.args.env.now c.args.settings.now) c.args.asking.now (held (map bare c.args.self.now.found.items) None) c.hold_sso.new.asking (held (map bare c.hold_sso.new.found.items) None) c.hold_sso.result))
    c.sso_state-state.ensures.key c.hold_sso.ensures
