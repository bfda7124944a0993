-- The call is that over what is kept and held, and behind it nothing of it is left but what is kept.
use Rattle.std.proofs.Common.{sym, subst}
use Rattle.cfg_kept.specs.KeptStates.{kept_holdings}
use Rattle.cfg_chain.specs.Settings.{ChainSetting}
use Rattle.cfg_chain.specs.Views.{chain_of}
use Rattle.cfg_identity.specs.Cached.{Breaks, CachesAny}
use Rattle.cfg_identity.specs.NameStates.{state_of}
use Rattle.cfg_identity.proofs.loaded.Loaded.resolve.Goals as goal

pub returns-clause-caches : goal.returns-clause-caches
returns-clause-caches g c = λ answered.
    let over : ChainSetting = chain_of (λ z. (goal.ProvideCredentials-dyn g z).value z.1) (λ z. (goal.ClassifyRetry-dyn g z).repeated z.1) c.args.chain.now in
    let made = c.resolve_loaded-outcome in
    subst (λ s. CachesAny g.D.Devices c.args.settings over (state_of c.args.self.now) s c.args.world.now made.new.world made.result) (sym c.trim.ensures.state)
    ((kept_holdings made.new.loaded.kept).found, made.ensures.caches answered)

pub returns-clause-breaks : goal.returns-clause-breaks
returns-clause-breaks g c = λ ran_out.
    let over : ChainSetting = chain_of (λ z. (goal.ProvideCredentials-dyn g z).value z.1) (λ z. (goal.ClassifyRetry-dyn g z).repeated z.1) c.args.chain.now in
    let made = c.resolve_loaded-outcome in
    subst (λ s. Breaks g.D.Devices c.args.settings over (state_of c.args.self.now) s c.args.world.now made.new.world) (sym c.trim.ensures.state)
    ((kept_holdings made.new.loaded.kept).found, made.ensures.breaks ran_out)
