-- The call is that over what is kept and held.
use Rattle.cfg_chain.specs.Settings.{ChainSetting}
use Rattle.cfg_chain.specs.Views.{chain_of}
use Rattle.cfg_identity.specs.NameStates.{state_of}
use Rattle.cfg_identity.proofs.CallSteps.{resolves_from}
use Rattle.cfg_identity.proofs.cache.Slot.resolve.Goals as goal

pub returns : goal.returns
returns g c =
    let over : ChainSetting = chain_of (λ z. (goal.ProvideCredentials-dyn g z).value z.1) (λ z. (goal.ClassifyRetry-dyn g z).repeated z.1) c.args.self.now.chain in
    resolves_from g.D.Devices c.args.settings over (state_of c.args.self.now.loaded) (state_of c.resolve.new.self)
    c.args.world.now c.resolve.new.world c.resolve.result c.told.result c.told.ensures c.resolve.ensures.caches c.resolve.ensures.breaks
