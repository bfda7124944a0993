-- The answer tells what was found, or what was held is put back.
use Rattle.cfg_kept.specs.KeptStates.{kept_holdings}
use Rattle.cfg_chain.specs.Settings.{ChainSetting}
use Rattle.cfg_chain.specs.Views.{chain_of}
use Rattle.cfg_identity.specs.NameStates.{state_of}
use Rattle.cfg_identity.proofs.SharedSteps.{on_err, nothing_breaks, found_result, broken_result}
use Rattle.cfg_identity.proofs.shared.found_over.Goals as goal

pub returns-clause-found : goal.returns-clause-found
returns-clause-found g c =
    let over : ChainSetting = chain_of (λ z. (goal.ProvideCredentials-dyn g z).value z.1) (λ z. (goal.ClassifyRetry-dyn g z).repeated z.1) c.args.chain.now in
    let made = c.resolve_loaded-outcome in
    found_result g.D.Devices c.args.settings over c.args.world.now made.new.world (state_of c.args.loaded.now) (state_of made.new.loaded) (state_of c.with_found.new.loaded)
    c.in_ok-held.held (kept_holdings made.new.loaded.kept).found made.result c.with_found.result
    c.in_ok-held.ensures made.ensures.caches made.ensures.breaks c.with_found.ensures.told c.with_found.ensures.held c.with_found.ensures.found c.with_found.ensures.state

pub returns-clause-breaks : goal.returns-clause-breaks
returns-clause-breaks g c =
    let over : ChainSetting = chain_of (λ z. (goal.ProvideCredentials-dyn g z).value z.1) (λ z. (goal.ClassifyRetry-dyn g z).repeated z.1) c.args.chain.now in
    let made = c.resolve_loaded-outcome in
    broken_result g.D.Devices c.args.settings over c.args.world.now made.new.world (state_of c.args.loaded.now) (state_of made.new.loaded) (state_of c.with_found.new.loaded)
    c.in_ok-held.held (kept_holdings made.new.loaded.kept).found made.result c.with_found.result
    c.in_ok-held.ensures made.ensures.caches made.ensures.breaks c.with_found.ensures.back

-- nothing was asked yet
pub returns-in_err-held-clause-breaks : goal.returns-in_err-held-clause-breaks
returns-in_err-held-clause-breaks g c =
    let over : ChainSetting = chain_of (λ z. (goal.ProvideCredentials-dyn g z).value z.1) (λ z. (goal.ClassifyRetry-dyn g z).repeated z.1) c.args.chain.now in
    on_err _ (nothing_breaks g.D.Devices c.args.settings over (state_of c.args.loaded.now) c.args.world.now)
