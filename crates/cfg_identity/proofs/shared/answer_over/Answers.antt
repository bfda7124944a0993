-- Memory ran out before it could be told what was found.
use Rattle.cfg_chain.specs.Settings.{ChainSetting}
use Rattle.cfg_chain.specs.Views.{chain_of}
use Rattle.cfg_identity.specs.NameStates.{state_of}
use Rattle.cfg_identity.proofs.SharedSteps.{breaks_found}
use Rattle.cfg_identity.proofs.shared.answer_over.Goals as goal

pub returns-in-Err : goal.returns-in-Err
returns-in-Err g c =
    let over : ChainSetting = chain_of (λ z. (goal.ProvideCredentials-dyn g z).value z.1) (λ z. (goal.ClassifyRetry-dyn g z).repeated z.1) c.args.chain.now in
    breaks_found g.D.Devices c.args.settings over (state_of c.args.loaded.now) (state_of c.found_over.new.loaded) c.args.world.now c.found_over.new.world c.of_fault.result
    c.of_fault.ensures.fault c.of_fault.ensures.found c.in-Err.ensures.breaks
