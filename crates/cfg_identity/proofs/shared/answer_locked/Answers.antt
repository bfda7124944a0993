-- The call is one over what stands behind the lock.
use Rattle.cfg_chain.specs.Settings.{ChainSetting}
use Rattle.cfg_chain.specs.Views.{chain_of}
use Rattle.cfg_identity.specs.NameStates.{state_of}
use Rattle.cfg_identity.proofs.SharedSteps.{breaks_found, nothing_breaks}
use Rattle.cfg_identity.proofs.shared.answer_locked.Goals as goal

pub returns-in-Ok : goal.returns-in-Ok
returns-in-Ok g c = record { old = state_of c.fit.new.loaded; new = state_of c.answer_over.new.loaded; call = c.answer_over.ensures }

pub returns-in-Err : goal.returns-in-Err
returns-in-Err g c =
    let over : ChainSetting = chain_of (λ z. (goal.ProvideCredentials-dyn g z).value z.1) (λ z. (goal.ClassifyRetry-dyn g z).repeated z.1) c.args.chain.now in
    let state = state_of c.fit.new.loaded in
    record {
      old = state;
      new = state;
      call = breaks_found g.D.Devices c.args.settings over state state c.args.world.now c.args.world.now c.of_fault.result c.of_fault.ensures.fault c.of_fault.ensures.found (nothing_breaks g.D.Devices c.args.settings over state c.args.world.now);
    }
