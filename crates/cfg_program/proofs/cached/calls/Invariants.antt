-- The calls so far.
use Rattle.std.proofs.Common.{◌≡◌}
use Rattle.cfg_chain.specs.Views.{chain_of}
use Rattle.cfg_identity.specs.NameStates.{loaded_key, state_of}
use Rattle.cfg_program.specs.declared.causes.Below.TheVariants.{Nothing}
use Rattle.cfg_program.specs.declared.lines.LineForm.TheVariants.{Call}
use Rattle.cfg_program.specs.Cached.{IsCachedCall}
use Rattle.cfg_program.specs.Lines.{shown_as}
use Rattle.cfg_program.specs.Calls.{MakesCalls}
use Rattle.cfg_program.proofs.cached.calls.Given as goal

abbrev pub invariant-loop : goal.invariant-loop
invariant-loop g l = record {
  made : MakesCalls
      (IsCachedCall (chain_of (λ z. (goal.ProvideCredentials-dyn g z).value z.1) (λ z. (goal.ClassifyRetry-dyn g z).repeated z.1) l.chain))
      g.D.Devices (shown_as (Call Nothing)) l.counter (state_of l.fn.loaded) (state_of l.loaded) l.fn.world.devices l.world.devices l.is_ok l.fn.lines.items l.lines.items;
  key : loaded_key l.loaded ≡ loaded_key l.fn.loaded;
}
