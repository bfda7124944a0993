-- The calls so far.
use Rattle.std.proofs.Common.{◌≡◌}
use Rattle.cfg_kept.specs.KeptStates.{states_of, kept_key}
use Rattle.cfg_chain.specs.Views.{chain_of}
use Rattle.cfg_program.specs.Why.{told_as}
use Rattle.cfg_program.specs.Calls.{IsMade, MakesCalls}
use Rattle.cfg_program.proofs.resolve.calls.Given as goal

abbrev pub invariant-loop : goal.invariant-loop
invariant-loop g l = record {
  made : MakesCalls (IsMade (chain_of (λ z. (goal.ProvideCredentials-dyn g z).value z.1) (λ z. (goal.ClassifyRetry-dyn g z).repeated z.1) l.chain)) g.D.Devices
      (told_as (chain_of (λ z. (goal.ProvideCredentials-dyn g z).value z.1) (λ z. (goal.ClassifyRetry-dyn g z).repeated z.1) l.chain) l.form) l.counter
      (states_of l.fn.kept) (states_of l.kept) l.fn.world.devices l.world.devices l.is_ok l.fn.lines.items l.lines.items;
  key : kept_key l.kept ≡ kept_key l.fn.kept;
}
