-- The run was handed the entries so far, and each of these has its owner's name.
use Rattle.std.proofs.Common.{◌≡◌, map}
use Rattle.cfg_kept.specs.KeptStates.{states_of, kept_key}
use Rattle.cfg_chain.specs.Views.{chain_of}
use Rattle.cfg_explain.proofs.OwnerSteps.{SoFar}
use Rattle.cfg_explain.proofs.asking.owners.Given as goal

abbrev pub invariant-loop-entry : goal.invariant-loop-entry
invariant-loop-entry g l =
    let over = chain_of (λ z. (goal.ProvideCredentials-dyn g z).value z.1) (λ z. (goal.ClassifyRetry-dyn g z).repeated z.1) l.chain in
    record {
      chain : l.run.chain.now ≡ l.chain;
      so_far : SoFar over (states_of l.fn.kept) (kept_key l.fn.kept) (map (λ e. e.1) l.journal) l.journal l.entry-index l.run.progress l.receipt l.world.devices l.names.items;
    }
