-- What is left is the chain of the other members, after the attempts so far.
use Rattle.std.proofs.Common.{◌≡◌, [], drop}
use Rattle.cfg_kept.proofs.HoldingSteps.{HoldsLeads}
use Rattle.cfg_chain.specs.Views.{view}
use Rattle.cfg_kept.specs.Chains.{chain}
use Rattle.cfg_chain.specs.Members.{credentials_chain}
use Rattle.cfg_chain.proofs.AskerSteps.{AskerLeads}
use Rattle.cfg_chain.proofs.chain.follow_chain.Given as goal

abbrev pub invariant-loop-member : goal.invariant-loop-member
invariant-loop-member g l =
    let s = view (λ z. (goal.ProvideCredentials-dyn g z).value z.1) (λ z. (goal.ClassifyRetry-dyn g z).repeated z.1) l.call in
    record {
      leads : HoldsLeads g.A.Asking (chain (credentials_chain s) l.members []) l.fn.asking (g.P.Keeper.holdings l.fn.keeper) l.asking (g.P.Keeper.holdings l.keeper) (chain (credentials_chain s) (drop l.member-index l.members) l.attempts.items);
      asker : AskerLeads g.A.Asking (credentials_chain s) l.members l.fn.asking (g.P.Keeper.holdings l.fn.keeper) l.asking (g.P.Keeper.holdings l.keeper) (drop l.member-index l.members);
      key : g.P.Keeper.key_held l.keeper ≡ g.P.Keeper.key_held l.fn.keeper;
    }
