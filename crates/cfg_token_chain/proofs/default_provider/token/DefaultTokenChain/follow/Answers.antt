-- What follows the member is the chain.
use Rattle.std.proofs.Common.{subst}
use Rattle.cfg_kept.specs.Holds.{HoldsFollows}
use Rattle.cfg_token_chain.proofs.DefaultSteps.{default_is_told}
use Rattle.cfg_token_chain.proofs.default_provider.token.DefaultTokenChain.follow.Goals as goal

pub returns-clause-follows : goal.returns-clause-follows
returns-clause-follows g c =
    subst (λ tree. HoldsFollows g.A.Asking tree c.args.asking.now (g.P.Keeper.holdings c.args.keeper.now) c.follow_profile.new.asking (g.P.Keeper.holdings c.follow_profile.new.keeper) c.follow_profile.result)
    (default_is_told c.args.self.now) c.follow_profile.ensures.follows
