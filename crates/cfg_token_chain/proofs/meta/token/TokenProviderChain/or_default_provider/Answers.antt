-- Behind the members stands the default chain, or memory ran out behind its region.
use Rattle.cfg_token_chain.specs.Chains.{members_of}
use Rattle.cfg_token_chain.proofs.Building.{set_breaks, ends_by}
use Rattle.cfg_token_chain.proofs.meta.token.TokenProviderChain.or_default_provider.Goals as goal

pub returns-clause-ends : goal.returns-clause-ends
returns-clause-ends g c =
    ends_by c.args.config c.in_ok-default.default _ _ _ (λ chain. members_of (λ b. (goal.ProvideToken-dyn g (b.vtable, b.value)).told_token b.value) chain) c.or_else.result c.in_ok-default.ensures.built c.or_else.ensures

pub returns-clause-breaks : goal.returns-clause-breaks
returns-clause-breaks g c = set_breaks _ _ c.in_ok-default.default _ _ c.or_else.result c.in_ok-default.ensures.built
