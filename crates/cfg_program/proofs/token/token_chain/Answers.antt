-- The region that is given is the chain's, and nothing is asked for it.
use Rattle.cfg_token_chain.proofs.GivenRegions.{given_chain, given_chain_grows}
use Rattle.cfg_program.proofs.token.token_chain.Goals as goal

pub returns-clause-chain : goal.returns-clause-chain
returns-clause-chain g c = given_chain _ _ _ c.args.config c.args.region _ _ _ c.build.result c.in_ok-builder.ensures c.configure-builder.ensures c.region.ensures c.build.ensures.built

pub returns-clause-world : goal.returns-clause-world
returns-clause-world g c = given_chain_grows _ _ _ c.args.config c.args.region _ _ _ c.build.result c.in_ok-builder.ensures c.configure-builder.ensures c.region.ensures c.build.ensures.built
