-- Nothing is asked for the chain.
use Rattle.cfg_assume_role.proofs.Builds.{on_err, stops_still}
use Rattle.cfg_assume_role.proofs.sts.builder.AssumeRoleProviderBuilder.build.Goals as goal

pub returns-in_err-chain_over-clause-stops : goal.returns-in_err-chain_over-clause-stops
returns-in_err-chain_over-clause-stops g c = on_err _ (stops_still _ _ _ _ c.in_ok-call.ensures.built)
