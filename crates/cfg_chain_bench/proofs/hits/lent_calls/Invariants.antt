-- What is kept has the chain's key.
use Rattle.std.proofs.Common.{◌≡◌}
use Rattle.cfg_kept.specs.KeptStates.{kept_key}
use Rattle.cfg_chain.specs.profile.Plans.{key_of}
use Rattle.cfg_chain_bench.proofs.hits.lent_calls.Given as goal

abbrev pub invariant-loop : goal.invariant-loop
invariant-loop g l = kept_key l.kept ≡ key_of l.chain.core
