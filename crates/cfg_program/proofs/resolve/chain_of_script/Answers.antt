-- The chain is that of what the script configures.
use Rattle.cfg_script.specs.Script.{plain}
use Rattle.cfg_program.proofs.Configuring.{script_chain}
use Rattle.cfg_program.proofs.resolve.chain_of_script.Goals as goal

pub returns-clause-chain : goal.returns-clause-chain
returns-clause-chain g c = script_chain _ _ (plain c.args.script) _ c.in_ok-chain.ensures c.in_ok-config.ensures
