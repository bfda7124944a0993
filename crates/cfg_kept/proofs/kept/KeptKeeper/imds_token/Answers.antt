use Rattle.cfg_kept.specs.KeptStates.{states_of}
use Rattle.cfg_kept.proofs.MetadataSteps.{chain_told, named_told}
use Rattle.cfg_kept.proofs.kept.KeptKeeper.imds_token.Goals as goal

pub returns-in-Chain-clause-follows : goal.returns-in-Chain-clause-follows
returns-in-Chain-clause-follows g c = chain_told _ _ _ _ _ _ _ (states_of c.args.self.now) _ _ c.in-Chain.is c.hold_token.ensures

pub returns-in-Named-clause-follows : goal.returns-in-Named-clause-follows
returns-in-Named-clause-follows g c = named_told _ _ _ _ _ _ _ (states_of c.args.self.now) _ _ c.in-Named.is c.hold_token-in-Named.ensures
