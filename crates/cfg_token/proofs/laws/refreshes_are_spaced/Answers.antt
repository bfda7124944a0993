use Rattle.cfg_token.proofs.Outcomes.{spaced, noted_at_reading}
use Rattle.cfg_token.proofs.laws.refreshes_are_spaced.Goals as goal

pub returns-clause-spaced : goal.returns-clause-spaced
returns-clause-spaced g c = spaced g.T.FileToken.rules g.met.T.FileToken.tells _ _ c.args.loads.now.records c.records-records.ensures.history

pub returns-clause-readings : goal.returns-clause-readings
returns-clause-readings g c = noted_at_reading g.T.FileToken.rules g.met.T.FileToken.tells _ _ c.args.loads.now.records c.records-records.ensures.history
