use Rattle.cfg_token.proofs.Decided.{records_say}
use Rattle.cfg_token.proofs.laws.refreshes_are_of_the_file_that_was_read.Goals as goal

pub returns : goal.returns
returns g c = λ i r at. (records_say g.T.FileToken.rules _ _ c.args.loads.now.records c.records-records.ensures.history i r at).asked
