use Rattle.cfg_token.proofs.Outcomes.{ends_after_reading}
use Rattle.cfg_token.proofs.laws.handed_out_tokens_last.Goals as goal

pub returns : goal.returns
returns g c = ends_after_reading g.T.FileToken.rules g.met.T.FileToken.tells _ _ c.args.loads.now.records c.records-records.ensures.history
