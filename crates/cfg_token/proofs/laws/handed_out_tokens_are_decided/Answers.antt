use Rattle.cfg_token.proofs.Decided.{records_say}
use Rattle.cfg_token.proofs.laws.handed_out_tokens_are_decided.Goals as goal

pub returns : goal.returns
returns g c = λ i r at. (records_say g.T.FileToken.rules _ _ c.args.loads.now.records c.records-records.ensures.history i r at).handed
