use Rattle.cfg_imds.proofs.Quiet.{refusal_keeps_nothing}
use Rattle.cfg_imds.proofs.laws.a_refusal_keeps_no_token.Goals as goal

pub returns : goal.returns
returns c = λ client kept left part e reads. refusal_keeps_nothing client kept part e left reads
