use Rattle.cfg_chain.proofs.KeptSignOns.{kept_token_gives}
use Rattle.cfg_chain.proofs.laws.a_kept_token_is_enough.Goals as goal

pub returns : goal.returns
returns c = λ conf sso key value found reading reply rest named hit fine. kept_token_gives conf sso value found reading reply rest hit fine key named
