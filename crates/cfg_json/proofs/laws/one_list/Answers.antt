use Rattle.cfg_json.proofs.AnswerLaws.{one_list_is}
use Rattle.cfg_json.proofs.laws.one_list.Goals as goal

pub returns : goal.returns
returns c = one_list_is
