use Rattle.cfg_json.proofs.AnswerLaws.{one_text_is}
use Rattle.cfg_json.proofs.laws.no_object_begins_another.Goals as goal

pub returns : goal.returns
returns c = one_text_is
