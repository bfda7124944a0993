use Rattle.cfg_explain.proofs.OneOwner.{one_list}
use Rattle.cfg_explain.proofs.laws.one_list_of_owners_is_true.Goals as goal

pub returns : goal.returns
returns c = λ over old new newer found more journal names also o p. one_list over old journal new newer found more names also o p
