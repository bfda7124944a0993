use Rattle.cfg_json.proofs.InnerObjects.{inner_object_is}
use Rattle.cfg_json.proofs.laws.members_that_are_objects_hold_objects.Goals as goal

pub returns : goal.returns
returns c = inner_object_is
