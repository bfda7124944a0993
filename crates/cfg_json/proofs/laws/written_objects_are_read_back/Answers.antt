use Rattle.cfg_json.proofs.WrittenObjectLaws.{written_object}
use Rattle.cfg_json.proofs.laws.written_objects_are_read_back.Goals as goal

pub returns : goal.returns
returns c = written_object
