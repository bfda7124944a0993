use Rattle.cfg_json.proofs.WrittenStrings.{written_string}
use Rattle.cfg_json.proofs.laws.written_strings_are_read_back.Goals as goal

pub returns : goal.returns
returns c = written_string
