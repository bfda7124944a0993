use Rattle.std.proofs.Common.{sym}
use Rattle.cfg_base.proofs.TextLemmas.{encodes-chars}
use Rattle.cfg_json.proofs.text.lent.Goals as goal

pub returns-clause-bytes : goal.returns-clause-bytes
returns-clause-bytes c = sym (encodes-chars c.args.text.now c.utf8.text)
