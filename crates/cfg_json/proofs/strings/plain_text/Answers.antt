use Rattle.std.proofs.Common.{sym}
use Rattle.cfg_json.proofs.PlainEnds.{plain_text_is}
use Rattle.cfg_json.proofs.strings.plain_text.Goals as goal

pub returns : goal.returns
returns c = sym (plain_text_is c.args.bytes.now c.in_ok-text.text.now _ (sym c.in_ok-text.ensures) c.requires c.of.ensures)
