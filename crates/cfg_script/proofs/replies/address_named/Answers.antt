use Rattle.cfg_script.proofs.AddressText.{parse_is}
use Rattle.cfg_script.proofs.replies.address_named.Goals as goal

pub returns : goal.returns
returns c = parse_is c.args.text.now c.utf8.text c.parse.result c.parse.ensures.found c.parse.ensures.only
