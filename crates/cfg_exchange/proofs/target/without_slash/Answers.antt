use Rattle.std.proofs.Common.{lit<, None}
use Rattle.std.proofs.lemmas.Str.Pattern.{strip_prefix_char}
use Rattle.cfg_exchange.proofs.Hosts.{no_slash}
use Rattle.cfg_exchange.proofs.target.without_slash.Goals as goal

pub returns-in-None : goal.returns-in-None
returns-in-None c = no_slash c.args.path.now (strip_prefix_char 47 c.args.path.now None c.in-None.ensures.cases (lit< tt))
