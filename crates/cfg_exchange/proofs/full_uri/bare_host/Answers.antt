use Rattle.std.proofs.Common.{lit<, Some, None}
use Rattle.std.proofs.lemmas.Str.Pattern.{strip_prefix_char, strip_suffix_char}
use Rattle.cfg_exchange.proofs.Hosts.{bare_unclosed, bare_unopened}
use Rattle.cfg_exchange.proofs.full_uri.bare_host.Goals as goal

pub returns-in_default : goal.returns-in_default
returns-in_default c = bare_unopened c.args.host.now (strip_prefix_char 91 c.args.host.now None c.in_default.ensures.cases (lit< tt))

pub returns-in-None : goal.returns-in-None
returns-in-None c =
    let opened = strip_prefix_char 91 c.args.host.now (Some c.in-Some.rest) c.in-Some.ensures.cases (lit< tt) in
    let unclosed = strip_suffix_char 93 c.in-Some.rest.now None c.in-None.ensures.cases (lit< tt) in
    bare_unclosed c.args.host.now c.in-Some.rest.now opened unclosed
