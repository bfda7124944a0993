-- The first part has no colon.
use Rattle.std.proofs.Common.{ap, sym, ◌∙◌, arith}
use Rattle.std.proofs.lemmas.Str.Pattern.{split_parts}
use Rattle.cfg_providers.specs.Sts.{behind_colon}
use Rattle.cfg_providers.proofs.Colons.{behind_free, behind_none}
use Rattle.cfg_providers.proofs.sts.behind_colon.Goals as goal

pub returns-in-Some : goal.returns-in-Some
returns-in-Some c =
    let cut = rw c.in-Some.is at (split_parts 58 c.args.text.now c.split_once.result c.split_once.ensures.cases (omega arith)) in
    sym (ap behind_colon cut.0 ∙ behind_free _ _ cut.1)

pub returns-in-None : goal.returns-in-None
returns-in-None c =
    let free = rw c.in-None.is at (split_parts 58 c.args.text.now c.split_once.result c.split_once.ensures.cases (omega arith)) in
    sym (behind_none c.args.text.now free)
