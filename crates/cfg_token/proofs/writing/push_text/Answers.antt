-- A `&str` is UTF-8.
use Rattle.std.proofs.Common.{ap, ◌∙◌}
use Rattle.std.specs.Str.{all_scalars}
use Rattle.std.proofs.lemmas.Str.{scalars-chars}
use Rattle.cfg_base.proofs.TextLemmas.{characters-chars}
use Rattle.cfg_token.proofs.writing.push_text.Goals as goal

pub returns-clause-scalars : goal.returns-clause-scalars
returns-clause-scalars c = ap all_scalars (characters-chars c.args.text.now) ∙ scalars-chars c.args.text.now c.utf8.text
