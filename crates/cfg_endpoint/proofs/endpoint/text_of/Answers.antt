-- A `&str` is UTF-8.
use Rattle.std.proofs.Common.{ap, ◌∙◌}
use Rattle.std.specs.Str.{all_scalars}
use Rattle.std.proofs.lemmas.Str.{scalars-chars}
use Rattle.cfg_base.proofs.TextLemmas.{characters-chars}
use Rattle.cfg_endpoint.proofs.Makings.{if_ok}
use Rattle.cfg_endpoint.proofs.endpoint.text_of.Goals as goal

pub returns-clause-scalars : goal.returns-clause-scalars
returns-clause-scalars c = if_ok c.of.result _ _ c.of.ensures (λ t is. ap all_scalars (is ∙ characters-chars c.args.text.now) ∙ scalars-chars c.args.text.now c.utf8.text)
