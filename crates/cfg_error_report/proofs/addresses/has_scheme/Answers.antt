-- There is a `://` somewhere exactly where the text, or what stands behind some of its bytes, begins with one.
use Rattle.std.proofs.lemmas.Str.Pattern.{contains_text}
use Rattle.std.specs.Prelude.{codes}
use Rattle.cfg_error_report.proofs.Schemes.{scheme_if}
use Rattle.cfg_error_report.proofs.addresses.has_scheme.Goals as goal

pub returns : goal.returns
returns c = scheme_if c.contains.result c.args.text.now (contains_text c.contains.result (codes "://") c.args.text.now c.contains.ensures.cases)
