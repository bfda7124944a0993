-- The characters of a number's text.
use Rattle.std.proofs.Common.{ap, ◌∙◌}
use Rattle.cfg_base.specs.Text.{characters}
use Rattle.cfg_endpoint.proofs.Numbers.{decimal_text}
use Rattle.cfg_endpoint.proofs.endpoint.lifetime_header.Goals as goal

pub returns : goal.returns
returns c =
    let value = c.in_ok-value.ensures ∙ ap characters c.format.ensures.text ∙ decimal_text c.args.lifetime c.ranges.lifetime.fits in
    λ i. record { name = c.in_ok-name.ensures i; value = value i }
