-- Written digits are read back.
use Rattle.std.proofs.Common.{ap, ◌∙◌}
use Rattle.cfg_exchange.specs.Lifetimes.{number}
use Rattle.cfg_endpoint.proofs.Numbers.{number_written, written_utf8}
use Rattle.cfg_endpoint.proofs.tokens.read_number.Goals as goal

pub returns-in-Ok : goal.returns-in-Ok
returns-in-Ok c = λ n le is. c.number.ensures ∙ ap number (c.in-Ok.ensures.cases.0 ∙ is) ∙ number_written n le

pub returns-in-Err : goal.returns-in-Err
returns-in-Err c = λ n le is. absurd (c.in-Err.ensures.cases.0 (written_utf8 _ n le is))
