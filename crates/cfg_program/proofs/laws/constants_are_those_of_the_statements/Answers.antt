use Rattle.cfg_program.proofs.Escaping.{escaped_as_set}
use Rattle.cfg_program.proofs.laws.constants_are_those_of_the_statements.Goals as goal

pub returns-clause-escaped : goal.returns-clause-escaped
returns-clause-escaped c = λ b. escaped_as_set b
