use Rattle.cfg_chain.specs.Settings.{with_sources}
use Rattle.cfg_program.specs.Local.{local_configuration}
use Rattle.cfg_program.proofs.OneLine.{one_line}
use Rattle.cfg_program.proofs.laws.one_journal_has_one_line.Goals as goal

pub returns : goal.returns
returns c = λ handed part a b line other. one_line (with_sources (local_configuration handed.variables) handed.sources) part a b line other
