-- The call was made, and its line was written, as far as the sink took it.
use Rattle.cfg_program.proofs.Endings.{generated_ends}
use Rattle.cfg_program.proofs.run.generate_line.Goals as goal

pub returns-in-Ok : goal.returns-in-Ok
returns-in-Ok g c = generated_ends _ c.args.n c.in-Ok.answered.is_ok c.in-Ok.answered.lines.items c.in-Ok.ensures c.write_lines.result c.write_lines.ensures
