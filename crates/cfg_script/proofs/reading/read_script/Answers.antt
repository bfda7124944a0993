-- A script's lists fit their devices, and it makes as many calls as there may be.
use Rattle.cfg_script.specs.Script.{plain}
use Rattle.cfg_script.proofs.Fitting.{said_fits, said_counts}
use Rattle.cfg_script.proofs.reading.read_script.Goals as goal

pub returns-in-Ok-Ok-clause-fits : goal.returns-in-Ok-Ok-clause-fits
returns-in-Ok-Ok-clause-fits c = said_fits c.args.bytes.now (plain c.in-Ok-Ok.script) (rw c.in-Ok-Ok.field-0-is at c.in-Ok-Ok.ensures)

pub returns-in-Ok-Ok-clause-calls : goal.returns-in-Ok-Ok-clause-calls
returns-in-Ok-Ok-clause-calls c = said_counts c.args.bytes.now (plain c.in-Ok-Ok.script) (rw c.in-Ok-Ok.field-0-is at c.in-Ok-Ok.ensures)
