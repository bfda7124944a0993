-- Each caller's lists fit its devices, and there are as many callers as there may be.
use Rattle.cfg_script.specs.Script.{plain_share}
use Rattle.cfg_script.proofs.Fitting.{share_fits, share_counts}
use Rattle.cfg_script.proofs.reading.read_share.Goals as goal

pub returns-in-Ok-Ok-clause-fits : goal.returns-in-Ok-Ok-clause-fits
returns-in-Ok-Ok-clause-fits c = share_fits c.args.bytes.now (plain_share c.in-Ok-Ok.script) (rw c.in-Ok-Ok.field-0-is at c.in-Ok-Ok.ensures)

pub returns-in-Ok-Ok-clause-callers : goal.returns-in-Ok-Ok-clause-callers
returns-in-Ok-Ok-clause-callers c = share_counts c.args.bytes.now (plain_share c.in-Ok-Ok.script) (rw c.in-Ok-Ok.field-0-is at c.in-Ok-Ok.ensures)
