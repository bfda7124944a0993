use Rattle.cfg_json.proofs.Runs.{stops_are}
use Rattle.cfg_json.proofs.scan.stops.Goals as goal

pub returns : goal.returns
returns c = stops_are c.args.bytes c.fits-bytes.0
