use Rattle.cfg_script.specs.Script.{plain_share}
use Rattle.cfg_script.specs.Shares.{share_in}
use Rattle.cfg_script.proofs.Placing.{placed}
use Rattle.cfg_script.proofs.callers.WholeShareObject.read_places.Goals as goal

pub returns : goal.returns
returns c = placed share_in _ _ (plain_share c.share_by.result) c.in_ok-rows.ensures c.share_by.ensures
