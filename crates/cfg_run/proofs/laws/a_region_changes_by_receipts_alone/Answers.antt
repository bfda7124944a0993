use Rattle.cfg_run.proofs.RegionLaws.{by_receipts}
use Rattle.cfg_run.proofs.laws.a_region_changes_by_receipts_alone.Goals as goal

pub returns : goal.returns
returns c = by_receipts
