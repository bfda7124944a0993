-- Memory ran out before anything was asked.
use Rattle.std.proofs.Common.{refl}
use Rattle.cfg_imds.proofs.LeftKept.{left_alone, on_err}
use Rattle.cfg_imds.proofs.Located.{left_stopped}
use Rattle.cfg_region.proofs.imds.region.ImdsRegionProvider.follow.Goals as goal

pub returns-in_err-endpoint-in-Own-clause-left : goal.returns-in_err-endpoint-in-Own-clause-left
returns-in_err-endpoint-in-Own-clause-left g c = on_err c.from_residual.result _ (left_stopped _ _ _ _ _ _ (left_alone _ _ _ _ _ _ refl))
