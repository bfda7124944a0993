-- Memory ran out before anything was asked.
use Rattle.std.proofs.Common.{inl, refl}
use Rattle.cfg_imds.proofs.LeftKept.{left_alone, on_err}
use Rattle.cfg_region.proofs.Loads.{nothing_asked}
use Rattle.cfg_region.proofs.imds.region.ImdsRegionProvider.region.Goals as goal

pub returns-in_err-endpoint-in-Own-clause-breaks : goal.returns-in_err-endpoint-in-Own-clause-breaks
returns-in_err-endpoint-in-Own-clause-breaks g c = on_err c.from_residual.result _ (nothing_asked _ _)

pub returns-in_err-endpoint-in-Own-clause-left : goal.returns-in_err-endpoint-in-Own-clause-left
returns-in_err-endpoint-in-Own-clause-left g c = on_err c.from_residual.result _ (inl (left_alone _ _ _ _ _ _ refl))
