-- The chain that is built is the default one of the configuration.
use Rattle.std.proofs.Common.{subst}
use Rattle.std.proofs.lemmas.Result.{IfOk-weaker}
use Rattle.cfg_region.specs.DefaultSetups.{default_configured}
use Rattle.cfg_region.specs.Defaults.{IsDefault}
use Rattle.caller.proofs.region.region_of.Goals as goal

pub returns : goal.returns
returns g c =
    let default = subst (λ s. IsDefault (default_configured s) c.in_ok-chain.chain) (rw c.in_ok-builder.ensures at c.in_ok-configured.ensures) c.in_ok-chain.ensures in
    IfOk-weaker c.region.result _ _ (λ region asks. record { chain = c.in_ok-chain.chain; default = default; asks = asks }) c.region.ensures.tells
