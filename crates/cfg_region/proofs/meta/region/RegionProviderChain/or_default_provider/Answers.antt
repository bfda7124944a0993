-- Behind the sources stands the default chain.
use Rattle.cfg_region.proofs.meta.region.RegionProviderChain.or_default_provider.Goals as goal

pub returns : goal.returns
returns g c = record { chain = c.in_ok-default.default; is_default = c.in_ok-default.ensures; are = c.in_ok-chain.ensures }
