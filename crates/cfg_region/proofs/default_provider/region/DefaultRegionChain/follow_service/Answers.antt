-- The client asks where the chain has it.
use Rattle.cfg_region.proofs.default_provider.region.DefaultRegionChain.follow_service.Goals as goal

pub returns : goal.returns
returns g c = rw (← c.self.view_is) (rw (c.env.ensures, c.client_at-client.ensures, c.in_ok-endpoint.ensures) at c.follow_metadata.ensures)
