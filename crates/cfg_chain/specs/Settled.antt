-- What a chain settles when it is built.
use Rattle.std.specs.Prelude.{◌≡◌, None}
use Rattle.cfg_exchange.specs.Containers.{IsContainerUri}
use Rattle.cfg_imds.specs.Endpoints.{IsEndpoint}
use Rattle.cfg_profile.specs.Configuration.{Configuration}
use Rattle.cfg_chain.specs.declared.settled.Settled.{Settled}
use Rattle.cfg_chain.specs.profile.Plans.{settled_plan, key_of}

-- It is what the configuration gives: whose token is kept, the plan, the address of a container, and where
-- instance metadata is asked.
pub record IsSettled (conf : Configuration) (settled : Settled) : Type 0 where
  pub token_key : settled.token_key ≡ key_of conf
  pub plan : settled.plan ≡ settled_plan conf
  pub container : IsContainerUri conf.environment settled.container
  pub imds_endpoint : IsEndpoint conf None None settled.imds_endpoint
