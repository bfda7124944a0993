-- What devices are after their endpoint was lent.
use Rattle.std.specs.Borrow.{Lends, MutBor, Fml}
use Rattle.cfg_endpoint.specs.contracts.devices.EndpointDevices as devices
use Rattle.cfg_endpoint.specs.contracts.endpoint.Endpoint as endpoint
use Rattle.cfg_endpoint.specs.Endpoints.{EndpointState}
use Rattle.cfg_endpoint.specs.Devices.{DevicesState}

-- the devices with this endpoint, which start here
abbrev pub started_with : DevicesState → EndpointState → DevicesState
started_with d e = record d { endpoint = e; first_given = d.endpoint.given; first_place = d.place }

-- they end with what is left behind the endpoint that was lent
abbrev pub LendsEndpoint : MutBor DevicesState → MutBor EndpointState → Fml
LendsEndpoint s r = Lends devices.the_row endpoint.the_row s r (started_with s.now)
