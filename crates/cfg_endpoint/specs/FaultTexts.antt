-- What a fault of an endpoint says.
use Rattle.std.specs.Prelude.{ℕ, List, ◌++◌, codes}
use Rattle.std.specs.Str.{encode_utf8_all}
use Rattle.cfg_endpoint.specs.declared.fault.EndpointFault.{EndpointFault}
use Rattle.cfg_endpoint.specs.declared.fault.EndpointFault.TheVariants.{BadRole, BadExpiry, OutOfMemory}

abbrev pub fault_text : EndpointFault → List ℕ
fault_text (BadRole role) = codes "no path can be asked for the role `" ++ (encode_utf8_all role ++ codes "`")
fault_text (BadExpiry moment) = codes "the expiry is outside the years 1 to 9999"
fault_text OutOfMemory = codes "out of memory"
