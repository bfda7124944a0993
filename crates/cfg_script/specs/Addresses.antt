-- The address that a text stands for.
use Rattle.std.specs.Prelude.{ℕ, List, Option, Some, None}
use Rattle.std.specs.Int.{w32, w128, from_be_bytes}
use Rattle.std.specs.Net.Addr.{octets_of}
use Rattle.std.specs.Net.Reader.{read_ipv4, read_ipv6, whole_value}
use Rattle.serde_json.specs.Data.{Data}
use Rattle.serde_json.specs.Find.{as_str}
use Rattle.cfg_base.specs.declared.address.Address.{Address}
use Rattle.cfg_base.specs.declared.address.Address.TheVariants.{V4, V6}
use Rattle.cfg_script.specs.Json.{◌>>=◌}
use Rattle.cfg_script.specs.Forms.{Form, whole_form}
use Rattle.cfg_script.specs.declared.fault.Wanted.TheVariants as wanted

-- of four octets, or else of eight segments
abbrev pub address_by : Option (List ℕ) → Option (List ℕ) → Option Address
address_by (Some octets) segments = Some (V4 (from_be_bytes w32 octets))
address_by None (Some segments) = Some (V6 (from_be_bytes w128 (octets_of segments)))
address_by None None = None

-- what std reads as an address, with nothing behind it
unfoldable pub address_from : List ℕ → Option Address
address_from text = address_by (whole_value (read_ipv4 text)) (whole_value (read_ipv6 text))

unfoldable pub address_of : Data → Option Address
address_of d = as_str d >>= address_from

abbrev pub address : Form Address
address = whole_form wanted.Address address_of
