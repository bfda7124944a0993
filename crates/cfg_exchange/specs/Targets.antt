-- Where a container's credentials are asked for: a full address and what is asked about it.
use Rattle.std.specs.Prelude.{ℕ, List, Bool, true, false, Result, Ok, Err, if◌then◌else◌}
use Rattle.std.specs.List.{list_all}
use Rattle.cfg_base.specs.declared.address.Address.{Address}
use Rattle.cfg_types.specs.declared.reply.FailKind.{FailKind}
use Rattle.cfg_types.specs.declared.errors.container.InvalidFullUriError.{InvalidFullUriError}
use Rattle.cfg_types.specs.declared.errors.container.InvalidFullUriError.TheVariants as invalid
use Rattle.cfg_world.specs.Inquiry.{Inquiry, Done, after}
use Rattle.cfg_world.specs.Leaves.{looking_up}
use Rattle.cfg_exchange.specs.Addresses.{is_allowed}
use Rattle.cfg_exchange.specs.declared.target.Target.{Target}
use Rattle.cfg_exchange.specs.declared.full_uri.FullUri.{FullUri}
use Rattle.cfg_exchange.specs.declared.full_uri.FullUri.TheVariants.{Unreadable, Hostless, Schemeless, Secure, AtAddress, AtName}

abbrev pub Checked : Type 0
Checked = Result Target InvalidFullUriError

abbrev pub allowed_if : Target → Bool → Checked
allowed_if target b = if b then Ok target else Err invalid.DisallowedIP

-- a host that was looked up: all of its addresses have to be allowed
abbrev pub looked_up : Target → Result (List Address) FailKind → Checked
looked_up target (Ok addresses) = allowed_if target (list_all is_allowed addresses)
looked_up target (Err kind) = Err invalid.DnsLookupFailed

-- a host that is a name, with a resolver or without one
abbrev pub at_name : Bool → Target → List ℕ → Inquiry Checked
at_name false target host = Done (Err invalid.NoDnsResolver)
at_name true target host = after (looking_up host) (λ found. Done (looked_up target found))

-- The target of a full address. HTTPS may go anywhere. Else the host has to be an allowed address, or
-- a name whose addresses are all allowed.
unfoldable pub full_target : Bool → FullUri → Inquiry Checked
full_target dns Unreadable = Done (Err invalid.InvalidUri)
full_target dns Hostless = Done (Err invalid.MissingHost)
full_target dns Schemeless = Done (Err invalid.InvalidUri)
full_target dns (Secure target) = Done (Ok target)
full_target dns (AtAddress target address) = Done (allowed_if target (is_allowed address))
full_target dns (AtName target host) = at_name dns target host
