-- The instance metadata service's client: the mode that a text names, and what its errors say.
use Rattle.std.specs.Prelude.{ℕ, List, Bool, true, false, Option, Some, None, codes, if◌then◌else◌}
use Rattle.std.specs.Str.{str_eq_ignore_ascii_case}
use Rattle.cfg_types.specs.declared.errors.imds.EndpointMode.{EndpointMode}
use Rattle.cfg_types.specs.declared.errors.imds.EndpointMode.TheVariants.{IpV4, IpV6}
use Rattle.cfg_types.specs.declared.reply.FailKind.TheVariants.{Dispatch}
use Rattle.cfg_types.specs.declared.reply.http.HttpReply.{HttpReply}
use Rattle.cfg_types.specs.declared.errors.imds.FailedToLoadToken.{FailedToLoadToken}
use Rattle.cfg_types.specs.declared.errors.imds.FailedToLoadToken.TheVariants.{Sent}
use Rattle.cfg_types.specs.declared.errors.imds.ErrorResponse.{ErrorResponse}

-- the mode that a text names, ASCII case of letters apart
abbrev pub mode_in : List ℕ → Option EndpointMode
mode_in text =
    if str_eq_ignore_ascii_case text (codes "IPv4") then Some IpV4
    else (if str_eq_ignore_ascii_case text (codes "IPv6") then Some IpV6 else None)

-- the request for a session token could not be sent
abbrev pub is_dispatch_failure : FailedToLoadToken → Bool
is_dispatch_failure (Sent Dispatch) = true
is_dispatch_failure _ = false

-- the reply that an error is made of
abbrev pub error_reply : ErrorResponse → HttpReply
error_reply e = e.reply
