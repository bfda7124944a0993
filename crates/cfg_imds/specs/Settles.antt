-- How a session token is had: a kept one, or a new one.
use Rattle.std.specs.Prelude.{ℕ, List, [], Bool, false, Option, Some, None, Result, Ok, Err, if◌then◌else◌}
use Rattle.cfg_base.specs.Instant.{is_later_by}
use Rattle.cfg_base.specs.Moment.{Moment}
use Rattle.cfg_types.specs.declared.errors.imds.ImdsError.{ImdsError}
use Rattle.cfg_types.specs.declared.errors.imds.ImdsError.TheVariants as imds
use Rattle.cfg_types.specs.declared.errors.imds.FailedToLoadToken.{FailedToLoadToken}
use Rattle.cfg_world.specs.declared.ask.Question.TheVariants.{Now}
use Rattle.cfg_world.specs.declared.asking.Asking.{Ghosts}
use Rattle.cfg_world.specs.declared.asking.Stop.{Stop}
use Rattle.cfg_world.specs.Fits.{Pair}
use Rattle.cfg_world.specs.Follows.{Follows}
use Rattle.cfg_world.specs.Inquiry.{Inquiry, Done, after}
use Rattle.cfg_world.specs.Leaves.{clock}
use Rattle.cfg_exchange.specs.Attempts.{asked}
use Rattle.cfg_imds.specs.Requests.{Service, token_attempts}
use Rattle.cfg_imds.specs.Tokens.{Token, read_token}

-- the value of a token, or why there is none
abbrev pub Given : Type 0
Given = Result (List ℕ) ImdsError

-- what comes of a call, and the token that is kept after it
abbrev pub Settled : Type 0
Settled = Given × Option Token

-- enough of a kept token is left: more than 120 seconds
abbrev pub has_time_left : Option Token → Moment → Bool
has_time_left None now = false
has_time_left (Some token) now = is_later_by token.expiry now 120

abbrev pub kept_value : Option Token → List ℕ
kept_value None = []
kept_value (Some token) = token.value

-- a new token is kept; after a refusal none is
abbrev pub renewed : Result Token FailedToLoadToken → Settled
renewed (Ok token) = (Ok token.value, Some token)
renewed (Err e) = (Err (imds.FailedToLoadToken e), None)

-- what these receipts give, and what is kept after it
unfoldable pub renewal : Pair → Pair → Settled
renewal reply reading = renewed (read_token reply reading)

-- a token request in attempts, and a reading of the clock after it, whatever its answer
unfoldable pub renew : Service → List ℕ → Inquiry Settled
renew s endpoint = after (token_attempts s endpoint) (λ reply. after (asked Now) (λ reading. Done (renewal reply reading)))

-- First a reading of the clock. A kept token of which enough is left is used and kept; else a new one is asked for.
unfoldable pub settle_at : Service → List ℕ → Option Token → Inquiry Settled
settle_at s endpoint kept = after clock (λ now. if has_time_left kept now then Done (Ok (kept_value kept), kept) else renew s endpoint)

-- a call's outcome together with what it leaves kept
abbrev pub with_kept : {R V : Type 0} → V → Result R Stop → Result (R × V) Stop
with_kept kept (Ok r) = Ok (r, kept)
with_kept kept (Err stop) = Err stop

-- a call that follows the inquiry, and leaves this kept
abbrev pub FollowsKept : {A R V : Type 0} → Ghosts A → Inquiry (R × V) → A → A → V → Result R Stop → Type 0
FollowsKept a inquiry old new left out = Follows a inquiry old new (with_kept left out)
