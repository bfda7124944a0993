-- A session token of the instance metadata service, and the rule by which it is read from two receipts.
use Rattle.std.specs.Prelude.{◌≡◌, ℕ, pos, ◌+ℤ◌, List, Bool, true, false, nat_eq, int_lt, Option, Some, None, ok_or, option_and_then, option_map, Result, Ok, Err, if◌then◌else◌}
use Rattle.cfg_base.specs.Moment.{Moment}
use Rattle.cfg_types.specs.Headers.{header}
use Rattle.cfg_types.specs.declared.errors.imds.TokenError.{TokenError}
use Rattle.cfg_types.specs.declared.errors.imds.TokenError.TheVariants.{InvalidToken, NoTtl, InvalidTtl, InvalidParameters, Forbidden}
use Rattle.cfg_types.specs.declared.errors.imds.FailedToLoadToken.{FailedToLoadToken}
use Rattle.cfg_types.specs.declared.errors.imds.FailedToLoadToken.TheVariants as failed
use Rattle.cfg_types.specs.declared.reply.FailKind.{FailKind}
use Rattle.cfg_types.specs.declared.reply.http.HttpReply.{HttpReply}
use Rattle.cfg_types.specs.declared.request.Request.TheVariants.{MetadataToken}
use Rattle.cfg_world.specs.declared.ask.Question.{Question}
use Rattle.cfg_world.specs.declared.ask.Question.TheVariants.{Send, Now}
use Rattle.cfg_world.specs.Fits.{Pair}
use Rattle.cfg_world.specs.Leaves.{http_of, moment_of}
use Rattle.cfg_exchange.specs.HeaderValues.{is_header_value}
use Rattle.cfg_exchange.specs.Lifetimes.{lifetime_header, number_in}

-- a token, without its receipts
pub record Token : Type 0 where
  pub value : List ℕ
  pub expiry : Moment

-- a token with the receipts from which it was read
pub record ReceiptedToken : Type 0 where
  pub value : List ℕ
  pub expiry : Moment
  pub reply : Pair
  pub reading : Pair

-- its receipts are left aside
abbrev pub bare_token : ReceiptedToken → Token
bare_token t = record { value = t.value; expiry = t.expiry }

-- the same of what is kept
abbrev pub bare_kept : Option ReceiptedToken → Option Token
bare_kept kept = option_map bare_token kept

-- so many seconds later, unless the seconds pass the last ones of 64 bits
abbrev pub later : Moment → ℕ → Option Moment
later m seconds =
    if int_lt (pos 9223372036854775807) (m.seconds +ℤ pos seconds) then None
    else Some (record { seconds = m.seconds +ℤ pos seconds; nanos = m.nanos })

-- when a token of this lifetime ends
abbrev pub expiry_by : Option (List ℕ) → Moment → Result Moment TokenError
expiry_by None now = Err NoTtl
expiry_by (Some text) now = ok_or (option_and_then (later now) (number_in text)) InvalidTtl

-- when the token of a reply ends
abbrev pub reply_expiry : HttpReply → Moment → Result Moment TokenError
reply_expiry reply now = expiry_by (header reply.headers lifetime_header) now

abbrev pub token_until : List ℕ → Result Moment TokenError → Result Token TokenError
token_until value (Ok expiry) = Ok (record { value = value; expiry = expiry })
token_until value (Err e) = Err e

-- The token of a reply. No other status than 400 and 403 is looked at.
unfoldable pub reply_token : HttpReply → Moment → Result Token TokenError
reply_token reply now =
    if nat_eq reply.status 400 then Err InvalidParameters
    else (if nat_eq reply.status 403 then Err Forbidden
    else (if is_header_value reply.body then token_until reply.body (reply_expiry reply now) else Err InvalidToken))

abbrev pub or_failed : Result Token TokenError → Result Token FailedToLoadToken
or_failed (Ok token) = Ok token
or_failed (Err e) = Err (failed.Token e)

abbrev pub sent_token : Result HttpReply FailKind → Moment → Result Token FailedToLoadToken
sent_token (Ok reply) now = or_failed (reply_token reply now)
sent_token (Err kind) now = Err (failed.Sent kind)

-- the token of a reply and of the reading of the clock after it
unfoldable pub read_token : Pair → Pair → Result Token FailedToLoadToken
read_token reply reading = sent_token (http_of reply.1) (moment_of reading.1)

-- a request for a session token
abbrev pub is_token_request : Question → Bool
is_token_request (Send (MetadataToken call)) = true
is_token_request _ = false

-- The token is what the rule reads from its receipts. The first is of a request for a session token, and
-- the second is a reading of the clock.
pub record IsRead (t : ReceiptedToken) : Type 0 where
  pub reads : read_token t.reply t.reading ≡ Ok (bare_token t)
  pub sends : is_token_request t.reply.0 ≡ true
  pub asks : t.reading.0 ≡ Now

-- an Ok, changed by f
abbrev pub in_ok : {T U E : Type 0} → (T → U) → Result T E → Result U E
in_ok f (Ok x) = Ok (f x)
in_ok f (Err e) = Err e
