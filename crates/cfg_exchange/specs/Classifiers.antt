-- Which attempts a classifier repeats.
use Rattle.std.specs.Prelude.{ℕ, Bool, true, false, ◌||◌, ◌&&◌, nat_le, nat_eq, Option, Some, None}
use Rattle.cfg_types.specs.Replies.{http_in}
use Rattle.cfg_types.specs.declared.reply.http.HttpReply.{HttpReply}
use Rattle.cfg_world.specs.declared.ask.Answer.{Answer}
use Rattle.cfg_world.specs.declared.ask.Answer.TheVariants.{Replied, Failed}
use Rattle.cfg_exchange.specs.declared.reading.Reading.{Reading}
use Rattle.cfg_exchange.specs.declared.reading.Reading.TheVariants.{Fine, Unreadable}
use Rattle.cfg_exchange.specs.declared.reading.ReplyKind.{ReplyKind}
use Rattle.cfg_exchange.specs.declared.classify.ImdsResponseRetryClassifier.{ImdsResponseRetryClassifier}
use Rattle.cfg_exchange.specs.Readings.{is_success, reading}

-- What a classifier says of an attempt: its reply, if the send did not fail, and how that reads.
abbrev pub Repeats : Type 0
Repeats = Option HttpReply → Reading → Bool

abbrev pub is_unreadable : Reading → Bool
is_unreadable Unreadable = true
is_unreadable _ = false

-- the statuses of a server that may answer the next attempt
abbrev pub is_passing : ℕ → Bool
is_passing status = nat_eq status 500 || (nat_eq status 502 || (nat_eq status 503 || nat_eq status 504))

-- a send that failed, a status that may pass, and a success that cannot be read
abbrev pub credentials_repeats : Repeats
credentials_repeats None r = true
credentials_repeats (Some reply) r = is_passing reply.status || (is_success reply.status && is_unreadable r)

-- a server error, or a token that has expired; and a send that failed only where that is asked for
abbrev pub metadata_repeats : ImdsResponseRetryClassifier → Repeats
metadata_repeats c None r = c.retry_connect_timeouts
metadata_repeats c (Some reply) r = (nat_le 500 reply.status && nat_le reply.status 599) || nat_eq reply.status 401

abbrev pub unless_fine : Reading → Bool → Bool
unless_fine Fine b = false
unless_fine _ b = b

abbrev pub repeats_reply : ReplyKind → Repeats → Option HttpReply → Bool
repeats_reply kind repeats None = false
repeats_reply kind repeats (Some reply) = unless_fine (reading kind reply) (repeats (Some reply) (reading kind reply))

-- Whether an attempt with this answer is repeated: never one that reads as fine, and else as the
-- classifier says. A send that failed is handed over without a reply, and as unreadable.
abbrev pub is_repeated : ReplyKind → Repeats → Answer → Bool
is_repeated kind repeats (Replied given) = repeats_reply kind repeats (http_in given)
is_repeated kind repeats (Failed failure) = repeats None Unreadable
is_repeated kind repeats _ = false
