-- How a reply reads, and which readings are repeated.
use Rattle.std.specs.Prelude.{◌≡◌, ℕ, Bool, ◌||◌, ◌&&◌, nat_le, nat_eq, is_some, Option, IfSome, Result, Ok, Err, if◌then◌else◌}
use Rattle.std.specs.Str.{is_utf8}
use Rattle.cfg_types.specs.declared.errors.UnhandledCause.{UnhandledCause}
use Rattle.cfg_types.specs.declared.reply.FailKind.{FailKind}
use Rattle.cfg_types.specs.declared.reply.http.HttpReply.{HttpReply}
use Rattle.cfg_world.specs.declared.ask.Answer.{Answer}
use Rattle.cfg_world.specs.Leaves.{http_of}
use Rattle.cfg_json.specs.declared.credentials.JsonCredentials.{JsonCredentials}
use Rattle.cfg_json.specs.declared.credentials.JsonCredentials.TheVariants as says
use Rattle.cfg_exchange.specs.declared.reading.Reading.{Reading}
use Rattle.cfg_exchange.specs.declared.reading.Reading.TheVariants.{Fine, Refused, Unreadable}
use Rattle.cfg_exchange.specs.declared.reading.ReplyKind.{ReplyKind}
use Rattle.cfg_exchange.specs.declared.reading.ReplyKind.TheVariants as kind
use Rattle.cfg_exchange.specs.Documents.{body_document}
use Rattle.cfg_exchange.specs.HeaderValues.{is_header_value}
use Rattle.cfg_exchange.specs.Lifetimes.{lifetime}

-- a status of success: 200 to 299
abbrev pub is_success : ℕ → Bool
is_success status = nat_le 200 status && nat_le status 299

-- credentials are fine, and an error document refuses
abbrev pub said_reading : Result JsonCredentials UnhandledCause → Reading
said_reading (Ok (says.RefreshableCredentials id secret token account end)) = Fine
said_reading (Ok (says.Error code message)) = Refused
said_reading (Err cause) = Unreadable

abbrev pub fine_if : Bool → Reading
fine_if b = if b then Fine else Unreadable

-- what a reply says that is read as a document
abbrev pub IsSentDocument : Result HttpReply FailKind → Result JsonCredentials UnhandledCause → Type 0
IsSentDocument (Ok reply) said = said ≡ body_document reply.body
IsSentDocument (Err kind) said = ⊥

-- what an answer's reply says, where it was read as a document
abbrev pub IsReadOf : Answer → Option (Result JsonCredentials UnhandledCause) → Type 0
IsReadOf answer said = IfSome said (IsSentDocument (http_of answer))

-- a reply that is to hold a document of credentials
unfoldable pub document_reading : HttpReply → Reading
document_reading reply = if is_success reply.status then said_reading (body_document reply.body) else Refused

-- A reply that is to hold a metadata token. No other status than 400 and 403 refuses.
unfoldable pub token_reading : HttpReply → Reading
token_reading reply =
    if nat_eq reply.status 400 || nat_eq reply.status 403 then Refused
    else fine_if (is_header_value reply.body && is_some (lifetime reply))

-- a reply that is to hold a text
unfoldable pub text_reading : HttpReply → Reading
text_reading reply = if is_success reply.status then fine_if (is_utf8 reply.body) else Refused

-- how a reply of this kind reads
abbrev pub reading : ReplyKind → HttpReply → Reading
reading kind.Document reply = document_reading reply
reading kind.MetadataToken reply = token_reading reply
reading kind.MetadataText reply = text_reading reply
