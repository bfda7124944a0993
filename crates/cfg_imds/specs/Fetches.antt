-- What stands at a path, or why it is not had.
use Rattle.std.specs.Prelude.{ℕ, List, [], Bool, true, false, Option, Some, None, Result, Ok, Err, if◌then◌else◌}
use Rattle.cfg_base.specs.Text.{characters}
use Rattle.cfg_types.specs.declared.errors.imds.ImdsError.{ImdsError}
use Rattle.cfg_types.specs.declared.errors.imds.ImdsError.TheVariants as imds
use Rattle.cfg_types.specs.declared.errors.imds.UnexpectedCause.TheVariants.{NotUtf8, Dispatch}
use Rattle.cfg_types.specs.declared.reply.FailKind.{FailKind}
use Rattle.cfg_types.specs.declared.reply.FailKind.TheVariants as fail
use Rattle.cfg_types.specs.declared.reply.http.HttpReply.{HttpReply}
use Rattle.cfg_types.specs.declared.request.Request.TheVariants.{MetadataGet}
use Rattle.cfg_world.specs.declared.ask.Question.{Question}
use Rattle.cfg_world.specs.declared.ask.Question.TheVariants.{Send}
use Rattle.cfg_world.specs.Fits.{Pair}
use Rattle.cfg_world.specs.Inquiry.{Inquiry, Done, after}
use Rattle.cfg_world.specs.Leaves.{http_of}
use Rattle.cfg_exchange.specs.Readings.{is_success}
use Rattle.cfg_imds.specs.Requests.{Service, get_attempts}
use Rattle.cfg_json.specs.Reading.{utf8_of}

-- a send that failed
abbrev pub send_error : FailKind → ImdsError
send_error fail.Dispatch = imds.Unexpected Dispatch
send_error kind = imds.IoError kind

abbrev pub text_fault : Option (List ℕ) → Option ImdsError
text_fault (Some text) = None
text_fault None = Some (imds.Unexpected NotUtf8)

-- what is wrong with a reply: it is no success, or its body is not UTF-8
unfoldable pub reply_fault : HttpReply → Option ImdsError
reply_fault reply = if is_success reply.status then text_fault (utf8_of reply.body) else Some (imds.ErrorResponse (record { reply = reply }))

abbrev pub sent_fault : Result HttpReply FailKind → Option ImdsError
sent_fault (Ok reply) = reply_fault reply
sent_fault (Err kind) = Some (send_error kind)

-- a request for what stands at a path
abbrev pub is_get : Question → Bool
is_get (Send (MetadataGet call)) = true
is_get _ = false

-- what is wrong with the answer of an entry
unfoldable pub entry_fault : Pair → Option ImdsError
entry_fault e = sent_fault (http_of e.1)

abbrev pub unless_fault : {T : Type 0} → T → Option ImdsError → Result T ImdsError
unless_fault x None = Ok x
unless_fault x (Some error) = Err error

-- an entry with whose answer nothing is wrong
unfoldable pub fetched : Pair → Result Pair ImdsError
fetched e = unless_fault e (entry_fault e)

-- the attempts at a path; the last answer decides
unfoldable pub fetch_at : Service → List ℕ → List ℕ → List ℕ → Inquiry (Result Pair ImdsError)
fetch_at s endpoint path token = after (get_attempts s endpoint path token) (λ last. Done (fetched last))

abbrev pub text_or : Result HttpReply FailKind → List ℕ
text_or (Ok reply) = characters reply.body
text_or (Err kind) = []

-- the text of the reply of an entry
unfoldable pub entry_text : Pair → List ℕ
entry_text e = text_or (http_of e.1)
