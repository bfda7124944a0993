-- Lists of one item of what is asked, and of nothing else.
use Rattle.std.specs.Prelude.{◌≡◌, ◌⊎◌, ℕ, List, [], ◌∷◌, Option, Result}
use Rattle.cfg_base.specs.Moment.{Moment}
use Rattle.cfg_base.specs.declared.address.Address.{Address}
use Rattle.cfg_types.specs.declared.command.Finished.{Finished}
use Rattle.cfg_types.specs.declared.reply.Reply.{Reply}
use Rattle.cfg_types.specs.declared.reply.FailKind.{FailKind}
use Rattle.cfg_types.specs.declared.request.Request.{Request}
use Rattle.cfg_types.specs.declared.request.Request.TheVariants as request
use Rattle.cfg_world.specs.declared.ask.Question.{Question}
use Rattle.cfg_world.specs.declared.ask.Question.TheVariants as question
use Rattle.cfg_world.specs.declared.script.DeviceLists.{DeviceLists}
use Rattle.cfg_world.specs.Script.{no_answers}

-- a reply, or a send that failed
abbrev pub Sent : Type 0
Sent = Result Reply FailKind

-- one reply to a request
abbrev pub reply_alone : Request → Sent → DeviceLists
reply_alone (request.Http call) sent = record no_answers { http = sent ∷ [] }
reply_alone (request.MetadataToken call) sent = record no_answers { imds_token = sent ∷ [] }
reply_alone (request.MetadataGet call) sent = record no_answers { imds_get = sent ∷ [] }
reply_alone (request.AssumeRole call) sent = record no_answers { assume_role = sent ∷ [] }
reply_alone (request.AssumeRoleWithWebIdentity call) sent = record no_answers { web_identity = sent ∷ [] }
reply_alone (request.GetRoleCredentials call) sent = record no_answers { role_credentials = sent ∷ [] }
reply_alone (request.CreateToken call) sent = record no_answers { create_token = sent ∷ [] }
reply_alone (request.CreateOAuth2Token call) sent = record no_answers { sign_in = sent ∷ [] }

-- The lists are one item of what is asked: of a file that is read, one of its path; of a write, nothing where it is
-- granted, and else its path.
abbrev pub IsOneItem : Question → DeviceLists → Type 0
IsOneItem question.Now lists = (reading : Moment) × (lists ≡ record no_answers { clock = reading ∷ [] })
IsOneItem question.Jitter lists = (number : ℕ) × (lists ≡ record no_answers { jitter = number ∷ [] })
IsOneItem (question.Read path) lists = (contents : Option (List ℕ)) × (lists ≡ record no_answers { files = (path, contents) ∷ [] })
IsOneItem (question.Write path bytes) lists = (lists ≡ no_answers) ⊎ (lists ≡ record no_answers { unwritable = path ∷ [] })
IsOneItem (question.Run command) lists = (left : Result Finished FailKind) × (lists ≡ record no_answers { commands = left ∷ [] })
IsOneItem (question.LookUp host) lists = (found : Result (List Address) FailKind) × (lists ≡ record no_answers { lookups = found ∷ [] })
IsOneItem (question.Send asked) lists = (sent : Sent) × (lists ≡ reply_alone asked sent)
