-- What scripted devices answer.
use Rattle.std.specs.Prelude.{◌≡◌, ℕ, ◌+◌, ◌-◌, pos, ◌≤ℤ◌, Bool, List, [], ◌∷◌, ◌++◌, length, map, fold, Option, Some, None, option_and_then, Result, Ok, Err, if◌then◌else◌, slice_get, nat_lt, unwrap_or, All}
use Rattle.std.specs.List.{list_any}
use Rattle.std.specs.Str.{bytes_eq}
use Rattle.cfg_base.specs.Moment.{Moment}
use Rattle.cfg_types.specs.declared.reply.FailKind.{FailKind}
use Rattle.cfg_types.specs.declared.reply.FailKind.TheVariants.{Dispatch, Io}
use Rattle.cfg_types.specs.declared.reply.Reply.{Reply}
use Rattle.cfg_types.specs.declared.reply.Reply.TheVariants as reply
use Rattle.cfg_types.specs.declared.request.Request.{Request}
use Rattle.cfg_types.specs.declared.request.Request.TheVariants as request
use Rattle.cfg_world.specs.declared.ask.Question.{Question}
use Rattle.cfg_world.specs.declared.ask.Question.TheVariants as question
use Rattle.cfg_world.specs.declared.ask.Answer.{Answer}
use Rattle.cfg_world.specs.declared.ask.Answer.TheVariants as answer
use Rattle.cfg_world.specs.declared.script.DeviceLists.{DeviceLists}
use Rattle.cfg_world.specs.Epoch.{epoch}
use Rattle.cfg_world.specs.Faults.{Faults}
use Rattle.cfg_world.specs.Fits.{Pair, IsTransport, IsIo}

-- the lists that are answered from in order
pub data Channel : Type 0 where
  Clock : Channel
  Jitter : Channel
  Commands : Channel
  LookUps : Channel
  Http : Channel
  ImdsToken : Channel
  ImdsGet : Channel
  AssumeRole : Channel
  WebIdentity : Channel
  RoleCredentials : Channel
  CreateToken : Channel
  SignIn : Channel

-- the queue of a request
abbrev pub queue_of : Request → Channel
queue_of (request.Http call) = Http
queue_of (request.MetadataToken call) = ImdsToken
queue_of (request.MetadataGet call) = ImdsGet
queue_of (request.AssumeRole call) = AssumeRole
queue_of (request.AssumeRoleWithWebIdentity call) = WebIdentity
queue_of (request.GetRoleCredentials call) = RoleCredentials
queue_of (request.CreateToken call) = CreateToken
queue_of (request.CreateOAuth2Token call) = SignIn

-- no answers at all
abbrev pub no_answers : DeviceLists
no_answers = record { files = []; unwritable = []; clock = []; jitter = []; commands = []; lookups = []; http = []; imds_token = []; imds_get = []; assume_role = []; web_identity = []; role_credentials = []; create_token = []; sign_in = [] }

-- how far each list was read, and the writes that were granted, in order
pub record Place : Type 0 where
  pub clock : ℕ
  pub jitter : ℕ
  pub commands : ℕ
  pub lookups : ℕ
  pub http : ℕ
  pub imds_token : ℕ
  pub imds_get : ℕ
  pub assume_role : ℕ
  pub web_identity : ℕ
  pub role_credentials : ℕ
  pub create_token : ℕ
  pub sign_in : ℕ
  pub writes : List (List ℕ × List ℕ)

-- the start of each list, before any write
abbrev pub start : Place
start = record { clock = 0; jitter = 0; commands = 0; lookups = 0; http = 0; imds_token = 0; imds_get = 0; assume_role = 0; web_identity = 0; role_credentials = 0; create_token = 0; sign_in = 0; writes = [] }

-- how far this list was read
abbrev pub place_at : Place → Channel → ℕ
place_at place Clock = place.clock
place_at place Jitter = place.jitter
place_at place Commands = place.commands
place_at place LookUps = place.lookups
place_at place Http = place.http
place_at place ImdsToken = place.imds_token
place_at place ImdsGet = place.imds_get
place_at place AssumeRole = place.assume_role
place_at place WebIdentity = place.web_identity
place_at place RoleCredentials = place.role_credentials
place_at place CreateToken = place.create_token
place_at place SignIn = place.sign_in

-- the place with this list read so far
abbrev pub with_place : Place → Channel → ℕ → Place
with_place place Clock n = record place { clock = n }
with_place place Jitter n = record place { jitter = n }
with_place place Commands n = record place { commands = n }
with_place place LookUps n = record place { lookups = n }
with_place place Http n = record place { http = n }
with_place place ImdsToken n = record place { imds_token = n }
with_place place ImdsGet n = record place { imds_get = n }
with_place place AssumeRole n = record place { assume_role = n }
with_place place WebIdentity n = record place { web_identity = n }
with_place place RoleCredentials n = record place { role_credentials = n }
with_place place CreateToken n = record place { create_token = n }
with_place place SignIn n = record place { sign_in = n }

-- scripted devices as contracts see them
pub record Script : Type 0 where
  pub lists : DeviceLists
  pub place : Place
  pub faults : Faults

-- what a device that may fail answers
abbrev pub answered : {T : Type 0} → (T → Answer) → Result T FailKind → Answer
answered of (Ok x) = of x
answered of (Err kind) = answer.Failed kind

-- what a transport answers
abbrev pub sent : Result Reply FailKind → Answer
sent = answered answer.Replied

-- the answers that stand in a list
abbrev pub items_in : DeviceLists → Channel → List Answer
items_in lists Clock = map answer.Moment lists.clock
items_in lists Jitter = map answer.Jitter lists.jitter
items_in lists Commands = map (answered answer.Finished) lists.commands
items_in lists LookUps = map (answered answer.Addresses) lists.lookups
items_in lists Http = map sent lists.http
items_in lists ImdsToken = map sent lists.imds_token
items_in lists ImdsGet = map sent lists.imds_get
items_in lists AssumeRole = map sent lists.assume_role
items_in lists WebIdentity = map sent lists.web_identity
items_in lists RoleCredentials = map sent lists.role_credentials
items_in lists CreateToken = map sent lists.create_token
items_in lists SignIn = map sent lists.sign_in

-- the last reading of a clock, or the epoch
abbrev pub last_reading : List Moment → Moment
last_reading clock = unwrap_or (slice_get clock (length clock - 1)) epoch

-- what stands behind the end of a list: the last reading of the clock again, no jitter, a failure
abbrev pub behind : DeviceLists → Channel → Answer
behind lists Clock = answer.Moment (last_reading lists.clock)
behind lists Jitter = answer.Jitter 0
behind lists Commands = answer.Failed Io
behind lists LookUps = answer.Failed Io
behind lists _ = answer.Failed Dispatch

-- the n-th answer of a list, counted from 0, and behind its end what stands there
abbrev pub nth_answer : DeviceLists → Channel → ℕ → Answer
nth_answer lists channel n = unwrap_or (slice_get (items_in lists channel) n) (behind lists channel)

-- the next answer of a list
abbrev pub next_answer : DeviceLists → Place → Channel → Answer
next_answer lists place channel = nth_answer lists channel (place_at place channel)

-- one place further in a list of so many items, up to its end
abbrev pub step : ℕ → ℕ → ℕ
step at n = if nat_lt at n then at + 1 else at

-- one place further in this list, up to its end
abbrev pub one_further : DeviceLists → Place → Channel → Place
one_further lists place channel = with_place place channel (step (place_at place channel) (length (items_in lists channel)))

-- what the last entry of this path holds, if there is one
abbrev pub latest : {T : Type 0} → List ℕ → List (List ℕ × T) → Option T
latest path entries = fold (λ found e. if bytes_eq e.0 path then Some e.1 else found) None entries

-- what the file of a path holds: what was last written to it, else what its last listing says
abbrev pub contents_of : Option (List ℕ) → Option (Option (List ℕ)) → Option (List ℕ)
contents_of (Some written) listing = Some written
contents_of None listing = option_and_then (λ contents. contents) listing

abbrev pub contents_at : DeviceLists → List (List ℕ × List ℕ) → List ℕ → Option (List ℕ)
contents_at lists writes path = contents_of (latest path writes) (latest path lists.files)

-- a file that holds nothing to read fails
abbrev pub read_answer : Option (List ℕ) → Answer
read_answer (Some contents) = answer.Contents contents
read_answer None = answer.Failed Io

-- no write to this path is granted
abbrev pub is_unwritable : DeviceLists → List ℕ → Bool
is_unwritable lists path = list_any (λ p. bytes_eq p path) lists.unwritable

-- the answer that the lists give to a question at a place
abbrev pub answer_at : DeviceLists → Place → Question → Answer
answer_at lists place question.Now = next_answer lists place Clock
answer_at lists place question.Jitter = next_answer lists place Jitter
answer_at lists place (question.Read path) = read_answer (contents_at lists place.writes path)
answer_at lists place (question.Write path bytes) = if is_unwritable lists path then answer.Failed Io else answer.Written
answer_at lists place (question.Run command) = next_answer lists place Commands
answer_at lists place (question.LookUp host) = next_answer lists place LookUps
answer_at lists place (question.Send request) = next_answer lists place (queue_of request)

-- the place after a question
abbrev pub place_after : DeviceLists → Place → Question → Place
place_after lists place question.Now = one_further lists place Clock
place_after lists place question.Jitter = one_further lists place Jitter
place_after lists place (question.Read path) = place
place_after lists place (question.Write path bytes) = if is_unwritable lists path then place else record place { writes = place.writes ++ (path, bytes) ∷ [] }
place_after lists place (question.Run command) = one_further lists place Commands
place_after lists place (question.LookUp host) = one_further lists place LookUps
place_after lists place (question.Send request) = one_further lists place (queue_of request)

-- each answer is the one that the lists give after the entries before it
abbrev pub Given : DeviceLists → Place → List Pair → Type 0
Given lists place [] = Unit {0}
Given lists place (e ∷ entries) = (e.1 ≡ answer_at lists place e.0) × Given lists (place_after lists place e.0) entries

-- the place that the entries leave
abbrev pub place_left : DeviceLists → Place → List Pair → Place
place_left lists place [] = place
place_left lists place (e ∷ entries) = place_left lists (place_after lists place e.0) entries

-- the lists of entries whose answers are exactly those that the script gives
abbrev pub Allows : Script → List Pair → Type 0
Allows s entries = Given s.lists start entries

-- those of them that also leave it at the place that was reached
abbrev pub Stands : Script → List Pair → Type 0
Stands s entries = Given s.lists start entries × (place_left s.lists start entries ≡ s.place)

-- a reply to a GET
abbrev pub IsHttp : Reply → Type 0
IsHttp (reply.Http given) = Unit {0}
IsHttp _ = ⊥

-- the credentials of a role that was assumed, or a refusal
abbrev pub IsSts : Reply → Type 0
IsSts (reply.Sts given) = Unit {0}
IsSts (reply.Refused refusal) = Unit {0}
IsSts _ = ⊥

-- the credentials of a role that a portal gave, or a refusal
abbrev pub IsRole : Reply → Type 0
IsRole (reply.Role given) = Unit {0}
IsRole (reply.Refused refusal) = Unit {0}
IsRole _ = ⊥

-- a token that was created, or a refusal
abbrev pub IsToken : Reply → Type 0
IsToken (reply.Token given) = Unit {0}
IsToken (reply.Refused refusal) = Unit {0}
IsToken _ = ⊥

-- the token of a sign-in, or a refusal
abbrev pub IsSignIn : Reply → Type 0
IsSignIn (reply.SignIn given) = Unit {0}
IsSignIn (reply.Refused refusal) = Unit {0}
IsSignIn _ = ⊥

-- such a reply, or a failure of the transport
abbrev pub IsSentAs : (Reply → Type 0) → Result Reply FailKind → Type 0
IsSentAs P (Ok reply) = P reply
IsSentAs P (Err kind) = IsTransport kind

-- where it failed, it failed with `Io`
abbrev pub FailsByIo : {T : Type 0} → Result T FailKind → Type 0
FailsByIo (Ok x) = Unit {0}
FailsByIo (Err kind) = IsIo kind

-- every item fits the questions of its list
pub record AllFit (lists : DeviceLists) : Type 0 where
  pub clock : All (λ m. pos 0 ≤ℤ m.seconds) lists.clock
  pub commands : All FailsByIo lists.commands
  pub lookups : All FailsByIo lists.lookups
  pub http : All (IsSentAs IsHttp) lists.http
  pub imds_token : All (IsSentAs IsHttp) lists.imds_token
  pub imds_get : All (IsSentAs IsHttp) lists.imds_get
  pub assume_role : All (IsSentAs IsSts) lists.assume_role
  pub web_identity : All (IsSentAs IsSts) lists.web_identity
  pub role_credentials : All (IsSentAs IsRole) lists.role_credentials
  pub create_token : All (IsSentAs IsToken) lists.create_token
  pub sign_in : All (IsSentAs IsSignIn) lists.sign_in
