-- The answers of scripted devices, each list in its own order, and files as they were last written.
use Rattle.std.specs.Prelude.{◌≡◌, ℕ, List, [], ◌∷◌, ◌++◌, Bool, false, Some, if◌then◌else◌, nat_eq, slice_get}
use Rattle.cfg_types.specs.declared.reply.FailKind.TheVariants.{Io}
use Rattle.cfg_world.specs.declared.ask.Question.{Question}
use Rattle.cfg_world.specs.declared.ask.Question.TheVariants as question
use Rattle.cfg_world.specs.declared.ask.Answer.{Answer}
use Rattle.cfg_world.specs.declared.ask.Answer.TheVariants as answer
use Rattle.cfg_world.specs.declared.script.DeviceLists.{DeviceLists}
use Rattle.cfg_world.specs.Fits.{Pair}
use Rattle.cfg_world.specs.Script.{Channel, Clock, Jitter, Commands, LookUps, Http, ImdsToken, ImdsGet, AssumeRole, WebIdentity, RoleCredentials, CreateToken, SignIn, queue_of, nth_answer, contents_at, read_answer, is_unwritable}

-- a number for each list, by which they are told apart
abbrev pub number_of : Channel → ℕ
number_of Clock = 0
number_of Jitter = 1
number_of Commands = 2
number_of LookUps = 3
number_of Http = 4
number_of ImdsToken = 5
number_of ImdsGet = 6
number_of AssumeRole = 7
number_of WebIdentity = 8
number_of RoleCredentials = 9
number_of CreateToken = 10
number_of SignIn = 11

-- the two are one list
abbrev pub is_list : Channel → Channel → Bool
is_list channel other = nat_eq (number_of channel) (number_of other)

-- the question is answered from this list
abbrev pub is_answered_from : Channel → Question → Bool
is_answered_from channel question.Now = is_list channel Clock
is_answered_from channel question.Jitter = is_list channel Jitter
is_answered_from channel (question.Read path) = false
is_answered_from channel (question.Write path bytes) = false
is_answered_from channel (question.Run command) = is_list channel Commands
is_answered_from channel (question.LookUp host) = is_list channel LookUps
is_answered_from channel (question.Send request) = is_list channel (queue_of request)

-- the answers to the questions that are answered from this list, in order
abbrev pub answers_in : Channel → List Pair → List Answer
answers_in channel [] = []
answers_in channel (e ∷ entries) = if is_answered_from channel e.0 then e.1 ∷ answers_in channel entries else answers_in channel entries

-- the write, if it is one that is granted
abbrev pub granted : DeviceLists → Question → List (List ℕ × List ℕ)
granted lists (question.Write path bytes) = if is_unwritable lists path then [] else (path, bytes) ∷ []
granted lists _ = []

-- the writes that are granted, in order
abbrev pub writes_in : DeviceLists → List Pair → List (List ℕ × List ℕ)
writes_in lists [] = []
writes_in lists (e ∷ entries) = granted lists e.0 ++ writes_in lists entries

-- The n-th answer of each list is its n-th item, and behind its end what stands there. A reading of a
-- file answers what the last granted write before it wrote to this path, else what the last listing
-- of the path says. A write fails where its path is unwritable, and is granted elsewhere.
pub record InOrder (lists : DeviceLists) (entries : List Pair) : Type 0 where
  pub each : (channel : Channel) (n : ℕ) (given : Answer) → slice_get (answers_in channel entries) n ≡ Some given → given ≡ nth_answer lists channel n
  pub reads : (before after : List Pair) (path : List ℕ) (given : Answer) → entries ≡ before ++ (question.Read path, given) ∷ after → given ≡ read_answer (contents_at lists (writes_in lists before) path)
  pub writes : (before after : List Pair) (path bytes : List ℕ) (given : Answer) → entries ≡ before ++ (question.Write path bytes, given) ∷ after → given ≡ (if is_unwritable lists path then answer.Failed Io else answer.Written)
