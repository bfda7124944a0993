-- What the program's devices answer.
use Rattle.std.specs.Prelude.{◌≡◌, ◌≢◌, ◌⊎◌, ℕ, List, codes}
use Rattle.std.specs.List.{AllByRecursion}
use Rattle.std.specs.Str.{encode_utf8_all}
use Rattle.cfg_base.specs.Text.{characters}
use Rattle.cfg_types.specs.declared.reply.FailKind.TheVariants.{Dispatch, Io}
use Rattle.cfg_world.specs.declared.ask.Question.{Question}
use Rattle.cfg_world.specs.declared.ask.Question.TheVariants as question
use Rattle.cfg_world.specs.declared.ask.Answer.{Answer}
use Rattle.cfg_world.specs.declared.ask.Answer.TheVariants as answer
use Rattle.cfg_world.specs.Asked.{Same}
use Rattle.cfg_world.specs.Epoch.{epoch}
use Rattle.cfg_world.specs.Fits.{Pair}

-- A clock that stands at the epoch, a jitter that is 0, and the file of this path, which is read as this content.
-- All else fails.
abbrev pub IsAnswer : List ℕ → List ℕ → Question → Answer → Type 0
IsAnswer path content question.Now given = given ≡ answer.Moment epoch
IsAnswer path content question.Jitter given = given ≡ answer.Jitter 0
IsAnswer path content (question.Read asked) given =
    ((encode_utf8_all asked ≢ path) × (given ≡ answer.Failed Io)) ⊎ ((asked ≡ characters path) × (given ≡ answer.Contents content))
IsAnswer path content (question.Send request) given = given ≡ answer.Failed Dispatch
IsAnswer path content _ given = given ≡ answer.Failed Io

-- the lists in which each answer is such a one
abbrev pub AllAnswered : List ℕ → List ℕ → List Pair → Type 0
AllAnswered path content entries = AllByRecursion (λ e. IsAnswer path content e.0 e.1) entries

-- the file of the token of the session `reader`, and what it holds
abbrev pub token_path : List ℕ
token_path = codes "/cache/3d0941964aa3ebdcb00ccef58b1bb399f9f898465e9886d5aec7f31090a0fb30.json"

abbrev pub token_content : List ℕ
token_content =
    codes "{\"accessToken\":{\"accessKeyId\":\"AK\",\"secretAccessKey\":\"SK\",\"sessionToken\":\"ST\",\"accountId\":\"012345678901\",\"expiresAt\":\"1970-01-01T00:15:00Z\"},\"refreshToken\":\"rt\",\"clientId\":\"ci\",\"dpopKey\":\"dk\"}"

-- The devices with a file of this path and content answer as those with the file of the token.
abbrev pub HoldsToken : List ℕ → List ℕ → Type 0
HoldsToken path content = Same (AllAnswered token_path token_content) (AllAnswered path content)
