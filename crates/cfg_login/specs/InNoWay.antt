-- Calls in whose way nothing stands.
use Rattle.std.specs.Prelude.{◌≢◌, ◌⊎◌, ℤ, pos, ◌+ℤ◌, ◌≤ℤ◌, List, [], ◌∷◌, Option, Some, None, IsSome, IsOk, codes}
use Rattle.cfg_base.specs.Moment.{Moment}
use Rattle.cfg_types.specs.Environment.{Variables, variable}
use Rattle.cfg_types.specs.declared.reply.Reply.TheVariants as reply
use Rattle.cfg_types.specs.declared.reply.sign_in.SignInToken.{SignInToken}
use Rattle.cfg_world.specs.declared.ask.Answer.{Answer as Given}
use Rattle.cfg_world.specs.declared.ask.Answer.TheVariants as answer
use Rattle.cfg_world.specs.Fits.{Pair}
use Rattle.cfg_world.specs.Leaves.{moment_of}
use Rattle.cfg_profile.specs.Configuration.{Configuration}
use Rattle.cfg_token.specs.declared.decision.Decision.TheVariants.{Refuse}
use Rattle.cfg_token.specs.Decisions.{decision}
use Rattle.cfg_token.specs.Readings.{IsHit}
use Rattle.cfg_token.specs.Sections.{ok_of}
use Rattle.cfg_login_token.specs.declared.login_token.LoginToken.{LoginToken}
use Rattle.cfg_login_token.specs.LoginFile.{login_file}
use Rattle.cfg_login_token.specs.LoginTokens.{login_rules}
use Rattle.cfg_kept.specs.Kinds.{Value}
use Rattle.cfg_kept.specs.LoginHoldings.{login_spot}
use Rattle.cfg_kept.specs.SectionParts.{found_at}

-- The folder of the files is known: one of the variables that name it can be read.
abbrev pub HasFolder : Variables → Type 0
HasFolder env = IsOk (variable env (codes "AWS_LOGIN_CACHE_DIRECTORY")) ⊎ IsOk (variable env (codes "HOME"))

-- the token that a file holds, where it was read and holds one
abbrev pub held_token : Given → Option LoginToken
held_token (answer.Contents bytes) = ok_of (login_file bytes)
held_token _ = None

-- A lifetime that begins now is at least a second, and ends by the last second of all.
pub record Lasts (now : Moment) (lifetime : ℤ) : Type 0 where
  pub some : pos 1 ≤ℤ lifetime
  pub end : (now.seconds +ℤ lifetime) ≤ℤ pos 9223372036854775807

abbrev pub GivesToken : Moment → Option SignInToken → Type 0
GivesToken now None = ⊥
GivesToken now (Some token) = Lasts now token.expires_in

-- The reply gives a token that lasts.
abbrev pub IsGranted : Moment → Given → Type 0
IsGranted now (answer.Replied (reply.SignIn given)) = GivesToken now given.token
IsGranted now _ = ⊥

-- A refresh that was asked for was granted. Whether the new token was written does not matter.
abbrev pub IsRefreshed : Moment → List Pair → Type 0
IsRefreshed now [] = Unit {0}
IsRefreshed now (request ∷ rest) = IsGranted now request.1

-- The file holds a token that is not refused by the reading behind it: it ends later, or the last attempt
-- to refresh it is long enough ago.
abbrev pub IsInTime : Option Moment → Moment → List Pair → Option LoginToken → Type 0
IsInTime last now rest None = ⊥
IsInTime last now rest (Some token) = (decision login_rules token last now ≢ Refuse) × IsRefreshed now rest

-- the same over the part of a section: a reading, a file, a second reading, and what follows
abbrev pub IsSectionInTime : Option Moment → List Pair → Type 0
IsSectionInTime last [] = Unit {0}
IsSectionInTime last (first ∷ []) = Unit {0}
IsSectionInTime last (first ∷ file ∷ []) = IsSome (held_token file.1)
IsSectionInTime last (first ∷ file ∷ second ∷ rest) = IsInTime last (moment_of second.1) rest (held_token file.1)

-- A kept token is handed out, or the folder is known; and the token is in time.
pub record NothingInTheWay (conf : Configuration) (found : List Value) (part : List Pair) : Type 0 where
  pub folder : IsHit login_rules (found_at login_spot found).token part ⊎ HasFolder conf.environment
  pub section : IsSectionInTime (found_at login_spot found).last part
