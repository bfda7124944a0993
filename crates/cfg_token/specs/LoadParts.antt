-- What the receipts of a load say of what it asked for and gave.
use Rattle.std.specs.Prelude.{◌≡◌, ℕ, List, [], ◌∷◌, Option, Some, Ok, true, slice_get, take}
use Rattle.std.specs.List.{AllByRecursion}
use Rattle.cfg_base.specs.Moment.{Moment}
use Rattle.cfg_types.specs.declared.settings.CallSettings.{CallSettings}
use Rattle.cfg_types.specs.declared.request.Request.{Request}
use Rattle.cfg_world.specs.declared.ask.Question.{Question}
use Rattle.cfg_world.specs.declared.ask.Question.TheVariants as question
use Rattle.cfg_world.specs.declared.ask.Answer.{Answer}
use Rattle.cfg_world.specs.declared.ask.Answer.TheVariants as answer
use Rattle.cfg_world.specs.Fits.{Pair}
use Rattle.cfg_world.specs.Leaves.{moment_of}
use Rattle.cfg_token.specs.declared.decision.Decision.{Decision}
use Rattle.cfg_token.specs.declared.decision.Decision.TheVariants.{Use, Refresh, Refuse}
use Rattle.cfg_token.specs.declared.file_token.Renewal.{Renewal}
use Rattle.cfg_token.specs.declared.file_token.Renewal.TheVariants.{Granted, Passed, Refused}
use Rattle.cfg_token.specs.declared.token_key.TokenKey.{TokenKey}
use Rattle.cfg_token.specs.Rules.{Rules}
use Rattle.cfg_token.specs.Decisions.{decision}
use Rattle.cfg_token.specs.Moments.{is_before}
use Rattle.cfg_token.specs.Spacing.{second_reading}
use Rattle.cfg_token.specs.Histories.{History, noted_by}

-- the last attempt that was noted before a record
abbrev pub last_before : {T E : Type 0} → History T E → ℕ → Option Moment
last_before h i = noted_by h.last (take i h.records)

module _ {T E : Type 0} (t : Rules T E) where
  -- The request is that for a token of the file that stands second among the receipts, where that was to be refreshed at their second reading.
  pub record AsksForFile (last : Option Moment) (receipts : List Pair) (request : Request) : Type 0 where
    pub key : TokenKey
    pub settings : CallSettings
    pub path : List ℕ
    pub bytes : List ℕ
    pub file : T
    pub read : slice_get receipts 1 ≡ Some (question.Read path, answer.Contents bytes)
    pub token : t.reading bytes ≡ Ok file
    pub due : decision t file last (second_reading receipts) ≡ Refresh
    pub is : request ≡ t.request key settings file

  abbrev pub IsOfFile : Option Moment → List Pair → Question → Type 0
  IsOfFile last receipts (question.Send request) = AsksForFile last receipts request
  IsOfFile last receipts _ = Unit {0}

  -- each request among the receipts is
  abbrev pub RefreshesFile : Option Moment → List Pair → Type 0
  RefreshesFile last receipts = AllByRecursion (λ e. IsOfFile last receipts e.0) receipts

  -- The token is what the answer to a refresh gives: a new one, or that of the file while it lasts.
  abbrev pub IsRenewed : T → Moment → Renewal T E → T → Type 0
  IsRenewed file now (Granted new) token = token ≡ new
  IsRenewed file now Passed token = (token ≡ file) × (is_before now (t.expiry file) ≡ true)
  IsRenewed file now (Refused e noted) token = ⊥

  -- The token is what the decision on the file's token gives, by the entries behind the second reading.
  abbrev pub IsDecided : TokenKey → CallSettings → T → Moment → List Pair → T → Decision → Type 0
  IsDecided key settings file now rest token Refuse = ⊥
  IsDecided key settings file now rest token Use = (rest ≡ []) × (token ≡ file)
  IsDecided key settings file now [] token Refresh = ⊥
  IsDecided key settings file now (e ∷ rest) token Refresh = (e.0 ≡ question.Send (t.request key settings file)) × IsRenewed file now (t.renewal key file now e.1) token

  -- A load that gave this token: a reading, the file, and a second reading, by which its token was judged.
  pub record HandsOut (last : Option Moment) (receipts : List Pair) (token : T) : Type 0 where
    pub key : TokenKey
    pub settings : CallSettings
    pub path : List ℕ
    pub bytes : List ℕ
    pub file : T
    pub first : Answer
    pub second : Answer
    pub rest : List Pair
    pub are : receipts ≡ (question.Now, first) ∷ (question.Read path, answer.Contents bytes) ∷ (question.Now, second) ∷ rest
    pub read : t.reading bytes ≡ Ok file
    pub decided : IsDecided key settings file (moment_of second) rest token (decision t file last (moment_of second))
