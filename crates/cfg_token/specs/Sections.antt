-- A section of one token: the kept token is handed out, or the file is read, and its token refreshed
-- where that is due.
use Rattle.std.specs.Prelude.{ℕ, List, cond, Option, Some, None, Result, Ok, Err}
use Rattle.std.specs.Option.{option_or}
use Rattle.cfg_base.specs.Moment.{Moment}
use Rattle.cfg_types.specs.Environment.{Variables}
use Rattle.cfg_types.specs.declared.settings.CallSettings.{CallSettings}
use Rattle.cfg_world.specs.declared.ask.Question.TheVariants as question
use Rattle.cfg_world.specs.declared.ask.Answer.{Answer}
use Rattle.cfg_world.specs.declared.ask.Answer.TheVariants as answer
use Rattle.cfg_world.specs.Inquiry.{Inquiry, Done, Ask, after}
use Rattle.cfg_world.specs.Leaves.{clock}
use Rattle.cfg_token.specs.declared.token_key.TokenKey.{TokenKey}
use Rattle.cfg_token.specs.declared.file_token.Renewal.{Renewal}
use Rattle.cfg_token.specs.declared.file_token.Renewal.TheVariants.{Granted, Passed, Refused}
use Rattle.cfg_token.specs.declared.file_token.Unsaved.TheVariants.{NoText, NotWritten}
use Rattle.cfg_token.specs.declared.decision.Decision.{Decision}
use Rattle.cfg_token.specs.declared.decision.Decision.TheVariants.{Use, Refresh, Refuse}
use Rattle.cfg_token.specs.declared.loading.Loaded.{Loaded}
use Rattle.cfg_token.specs.declared.sections.Sectioned.{Sectioned}
use Rattle.cfg_token.specs.declared.sections.Sectioned.TheVariants.{Hit, Load}
use Rattle.cfg_token.specs.Rules.{Rules}
use Rattle.cfg_token.specs.Decisions.{is_expired, outlasts_buffer, decision}

-- how a load ends: with this token or error, and an attempt noted at this reading or none
abbrev pub gives : {T E : Type 0} → Result T E → Option Moment → Loaded T E
gives outcome noted = record { outcome = outcome; noted = noted }

module _ {T E : Type 0} (t : Rules T E) where
  -- A new token that was not saved: the error, without a note; or it is passed over.
  abbrev pub or_unsaved : Moment → T → Option E → Loaded T E
  or_unsaved now token None = gives (Ok token) (Some now)
  or_unsaved now token (Some e) = gives (Err e) None

  abbrev pub written : List ℕ → Moment → T → Answer → Loaded T E
  written path now token answer.Written = gives (Ok token) (Some now)
  written path now token _ = or_unsaved now token (t.unsaved (NotWritten path))

  abbrev pub saves_text : List ℕ → Moment → T → Option (List ℕ) → Inquiry (Loaded T E)
  saves_text path now token None = Done (or_unsaved now token (t.unsaved NoText))
  saves_text path now token (Some text) = Ask (question.Write path text) (λ a. Done (written path now token a))

  -- a new token is saved to the file that was read
  unfoldable pub saves : List ℕ → Moment → T → Inquiry (Loaded T E)
  saves path now token = saves_text path now token (t.text token)

  -- the file's token, while it lasts
  abbrev pub while_it_lasts : T → Moment → Result T E
  while_it_lasts file now = cond (is_expired t file now) (Err t.expired) (Ok file)

  abbrev pub renews : List ℕ → T → Moment → Renewal T E → Inquiry (Loaded T E)
  renews path file now (Granted token) = saves path now token
  renews path file now Passed = Done (gives (while_it_lasts file now) (Some now))
  renews path file now (Refused e noted) = Done (gives (Err e) (cond noted (Some now) None))

  -- one request for a new token, and what its answer gives
  unfoldable pub asks_renewal : TokenKey → CallSettings → T → Moment → Inquiry (Renewal T E)
  asks_renewal key settings file now = Ask (question.Send (t.request key settings file)) (λ a. Done (t.renewal key file now a))

  unfoldable pub refreshes : TokenKey → CallSettings → List ℕ → T → Moment → Inquiry (Loaded T E)
  refreshes key settings path file now = after (asks_renewal key settings file now) (renews path file now)

  abbrev pub decides : TokenKey → CallSettings → List ℕ → T → Moment → Decision → Inquiry (Loaded T E)
  decides key settings path file now Refuse = Done (gives (Err t.expired) None)
  decides key settings path file now Use = Done (gives (Ok file) None)
  decides key settings path file now Refresh = refreshes key settings path file now

  -- the file's token is judged by a second reading
  unfoldable pub judges : TokenKey → CallSettings → Option Moment → List ℕ → T → Inquiry (Loaded T E)
  judges key settings last path file = after clock (λ now. decides key settings path file now (decision t file last now))

  abbrev pub read_as : List ℕ → Answer → Result T E
  read_as path (answer.Contents bytes) = t.reading bytes
  read_as path _ = Err (t.unread path)

  -- the token in the file
  unfoldable pub file : List ℕ → Inquiry (Result T E)
  file path = Ask (question.Read path) (λ a. Done (read_as path a))

  abbrev pub judges_file : TokenKey → CallSettings → Option Moment → List ℕ → Result T E → Inquiry (Loaded T E)
  judges_file key settings last path (Err e) = Done (gives (Err e) None)
  judges_file key settings last path (Ok token) = judges key settings last path token

  abbrev pub loads_from : TokenKey → CallSettings → Option Moment → Result (List ℕ) E → Inquiry (Loaded T E)
  loads_from key settings last (Err e) = Done (gives (Err e) None)
  loads_from key settings last (Ok path) = after (file path) (judges_file key settings last path)

  -- what follows where no kept token is handed out
  unfoldable pub load : TokenKey → Variables → CallSettings → Option Moment → Inquiry (Loaded T E)
  load key env settings last = loads_from key settings last (t.path key env)

  -- the kept token, where it is not to be refreshed yet
  abbrev pub hit : Option T → Moment → Option T
  hit None r = None
  hit (Some token) r = cond (outlasts_buffer t token r) (Some token) None

  -- a kept token that is not to be refreshed yet is handed out; else it is dropped and a load begins
  unfoldable pub by_reading : TokenKey → Variables → CallSettings → Option T → Option Moment → Moment → Inquiry (Sectioned T E)
  by_reading key env settings None last r = after (load key env settings last) (λ l. Done (Load l))
  by_reading key env settings (Some token) last r = cond (outlasts_buffer t token r) (Done (Hit token)) (after (load key env settings last) (λ l. Done (Load l)))

  unfoldable pub section : TokenKey → Variables → CallSettings → Option T → Option Moment → Inquiry (Sectioned T E)
  section key env settings kept last = after clock (by_reading key env settings kept last)

-- what a section answers, and what is kept after it
abbrev pub answer_of : {T E : Type 0} → Sectioned T E → Result T E
answer_of (Hit token) = Ok token
answer_of (Load l) = l.outcome

abbrev pub ok_of : {T E : Type 0} → Result T E → Option T
ok_of (Ok token) = Some token
ok_of (Err e) = None

-- the attempt that was noted, or else the last one before
abbrev pub noted_or : Option Moment → Option Moment → Option Moment
noted_or noted last = option_or noted last
