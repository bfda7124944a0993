-- A section as a table: the entries of its part, in order, and what is made of them.
use Rattle.std.specs.Prelude.{◌≡◌, ℕ, List, [], ◌∷◌, true, false, Option, Some, None, Ok, Err}
use Rattle.cfg_base.specs.Instant.{is_later_by}
use Rattle.cfg_base.specs.Moment.{Moment}
use Rattle.cfg_types.specs.Environment.{Variables}
use Rattle.cfg_types.specs.declared.reply.FailKind.{FailKind}
use Rattle.cfg_types.specs.declared.settings.CallSettings.{CallSettings}
use Rattle.cfg_world.specs.declared.ask.Question.TheVariants.{Now, Read, Write, Send}
use Rattle.cfg_world.specs.declared.ask.Answer.{Answer}
use Rattle.cfg_world.specs.declared.ask.Answer.TheVariants.{Contents, Written}
use Rattle.cfg_world.specs.Fits.{Pair}
use Rattle.cfg_world.specs.Leaves.{moment_of, contents_of, written_of}
use Rattle.cfg_token.specs.declared.token_key.TokenKey.{TokenKey}
use Rattle.cfg_token.specs.declared.file_token.Renewal.{Renewal}
use Rattle.cfg_token.specs.declared.file_token.Renewal.TheVariants.{Granted, Passed, Refused}
use Rattle.cfg_token.specs.declared.file_token.Unsaved.TheVariants.{NoText, NotWritten}
use Rattle.cfg_token.specs.declared.decision.Decision.{Decision}
use Rattle.cfg_token.specs.declared.decision.Decision.TheVariants.{Use, Refresh, Refuse}
use Rattle.cfg_token.specs.declared.loading.Loaded.{Loaded}
use Rattle.cfg_token.specs.declared.sections.Sectioned.{Sectioned}
use Rattle.cfg_token.specs.declared.sections.Sectioned.TheVariants.{Hit, Load}
use Rattle.cfg_token.specs.Rules.{Rules}
use Rattle.cfg_token.specs.Decisions.{is_expired, decision}
use Rattle.cfg_token.specs.Sections.{gives}

module _ {T E : Type 0} (t : Rules T E) (key : TokenKey) (env : Variables) (settings : CallSettings) (last : Option Moment) where
  -- The key's file has this path, these bytes hold this token, and by this reading of the clock this is decided of it.
  pub record IsJudged (path bytes : List ℕ) (file : T) (clock : Answer) (decided : Decision) : Type 0 where
    pub is_path : t.path key env ≡ Ok path
    pub holds : t.reading bytes ≡ Ok file
    pub decides : decision t file last (moment_of clock) ≡ decided

  -- A refresh of it is due, and this reply to the one request for it gives this.
  pub record GivesRenewal (path bytes : List ℕ) (file : T) (clock reply : Answer) (given : Renewal T E) : Type 0 where
    pub is_due : IsJudged path bytes file clock Refresh
    pub gives : t.renewal key file (moment_of clock) reply ≡ given

  -- The rows of a load: the entries behind the first reading of the clock, in order, and what they give.
  pub data LoadRow : List Pair → Loaded T E → Type 0 where
    -- There is no path.
    no_path : {e : E} → t.path key env ≡ Err e → LoadRow [] (gives (Err e) None)
    -- The file could not be read.
    not_read : {path : List ℕ} {read : Answer} {kind : FailKind} → t.path key env ≡ Ok path → contents_of read ≡ Err kind → LoadRow
        ((Read path, read) ∷ [])
        (gives (Err (t.unread path)) None)
    -- Its bytes hold no token.
    no_token : {path bytes : List ℕ} {e : E} → t.path key env ≡ Ok path → t.reading bytes ≡ Err e → LoadRow
        ((Read path, Contents bytes) ∷ [])
        (gives (Err e) None)
    -- Its token is refused: it has expired, and may not be refreshed.
    refused : {path bytes : List ℕ} {file : T} {clock : Answer} → IsJudged path bytes file clock Refuse → LoadRow
        ((Read path, Contents bytes) ∷ (Now, clock) ∷ [])
        (gives (Err t.expired) None)
    -- Its token is used as it is.
    used : {path bytes : List ℕ} {file : T} {clock : Answer} → IsJudged path bytes file clock Use → LoadRow
        ((Read path, Contents bytes) ∷ (Now, clock) ∷ [])
        (gives (Ok file) None)
    -- A refresh gave no new token, and is passed over: the file's token serves, or it has expired.
    passed_over : {path bytes : List ℕ} {file : T} {clock reply : Answer} →
        GivesRenewal path bytes file clock reply Passed → is_expired t file (moment_of clock) ≡ false → LoadRow
        ((Read path, Contents bytes) ∷ (Now, clock) ∷ (Send (t.request key settings file), reply) ∷ [])
        (gives (Ok file) (Some (moment_of clock)))
    passed_over_expired : {path bytes : List ℕ} {file : T} {clock reply : Answer} →
        GivesRenewal path bytes file clock reply Passed → is_expired t file (moment_of clock) ≡ true → LoadRow
        ((Read path, Contents bytes) ∷ (Now, clock) ∷ (Send (t.request key settings file), reply) ∷ [])
        (gives (Err t.expired) (Some (moment_of clock)))
    -- A refresh gave an error, of which the attempt is noted, or not.
    failed_noted : {path bytes : List ℕ} {file : T} {clock reply : Answer} {e : E} → GivesRenewal path bytes file clock reply (Refused e true) → LoadRow
        ((Read path, Contents bytes) ∷ (Now, clock) ∷ (Send (t.request key settings file), reply) ∷ [])
        (gives (Err e) (Some (moment_of clock)))
    failed : {path bytes : List ℕ} {file : T} {clock reply : Answer} {e : E} → GivesRenewal path bytes file clock reply (Refused e false) → LoadRow
        ((Read path, Contents bytes) ∷ (Now, clock) ∷ (Send (t.request key settings file), reply) ∷ [])
        (gives (Err e) None)
    -- A refresh gave a new token that has no text, and nothing is written: it serves, or that is an error.
    no_text : {path bytes : List ℕ} {file new : T} {clock reply : Answer} →
        GivesRenewal path bytes file clock reply (Granted new) → t.text new ≡ None → t.unsaved NoText ≡ None → LoadRow
        ((Read path, Contents bytes) ∷ (Now, clock) ∷ (Send (t.request key settings file), reply) ∷ [])
        (gives (Ok new) (Some (moment_of clock)))
    no_text_error : {path bytes : List ℕ} {file new : T} {clock reply : Answer} {e : E} →
        GivesRenewal path bytes file clock reply (Granted new) → t.text new ≡ None → t.unsaved NoText ≡ Some e → LoadRow
        ((Read path, Contents bytes) ∷ (Now, clock) ∷ (Send (t.request key settings file), reply) ∷ [])
        (gives (Err e) None)
    -- Its text could not be written to the same path: it serves, or that is an error.
    not_written : {path bytes text : List ℕ} {file new : T} {clock reply write : Answer} {kind : FailKind} →
        GivesRenewal path bytes file clock reply (Granted new) → t.text new ≡ Some text → written_of write ≡ Err kind → t.unsaved (NotWritten path) ≡ None → LoadRow
        ((Read path, Contents bytes) ∷ (Now, clock) ∷ (Send (t.request key settings file), reply) ∷ (Write path text, write) ∷ [])
        (gives (Ok new) (Some (moment_of clock)))
    not_written_error : {path bytes text : List ℕ} {file new : T} {clock reply write : Answer} {kind : FailKind} {e : E} →
        GivesRenewal path bytes file clock reply (Granted new) → t.text new ≡ Some text → written_of write ≡ Err kind → t.unsaved (NotWritten path) ≡ Some e → LoadRow
        ((Read path, Contents bytes) ∷ (Now, clock) ∷ (Send (t.request key settings file), reply) ∷ (Write path text, write) ∷ [])
        (gives (Err e) None)
    -- Its text was written to the same path.
    written : {path bytes text : List ℕ} {file new : T} {clock reply : Answer} → GivesRenewal path bytes file clock reply (Granted new) → t.text new ≡ Some text → LoadRow
        ((Read path, Contents bytes) ∷ (Now, clock) ∷ (Send (t.request key settings file), reply) ∷ (Write path text, Written) ∷ [])
        (gives (Ok new) (Some (moment_of clock)))

-- nothing is kept, or no more than 300 seconds of it are left
abbrev pub IsUsedUp : {T E : Type 0} → Rules T E → Option T → Moment → Type 0
IsUsedUp t None now = Unit {0}
IsUsedUp t (Some token) now = is_later_by (t.expiry token) now 300 ≡ false

-- The two cases of a section. A hit is a reading of the clock at which more than 300 seconds of the kept
-- token are left, and gives this token. A load is a reading at which that is not so, and then one row.
pub data SectionRow {T E : Type 0} (t : Rules T E) (key : TokenKey) (env : Variables) (settings : CallSettings) (kept : Option T) (last : Option Moment) : List Pair → Sectioned T E → Type 0 where
  hit : {token : T} {clock : Answer} → kept ≡ Some token → is_later_by (t.expiry token) (moment_of clock) 300 ≡ true → SectionRow t key env settings kept last
      ((Now, clock) ∷ [])
      (Hit token)
  load : {clock : Answer} {part : List Pair} {loaded : Loaded T E} → IsUsedUp t kept (moment_of clock) → LoadRow t key env settings last part loaded → SectionRow t key env settings kept last
      ((Now, clock) ∷ part)
      (Load loaded)
