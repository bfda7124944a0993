-- What the kinds of token files differ in.
use Rattle.std.specs.Prelude.{◌≡◌, ℕ, List, Bool, true, false, Option, Some, Result, Err}
use Rattle.cfg_base.specs.Moment.{Moment}
use Rattle.cfg_types.specs.Environment.{Variables}
use Rattle.cfg_types.specs.declared.settings.CallSettings.{CallSettings}
use Rattle.cfg_types.specs.declared.request.Request.{Request}
use Rattle.cfg_world.specs.declared.ask.Answer.{Answer}
use Rattle.cfg_token.specs.declared.token_key.TokenKey.{TokenKey}
use Rattle.cfg_token.specs.declared.file_token.Renewal.{Renewal}
use Rattle.cfg_token.specs.declared.file_token.Renewal.TheVariants.{Granted, Refused}
use Rattle.cfg_token.specs.declared.file_token.Unsaved.{Unsaved}
use Rattle.cfg_token.specs.Moments.{is_before}

pub record Rules (T E : Type 0) : Type 0 where
  -- when a token ends, and whether it may be refreshed at a reading of the clock
  pub expiry : T → Moment
  pub refreshable : T → Moment → Bool
  -- the keys of this kind; the path of the file of such a key
  pub is_kind : TokenKey → Bool
  pub path : TokenKey → Variables → Result (List ℕ) E
  -- the token in a file's bytes; the error of a file that could not be read
  pub reading : List ℕ → Result T E
  pub unread : List ℕ → E
  pub expired : E
  -- the request for a new token, and what its answer gives
  pub request : TokenKey → CallSettings → T → Request
  pub renewal : TokenKey → T → Moment → Answer → Renewal T E
  -- the bytes that are written for a new token; what comes of one that was not saved: an error, or nothing
  pub text : T → Option (List ℕ)
  pub unsaved : Unsaved → Option E
  -- whether an error says that memory ran out
  pub is_memory : E → Bool

-- No rule says that memory ran out, and a new token ends after the reading at which it was asked for.
pub record Tells {T E : Type 0} (rules : Rules T E) : Type 0 where
  pub path : (key : TokenKey) (env : Variables) (e : E) → rules.path key env ≡ Err e → rules.is_memory e ≡ false
  pub reading : (bytes : List ℕ) (e : E) → rules.reading bytes ≡ Err e → rules.is_memory e ≡ false
  pub unread : (path : List ℕ) → rules.is_memory (rules.unread path) ≡ false
  pub expired : rules.is_memory rules.expired ≡ false
  pub renewal : (key : TokenKey) (token : T) (now : Moment) (a : Answer) (e : E) (noted : Bool) → rules.renewal key token now a ≡ Refused e noted → rules.is_memory e ≡ false
  pub granted : (key : TokenKey) (token : T) (now : Moment) (a : Answer) (new : T) → rules.renewal key token now a ≡ Granted new → is_before now (rules.expiry new) ≡ true
  pub unsaved : (fault : Unsaved) (e : E) → rules.unsaved fault ≡ Some e → rules.is_memory e ≡ false
