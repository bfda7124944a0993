-- What the part of a settle looks like.
use Rattle.std.specs.Prelude.{◌≡◌, ℕ, ◌+◌, ◌-◌, List, [], ◌∷◌, ◌++◌, Bool, true, false, Option, Ok}
use Rattle.cfg_world.specs.declared.ask.Question.TheVariants.{Now, Send}
use Rattle.cfg_world.specs.Fits.{Pair}
use Rattle.cfg_world.specs.Leaves.{moment_of}
use Rattle.cfg_exchange.specs.Attempts.{Attempts}
use Rattle.cfg_exchange.specs.Classifiers.{is_repeated}
use Rattle.cfg_exchange.specs.declared.reading.ReplyKind.TheVariants as kind
use Rattle.cfg_imds.specs.Requests.{Service, token_request}
use Rattle.cfg_imds.specs.Settles.{Settled, has_time_left, kept_value, renewal}
use Rattle.cfg_imds.specs.Tokens.{Token}

-- Attempts at a session token, and then a reading of the clock. The last reply and that reading decide.
pub record Renewed (s : Service) (endpoint : List ℕ) (part : List Pair) (out : Settled) : Type 0 where
  pub tokens : List Pair
  pub reply : Pair
  pub reading : Pair
  pub parts : part ≡ tokens ++ reading ∷ []
  pub tried : Attempts (Send (token_request s.settings endpoint)) (s.settings.max_attempts - 1 + 1) (is_repeated kind.MetadataToken s.repeats) tokens reply
  pub asks : reading.0 ≡ Now
  pub is : renewal reply reading ≡ out

-- by whether enough of the kept token is left
abbrev pub SettledBy : Service → List ℕ → Option Token → Bool → List Pair → Settled → Type 0
SettledBy s endpoint kept true part out = (part ≡ []) × ((Ok (kept_value kept), kept) ≡ out)
SettledBy s endpoint kept false part out = Renewed s endpoint part out

-- First a reading of the clock. Nothing follows it, and the kept token is handed out and kept, exactly
-- where enough of it is left at that moment; else a new one is asked for.
pub record SettledPart (s : Service) (endpoint : List ℕ) (kept : Option Token) (part : List Pair) (out : Settled) : Type 0 where
  pub first : Pair
  pub rest : List Pair
  pub parts : part ≡ first ∷ rest
  pub asks : first.0 ≡ Now
  pub then : SettledBy s endpoint kept (has_time_left kept (moment_of first.1)) rest out
