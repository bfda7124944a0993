-- Why a call of a client gives nothing.
use Rattle.std.specs.Option.{option_or}
use Rattle.std.specs.Prelude.{ℕ, List, [], ◌∷◌, Option, None, option_map}
use Rattle.std.specs.Result.{result_err}
use Rattle.cfg_types.specs.declared.errors.imds.ImdsError.{ImdsError}
use Rattle.cfg_types.specs.declared.errors.imds.ImdsError.TheVariants as imds
use Rattle.cfg_world.specs.declared.ask.Question.{Question}
use Rattle.cfg_world.specs.declared.ask.Question.TheVariants.{Send}
use Rattle.cfg_world.specs.Fits.{Pair}
use Rattle.cfg_imds.specs.Clients.{ClientRules, usable_error}
use Rattle.cfg_imds.specs.Fetches.{entry_fault}
use Rattle.cfg_imds.specs.Settles.{Settled}
use Rattle.cfg_imds.specs.Tokens.{read_token}

-- why a reply and the reading of the clock after it give no session token
abbrev pub token_fault : Pair → Pair → Option ImdsError
token_fault reply reading = option_map imds.FailedToLoadToken (result_err (read_token reply reading))

abbrev pub by_question : Question → Option ImdsError → Option ImdsError → Option ImdsError
by_question (Send request) text token = text
by_question _ text token = token

-- What is wrong at the end of a part: with the answer, where the last entry is a request; else with the
-- session token of the last two entries.
abbrev pub fault_after : Pair → List Pair → Option ImdsError
fault_after a [] = None
fault_after a (b ∷ []) = by_question b.0 (entry_fault b) (token_fault a b)
fault_after a (b ∷ c ∷ part) = fault_after b (c ∷ part)

-- Why no session token is settled: the last two entries give none. None where enough of a kept one is left.
abbrev pub why_asked : List Pair → Option ImdsError
why_asked [] = None
why_asked (a ∷ part) = fault_after a part

-- why a path is not fetched: what is wrong with the last answer
abbrev pub last_fault : List Pair → Option ImdsError
last_fault [] = None
last_fault (a ∷ []) = entry_fault a
last_fault (a ∷ b ∷ part) = last_fault (b ∷ part)

-- Why a get gives no text: the path, else the endpoint, else what is wrong at the end of the part.
abbrev pub why_no_text : ClientRules → List ℕ → List Pair → Option ImdsError
why_no_text client path part = option_or (usable_error client path) (why_asked part)

-- the error of a call that leaves a token kept
abbrev pub settled_error : Settled → Option ImdsError
settled_error out = result_err out.0
