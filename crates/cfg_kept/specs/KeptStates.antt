-- What is lent to a call, as contracts see it.
use Rattle.std.specs.Prelude.{Option, Some, map, option_map}
use Rattle.cfg_token.specs.declared.token_key.TokenKey.{TokenKey}
use Rattle.cfg_imds.specs.Tokens.{bare_token}
use Rattle.cfg_kept.specs.declared.kept.Kept.{Kept}
use Rattle.cfg_kept.specs.declared.keyed.EitherState.{EitherState}
use Rattle.cfg_kept.specs.declared.metadata.PlaceState.{PlaceState}
use Rattle.cfg_kept.specs.Kinds.{States, PlaceStates}
use Rattle.cfg_kept.specs.FoundValues.{bare}
use Rattle.cfg_kept.specs.KeyedStates.{key_of, sso_kept, login_kept}
use Rattle.cfg_kept.specs.Holds.{Holdings, held}
use Rattle.cfg_kept.specs.Retrieved.{keys_of_retrieved}

-- what is kept for a place, receipts left aside
abbrev pub bare_place : PlaceState → PlaceStates
bare_place state = record { token = option_map bare_token state.token; retrieved = option_map keys_of_retrieved state.retrieved }

-- the kept states, receipts left aside
abbrev pub states_of : Kept → States
states_of kept = record { sso = sso_kept kept.token; login = login_kept kept.token; chain = bare_place kept.chain; named = bare_place kept.named }

-- the found values and the kept states
abbrev pub kept_holdings : Kept → Holdings
kept_holdings kept = held (map bare kept.found.items) (Some (states_of kept))

-- the key of the token, where there is one
abbrev pub kept_key : Kept → Option TokenKey
kept_key kept = key_of kept.token

-- the state of the token of the key, with its loads
abbrev pub kept_token : Kept → Option EitherState
kept_token kept = kept.token
