-- What a cache keeps under a name.
use Rattle.std.specs.Prelude.{Option, None}
use Rattle.cfg_token.specs.declared.token_key.TokenKey.{TokenKey}
use Rattle.cfg_kept.specs.Kinds.{States, no_states}
use Rattle.cfg_kept.specs.KeptStates.{states_of, kept_key}
use Rattle.cfg_identity.specs.declared.held.Held.{Held}
use Rattle.cfg_identity.specs.declared.loaded.Loaded.{Loaded}

-- what is held, and the kept states of the chain
pub record NameState : Type 0 where
  pub held : Option Held
  pub states : States

-- nothing is held, and nothing kept
abbrev pub nothing_loaded : NameState
nothing_loaded = record { held = None; states = no_states }

abbrev pub state_of : Loaded → NameState
state_of loaded = record { held = loaded.held; states = states_of loaded.kept }

-- the key of the token that is kept, where there is one
abbrev pub loaded_key : Loaded → Option TokenKey
loaded_key loaded = kept_key loaded.kept
