-- Whose token the shared state of one key keeps.
use Rattle.std.specs.Prelude.{◌≡◌, true, Option, option_map}
use Rattle.cfg_token.specs.declared.token_key.TokenKey.{TokenKey}
use Rattle.cfg_token.specs.SsoTokens.{is_sso}
use Rattle.cfg_login_token.specs.LoginTokens.{is_login}
use Rattle.cfg_kept.specs.declared.shared_keyed.EitherShared.{EitherShared}
use Rattle.cfg_kept.specs.declared.shared_keyed.EitherShared.TheVariants.{Sso, Login}

-- The key is of the state's kind.
abbrev pub IsOfKind : EitherShared → Type 0
IsOfKind (Sso state) = is_sso state.key ≡ true
IsOfKind (Login state) = is_login state.key ≡ true

-- whose token it is
abbrev pub key_in_shared : EitherShared → TokenKey
key_in_shared (Sso state) = state.key
key_in_shared (Login state) = state.key

-- the key, where there is one
abbrev pub key_of_shared : Option EitherShared → Option TokenKey
key_of_shared state = option_map key_in_shared state
