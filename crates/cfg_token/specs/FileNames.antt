-- The names of token files, each of one session.
use Rattle.std.specs.Prelude.{◌≡◌, ℕ, List, string_bytes}
use Rattle.cfg_token.specs.declared.token_key.TokenKey.{TokenKey}
use Rattle.cfg_token.specs.declared.token_key.TokenKey.TheVariants.{Sso, Login}
use Rattle.cfg_token.specs.declared.file_name.FileName.{FileName}

abbrev pub session_of : TokenKey → List ℕ
session_of (Sso session region url) = session
session_of (Login session) = session

-- The name is the one that this kind of token gives the file of its session.
abbrev pub IsNameBy : (List ℕ → List ℕ) → FileName → Type 0
IsNameBy name_of name = string_bytes name.name ≡ name_of name.session
