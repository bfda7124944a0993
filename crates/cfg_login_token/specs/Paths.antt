-- The paths of the files of sign-in sessions.
use Rattle.std.specs.Prelude.{ℕ, List, ◌++◌, Result, Ok, Err, codes}
use Rattle.std.specs.Str.{encode_utf8_all, trim}
use Rattle.hex.specs.Hex.{encode_lower}
use Rattle.sha2.specs.Sha256.{sha256}
use Rattle.cfg_base.specs.Text.{characters}
use Rattle.cfg_types.specs.declared.environment.VarError.{VarError}
use Rattle.cfg_types.specs.declared.errors.login.LoginTokenError.{LoginTokenError}
use Rattle.cfg_types.specs.declared.errors.login.LoginTokenError.TheVariants.{NoHomeDirectory}
use Rattle.cfg_token.specs.Paths.{joined}

-- the file of this name in a cache
abbrev pub path_of_name : List ℕ → List ℕ → List ℕ
path_of_name cache name = characters (joined cache name ++ codes ".json")

-- the name of a session's file, by the session without the white space around it
abbrev pub login_name : List ℕ → List ℕ
login_name session = encode_lower (sha256 (trim (encode_utf8_all session)))

-- the file of a session in a cache
abbrev pub login_path : List ℕ → List ℕ → List ℕ
login_path cache session = path_of_name cache (encode_lower (sha256 (trim session)))

-- The cache: the variable's value where it is readable, or else a folder below the home directory.
abbrev pub cache_directory : Result (List ℕ) VarError → Result (List ℕ) VarError → Result (List ℕ) LoginTokenError
cache_directory (Ok cache) home = Ok (encode_utf8_all cache)
cache_directory (Err e) (Ok home) = Ok (joined (encode_utf8_all home) (codes ".aws/login/cache"))
cache_directory (Err e) (Err f) = Err NoHomeDirectory
