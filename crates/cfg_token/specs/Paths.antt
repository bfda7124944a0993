-- The paths of token files.
use Rattle.std.specs.Prelude.{ℕ, ◌-◌, List, ◌++◌, length, slice_get, Bool, false, not, Option, Some, None, codes, ◌==◌, if◌then◌else◌}
use Rattle.hex.specs.Hex.{encode_lower}
use Rattle.sha1.specs.Sha1.{sha1}
use Rattle.std.specs.Str.{encode_utf8_all}
use Rattle.cfg_base.specs.Text.{characters}

-- a last byte, which is not `/`
abbrev pub is_open : Option ℕ → Bool
is_open None = false
is_open (Some last) = not (last == 47)

-- the bytes of a folder, as they stand before a part of it: with `/` at their end, where they are any
unfoldable pub as_folder : List ℕ → List ℕ
as_folder bytes = if is_open (slice_get bytes (length bytes - 1)) then bytes ++ codes "/" else bytes

-- the path of a part of a folder; without a folder it is the part itself
unfoldable pub joined : List ℕ → List ℕ → List ℕ
joined folder part = as_folder folder ++ part

-- the file of this name in the cache of this home
abbrev pub path_of_name : List ℕ → List ℕ → List ℕ
path_of_name name home = characters (joined (joined home (codes ".aws/sso/cache")) name ++ codes ".json")

-- the name of the file of a session's token
abbrev pub sso_name : List ℕ → List ℕ
sso_name session = encode_lower (sha1 (encode_utf8_all session))

-- the file of a token under this identifier, which may hold any character, in the cache of this home
abbrev pub sso_path : List ℕ → List ℕ → List ℕ
sso_path identifier home = path_of_name (encode_lower (sha1 identifier)) home
