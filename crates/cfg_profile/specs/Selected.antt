-- The name of the selected profile.
use Rattle.std.specs.Prelude.{ℕ, List, Option, Some, None, Result, Ok, Err, codes}
use Rattle.std.specs.Str.{encode_utf8_all}
use Rattle.cfg_types.specs.Environment.{variable}
use Rattle.cfg_types.specs.declared.environment.VarError.{VarError}
use Rattle.cfg_profile.specs.Configuration.{Configuration}

abbrev pub named_by_environment : Result (List ℕ) VarError → List ℕ
named_by_environment (Ok text) = encode_utf8_all text
named_by_environment (Err e) = codes "default"

abbrev pub named_by : Option (List ℕ) → Result (List ℕ) VarError → List ℕ
named_by (Some name) variable = name
named_by None variable = named_by_environment variable

-- the name of the selected profile: the one that was given, else the environment's, else `default`
abbrev pub selected_name : Configuration → List ℕ
selected_name conf = named_by conf.profile_name (variable conf.environment (codes "AWS_PROFILE"))
