-- The region that the environment's variables name.
use Rattle.std.specs.Prelude.{ℕ, List, Option, codes}
use Rattle.std.specs.Option.{option_or}
use Rattle.cfg_types.specs.Environment.{Variables, readable}

-- A region that is told, or none.
abbrev pub Told : Type 0
Told = Option (List ℕ)

-- the first of these variables that can be read; one that is set and empty can
unfoldable pub environment_region : Variables → Told
environment_region env = option_or (readable env (codes "AWS_REGION")) (readable env (codes "AWS_DEFAULT_REGION"))
