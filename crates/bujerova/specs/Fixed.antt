-- The program's own source of credentials.
use Rattle.std.specs.Prelude.{codes}
use Rattle.cfg_types.specs.Keys.{Keys, bare_keys}

-- what it answers
abbrev pub fixed_keys : Keys
fixed_keys = bare_keys (codes "FIXEDID") (codes "FIXEDSECRET") (codes "Fixed")
