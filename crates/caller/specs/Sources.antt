-- The caller's own source of credentials.
use Rattle.std.specs.Prelude.{codes}
use Rattle.cfg_types.specs.Keys.{Keys, bare_keys}

-- what it answers
abbrev pub vault_keys : Keys
vault_keys = bare_keys (codes "VAULTID") (codes "VAULTSECRET") (codes "Vault")
