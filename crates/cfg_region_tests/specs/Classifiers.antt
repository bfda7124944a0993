-- A classifier that tests bring.
use Rattle.std.specs.Prelude.{false, nat_eq, Some, None}
use Rattle.cfg_exchange.specs.Classifiers.{Repeats}

-- a status of 404 is repeated
abbrev pub repeats_missing : Repeats
repeats_missing None reading = false
repeats_missing (Some reply) reading = nat_eq reply.status 404
