-- Outcomes, the features of credentials aside.
use Rattle.std.specs.Prelude.{[], Ok, Err}
use Rattle.cfg_types.specs.Keys.{Keys}
use Rattle.cfg_providers.specs.CustomSources.{Answer}

-- these credentials, without the features that tell how they were come by
abbrev pub without_features : Keys → Keys
without_features keys = record keys { features = [] }

-- an outcome, without features
abbrev pub aside : Answer → Answer
aside (Ok keys) = Ok (without_features keys)
aside (Err e) = Err e
