-- Tokens that have not expired.
use Rattle.std.specs.Prelude.{List, IfOk}
use Rattle.cfg_world.specs.Fits.{Pair}
use Rattle.cfg_sso.specs.BearerTokens.{Bearer, IsUnexpired}
use Rattle.cfg_token_chain.specs.Members.{Asked, Given, ByCaller}

-- A token of a session ends after the last reading of the clock in the member's part. Nothing is known of the end of
-- one that was given, or of a caller's own.
abbrev pub GivesUnexpired : Asked → List Pair → Bearer → Type 0
GivesUnexpired (Given token) part out = Unit {0}
GivesUnexpired (ByCaller answer) part out = Unit {0}
GivesUnexpired _ part out = IfOk out (IsUnexpired part)
