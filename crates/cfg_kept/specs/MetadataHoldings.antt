-- One holding of the session token of a metadata client.
use Rattle.std.specs.Prelude.{ℕ, List, Option, option_map, Result}
use Rattle.cfg_types.specs.declared.errors.imds.ImdsError.{ImdsError}
use Rattle.cfg_imds.specs.Clients.{ClientRules, settle}
use Rattle.cfg_imds.specs.Tokens.{ReceiptedToken, bare_token}
use Rattle.cfg_kept.specs.declared.place.Place.{Place}
use Rattle.cfg_kept.specs.Kinds.{Value, MetadataTokenOf, MetadataTokenAt, token_in}
use Rattle.cfg_kept.specs.KeptInquiry.{KeptInquiry}
use Rattle.cfg_kept.specs.Holds.{holding}

-- a session token that a client keeps, at its spot
abbrev pub token_at : Place → Option ReceiptedToken → Value
token_at place token = MetadataTokenAt place (option_map bare_token token)

-- one holding: a session token is settled on the one that is kept for the place, and what it leaves is
-- kept
unfoldable pub token_holding : ClientRules → Place → KeptInquiry (Result (List ℕ) ImdsError)
token_holding client place = holding (MetadataTokenOf place) (MetadataTokenAt place) (λ found. settle client (token_in found))
