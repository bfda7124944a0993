-- What a holding found, with the receipts that it carries left aside.
use Rattle.std.specs.Prelude.{Option, option_map}
use Rattle.cfg_base.specs.Moment.{Moment}
use Rattle.cfg_token.specs.Histories.{TokenLoad, token_in}
use Rattle.cfg_imds.specs.Tokens.{bare_token}
use Rattle.cfg_kept.specs.declared.found.Found.{Found}
use Rattle.cfg_kept.specs.declared.found.Found.TheVariants as found
use Rattle.cfg_kept.specs.Kinds.{KeptToken, Value, SsoAt, LoginAt, MetadataTokenAt, RetrievedAt}
use Rattle.cfg_kept.specs.Retrieved.{keys_of_retrieved}

-- a found value by itself: of a load its token alone, of retrieved credentials their keys
abbrev pub bare : Found → Value
bare (found.Sso load last) = SsoAt (token_in load) last
bare (found.Login load last) = LoginAt (token_in load) last
bare (found.ImdsToken place token) = MetadataTokenAt place (option_map bare_token token)
bare (found.Retrieved place retrieved) = RetrievedAt place (option_map keys_of_retrieved retrieved)

-- what was found of a token, its load left aside
abbrev pub bare_load : {T E : Type 0} → Option (TokenLoad T E) → Option Moment → KeptToken T
bare_load load last = record { token = token_in load; last = last }
