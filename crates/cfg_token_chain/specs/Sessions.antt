-- The session of IAM Identity Center that a profile's token comes of.
use Rattle.std.specs.Prelude.{ℕ, List, Option, Some, None, Result, Ok, Err}
use Rattle.cfg_types.specs.declared.errors.ProfileFileError.{ProfileFileError}
use Rattle.cfg_types.specs.declared.errors.ProfileFileError.TheVariants.{InvalidProfile}
use Rattle.cfg_types.specs.declared.errors.token.TokenCause.TheVariants.{NoSession}
use Rattle.cfg_types.specs.declared.errors.token.TokenError.{TokenError}
use Rattle.cfg_types.specs.declared.errors.token.TokenError.TheVariants.{TokenNotLoaded, InvalidConfiguration}
use Rattle.cfg_profile.specs.declared.chain.ProfileChain.{ProfileChain}
use Rattle.cfg_profile.specs.declared.sections.ProfileSource.{ProfileSource}
use Rattle.cfg_profile.specs.declared.sections.ProfileSource.TheVariants.{Sections, Refused}
use Rattle.cfg_profile.specs.Configuration.{Configuration}
use Rattle.cfg_profile.specs.SectionSets.{SectionSets}
use Rattle.cfg_profile.specs.Selected.{selected_name}
use Rattle.cfg_profile.proofs.PlanLaws.{the_chain}
use Rattle.cfg_sso.specs.Tokens.{session_of_base}
use Rattle.cfg_token.specs.declared.token_key.TokenKey.{TokenKey}

-- what the path of the profile of this name gives: the one answer that there is
unfoldable pub profile_chain : SectionSets → List ℕ → Result ProfileChain ProfileFileError
profile_chain sets name = (the_chain sets name).answer

abbrev pub chain_in : ProfileSource → List ℕ → Result ProfileChain ProfileFileError
chain_in (Refused reason) name = Err (InvalidProfile reason)
chain_in (Sections sets) name = profile_chain sets name

-- a session's key, or why there is none
abbrev pub session_by : Option TokenKey → Result TokenKey TokenError
session_by (Some key) = Ok key
session_by None = Err (TokenNotLoaded NoSession)

abbrev pub session_of : Result ProfileChain ProfileFileError → Result TokenKey TokenError
session_of (Ok chain) = session_by (session_of_base chain.base)
session_of (Err e) = Err (InvalidConfiguration e)

-- The session whose token the selected profile gives. Refused sections and each error of the path are
-- faults of the configuration. A base without a session is not loaded.
unfoldable pub profile_session : Configuration → Result TokenKey TokenError
profile_session conf = session_of (chain_in conf.profiles (selected_name conf))

abbrev pub key_in : Result TokenKey TokenError → Option TokenKey
key_in (Ok key) = Some key
key_in (Err e) = None

-- whose token the selected profile gives, where it gives one
abbrev pub session_key : Configuration → Option TokenKey
session_key conf = key_in (profile_session conf)
