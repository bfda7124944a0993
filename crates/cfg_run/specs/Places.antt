-- Where a call is that asks for the roles of the selected profile, and what a walk from there comes to.
use Rattle.std.specs.Prelude.{◌≡◌, List, ◌++◌, map, Option, Some, None, IfSome}
use Rattle.cfg_types.specs.declared.errors.CredentialsError.{CredentialsError}
use Rattle.cfg_token.specs.declared.token_key.TokenKey.{TokenKey}
use Rattle.cfg_world.specs.declared.ask.Question.{Question}
use Rattle.cfg_world.specs.Fits.{Pair}
use Rattle.cfg_kept.specs.declared.kept.Kept.{Kept}
use Rattle.cfg_kept.specs.Chains.{passed}
use Rattle.cfg_kept.specs.FoundValues.{bare}
use Rattle.cfg_kept.specs.Kinds.{Value, States}
use Rattle.cfg_kept.specs.KeptInquiry.{Runs, Begins}
use Rattle.cfg_kept.specs.KeptStates.{states_of, kept_key}
use Rattle.cfg_chain.specs.declared.member.Member.{Member}
use Rattle.cfg_chain.specs.declared.member.Member.TheVariants.{Environment, Profile}
use Rattle.cfg_chain.specs.Members.{credentials_chain, member_tree}
use Rattle.cfg_chain.specs.Settings.{ChainSetting, Services, AreServices, setting}
use Rattle.cfg_chain.specs.profile.Profiles.{profile}
use Rattle.cfg_providers.specs.CustomSources.{Answer}
use Rattle.cfg_run.specs.CallSoFar.{CallSoFar}

-- The environment was passed over, and the selected profile's part has begun behind it.
pub record IsInProfile (over : ChainSetting) (old new : States) (found : List Value) (asked : List Pair) : Type 0 where
  pub services : Services
  pub names : AreServices over services
  pub found_first : List Value
  pub found_then : List Value
  pub part : List Pair
  pub rest : List Pair
  pub middle : Option States
  pub given : Answer
  pub error : CredentialsError
  pub finds : found ≡ found_first ++ found_then
  pub parts : asked ≡ part ++ rest
  pub first : Runs (member_tree (setting over services) Environment) (Some old) found_first part given middle
  pub passes : passed (credentials_chain (setting over services)) given ≡ Some error
  pub begins : Begins (profile (setting over services)) middle found_then rest (Some new)

-- It is, where a question is shown that the profile asks.
abbrev pub IsInMember : ChainSetting → CallSoFar → Option Question → Option Member → Type 0
IsInMember over s (Some question) (Some Profile) = IsInProfile over s.base s.kept s.found s.asked
IsInMember over s _ _ = Unit {0}

-- what is kept after a walk, and what it found: as before, where it is not told
abbrev pub states_after : Option Kept → States → States
states_after (Some kept) states = states_of kept
states_after None states = states

abbrev pub found_after : Option Kept → List Value → List Value
found_after (Some kept) found = map bare kept.found.items
found_after None found = found

-- it has this key, where it is told
abbrev pub HasKeyAfter : Option TokenKey → Option Kept → Type 0
HasKeyAfter key kept = IfSome kept (λ k. kept_key k ≡ key)
