-- Who answered a call of the default chain, in its caller's words.
use Rattle.std.specs.Prelude.{◌≡◌, List, ◌∷◌, ◌++◌, map, true, false, Err}
use Rattle.std.specs.List.{AllByRecursion, flat_map}
use Rattle.cfg_types.specs.declared.errors.CredentialsError.{CredentialsError}
use Rattle.cfg_types.specs.declared.errors.ProviderAttempt.{ProviderAttempt}
use Rattle.cfg_world.specs.Fits.{Pair}
use Rattle.cfg_world.specs.Held.{Held}
use Rattle.cfg_kept.specs.declared.kept.Kept.{Kept}
use Rattle.cfg_kept.specs.Kinds.{Value}
use Rattle.cfg_kept.specs.KeptStates.{kept_holdings}
use Rattle.cfg_providers.specs.CustomSources.{Answer}
use Rattle.cfg_types.specs.Classes.{is_not_loaded_answer}
use Rattle.cfg_chain.specs.declared.member.Member.{Member}
use Rattle.cfg_chain.specs.Settings.{Setting, ChainSetting, Services, AreServices, setting}
use Rattle.cfg_chain.specs.Members.{name_of, default_members}
use Rattle.cfg_meta.specs.CredentialsAnswers.{is_not_loaded, none_loaded}
use Rattle.cfg_chain.specs.PassedOver.{IsPassedOver}
use Rattle.cfg_chain.specs.Resolves.{IsPart}

-- A member that was asked and passed over: what it found kept, its part of the journal, and its error.
pub record Passed : Type 0 where
  pub who : Member
  pub found : List Value
  pub part : List Pair
  pub error : CredentialsError

-- It was not loaded over its part, by its line of the table.
pub record WasNotLoaded (s : Setting) (p : Passed) : Type 0 where
  pub answers : IsPart s p.who p.found p.part (Err p.error)
  pub not_loaded : is_not_loaded p.error ≡ true
  pub line : IsPassedOver s p.who p.found p.part

-- the members, what they found, and their parts, in order
abbrev pub members_in : List Passed → List Member
members_in passed = map (λ p. p.who) passed

abbrev pub found_in : List Passed → List Value
found_in passed = flat_map (λ p. p.found) passed

abbrev pub parts_in : List Passed → List Pair
parts_in passed = flat_map (λ p. p.part) passed

-- what an error tells of a member that was passed over
abbrev pub told_of : Passed → ProviderAttempt CredentialsError
told_of p = record { name = name_of p.who; error = p.error }

-- One of these members answered: the journal is the parts of those before it, none of which was loaded,
-- and then its own, over which it answers so.
pub record IsAnsweredBy (s : Setting) (members : List Member) (found : List Value) (journal : List Pair) (out : Answer) : Type 0 where
  pub passed_over : List Passed
  pub who : Member
  pub not_asked : List Member
  pub order : members ≡ members_in passed_over ++ who ∷ not_asked
  pub not_loaded : AllByRecursion (WasNotLoaded s) passed_over
  pub found_there : List Value
  pub answered : List Pair
  pub answers : IsPart s who found_there answered out
  pub loaded : is_not_loaded_answer out ≡ false
  pub finds : found ≡ found_in passed_over ++ found_there
  pub asks : journal ≡ parts_in passed_over ++ answered

-- None of these members was loaded: the journal is their parts, and the answer tells of each, in order.
pub record IsAnsweredByNone (s : Setting) (members : List Member) (found : List Value) (journal : List Pair) (out : Answer) : Type 0 where
  pub passed_over : List Passed
  pub order : members ≡ members_in passed_over
  pub not_loaded : AllByRecursion (WasNotLoaded s) passed_over
  pub tells : out ≡ Err (none_loaded (map told_of passed_over))
  pub finds : found ≡ found_in passed_over
  pub asks : journal ≡ parts_in passed_over

-- What the answer of a call tells its caller of the stretch by which the journal grew: unless it is that nothing
-- was loaded, one member answered, be it with credentials or with an error; else none of the five was loaded.
pub record TellsWho (over : ChainSetting) (found : List Value) (before later : List Pair) (out : Answer) : Type 0 where
  pub services : Services
  pub names : AreServices over services
  pub journal : List Pair
  pub grows : later ≡ before ++ journal
  pub by_one : is_not_loaded_answer out ≡ false → IsAnsweredBy (setting over services) default_members found journal out
  pub by_none : is_not_loaded_answer out ≡ true → IsAnsweredByNone (setting over services) default_members found journal out

-- The same, by what is kept and the journal of a world.
abbrev pub TellsCaller : {D : Type 0} → ChainSetting → Kept → Held D → Held D → Answer → Type 0
TellsCaller over kept before later out = TellsWho over (kept_holdings kept).found before.journal later.journal out
