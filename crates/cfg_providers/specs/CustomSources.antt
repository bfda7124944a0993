-- Sources of credentials that a caller brings, as contracts see them.
use Rattle.std.specs.Prelude.{ℕ, List, Option, Some, None, Result, if◌then◌else◌}
use Rattle.std.specs.List.{fold}
use Rattle.std.specs.Option.{option_or}
use Rattle.std.specs.declared.alloc.Global.{Global}
use Rattle.std.specs.declared.dyn_box.DynBox.{DynBox}
use Rattle.cfg_types.specs.Keys.{Keys}
use Rattle.cfg_types.specs.declared.errors.CredentialsError.{CredentialsError}
use Rattle.cfg_profile.specs.NamedSources.{is_named}
use Rattle.cfg_providers.specs.declared.custom.CustomSource.{CustomSource}

-- what a source answers
abbrev pub Answer : Type 0
Answer = Result Keys CredentialsError

-- a name, and what its source answers
abbrev pub NamedAnswer : Type 0
NamedAnswer = List ℕ × Answer

module _ {V : Type 0} {I : V → Type 0} where
  -- the name of a source, with what it answers by the meaning of its interface
  abbrev pub named : (DynBox V Global I → Answer) → CustomSource V I → NamedAnswer
  named value source = (source.name, value source.provider)

-- What stands under the last of these names that is this one, ASCII case of letters apart. Every other
-- byte counts, blanks too.
abbrev pub last_named : {A : Type 0} → List ℕ → List (List ℕ × A) → Option A
last_named name sources = fold (λ found s. if is_named name s.0 then Some s.1 else found) None sources

-- what a name means: a custom source, and else a built-in one
abbrev pub meant : {A : Type 0} → List ℕ → List (List ℕ × A) → List (List ℕ × A) → Option A
meant name custom built_in = option_or (last_named name custom) (last_named name built_in)
