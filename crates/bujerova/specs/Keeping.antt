-- A source that keeps what was read of it.
use Rattle.std.specs.Prelude.{◌≡◌, ℕ, List, ◌++◌, Option, Some, None, if◌then◌else◌, ⊤}
use Rattle.bujerova.specs.declared.keeping.KeepingSource.{KeepingSource}

-- the source below it
abbrev pub source_of : {S : Type 0} → KeepingSource S → S
source_of s = s.source

-- the bytes that were read, where all of them are kept
abbrev pub kept_of : {S : Type 0} → KeepingSource S → Option (List ℕ)
kept_of s = if s.is_whole then Some s.kept.items else None

-- these bytes were read more, or are not all kept from now on
abbrev pub KeepsMore : Option (List ℕ) → Option (List ℕ) → List ℕ → Type 0
KeepsMore old None bytes = ⊤
KeepsMore None (Some kept) bytes = ⊥
KeepsMore (Some before) (Some kept) bytes = kept ≡ before ++ bytes
