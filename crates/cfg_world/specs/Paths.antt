-- Indexes of entries by the bytes of their paths.
use Rattle.std.specs.Prelude.{◌≡◌, ℕ, ◌<◌, List, Option, Some, None, option_map, slice_get, length, is_some}
use Rattle.std.specs.List.{list_any}
use Rattle.std.specs.Str.{encode_utf8_all, bytes_eq}
use Rattle.std.specs.FinMap.{get}
use Rattle.cfg_base.specs.Text.{characters}
use Rattle.cfg_base.specs.TextMap.{Named}
use Rattle.cfg_world.specs.Script.{latest}

-- what the entry at a place holds
abbrev pub held_at : {T : Type 0} → List (List ℕ × T) → Option ℕ → Option T
held_at entries None = None
held_at entries (Some at) = option_map (λ e. e.1) (slice_get entries at)

-- The index has the place of the last entry of each path. A path is told by its bytes.
pub record Finds {T : Type 0} (index : Named ℕ) (entries : List (List ℕ × T)) : Type 0 where
  pub last : (path : List ℕ) → encode_utf8_all (characters path) ≡ path → held_at entries (get index path) ≡ latest (characters path) entries
  pub within : (path : List ℕ) (at : ℕ) → get index path ≡ Some at → at < length entries

-- A path has a name exactly where it is one of these.
pub record Lists (names : Named (Unit {0})) (paths : List (List ℕ)) : Type 0 where
  pub each : (path : List ℕ) → encode_utf8_all (characters path) ≡ path → is_some (get names path) ≡ list_any (λ p. bytes_eq p (characters path)) paths
