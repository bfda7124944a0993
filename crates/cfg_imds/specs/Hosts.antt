-- Whether a text is a URI with a scheme and an authority.
use Rattle.std.specs.Prelude.{ℕ, List, Bool, true, false}
use Rattle.cfg_imds.specs.Endpoints.{HasHost}

-- the test for it
unfoldable pub IsHosted : List ℕ → Bool → Type 0
IsHosted text true = HasHost text
IsHosted text false = HasHost text → ⊥
