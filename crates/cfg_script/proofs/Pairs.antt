-- Lists of two and of three.
use Rattle.std.proofs.Common.{◌≡◌, List, [], ◌∷◌, length, None, refl}
use Rattle.serde_json.specs.View.{items_view}
use Rattle.serde_json.specs.declared.value.Value.{Value}
use Rattle.cfg_script.specs.Json.{two, three}

pub not_two : (vs : List Value) → (length vs ≡ 2 → ⊥) → None ≡ two (items_view vs)
not_two [] other = refl
not_two (a ∷ []) other = refl
not_two (a ∷ b ∷ []) other = absurd (other refl)
not_two (a ∷ b ∷ c ∷ vs) other = refl

pub not_three : (vs : List Value) → (length vs ≡ 3 → ⊥) → None ≡ three (items_view vs)
not_three [] other = refl
not_three (a ∷ []) other = refl
not_three (a ∷ b ∷ []) other = refl
not_three (a ∷ b ∷ c ∷ []) other = absurd (other refl)
not_three (a ∷ b ∷ c ∷ d ∷ vs) other = refl
