-- A source is known by its bytes.
use Rattle.std.proofs.Common.{◌≡◌, ℕ, suc, List, [], ◌∷◌, Bool, true, false, ◌||◌, refl, inl, inr, ⊎_elim, ap, ◌∙◌}
use Rattle.std.specs.Prelude.{◌⊎◌}
use Rattle.std.specs.List.{list_any}
use Rattle.std.specs.Str.{bytes_eq, str_to_ascii_lowercase}
use Rattle.std.proofs.lemmas.Slice.Eq.{bytes_eq-Decides}
use Rattle.std.proofs.lemmas.Map.Keys.{any_passes_from_place}
use Rattle.cfg_profile.specs.NamedSources.{built_in, is_custom, is_built_in}
use Rattle.cfg_profile.specs.Laws.{lowered, IsAmong, KnownByBytes, KnownInAnyCase}
use Rattle.cfg_profile.proofs.Trails.{or_true}

split : (a b : Bool) → (a || b) ≡ true → (a ≡ true) ⊎ (b ≡ true)
split true b h = inl refl
split false b h = inr h

left : (a b : Bool) → a ≡ true → (a || b) ≡ true
left a b h = ap (λ x. x || b) h

right : (a b : Bool) → b ≡ true → (a || b) ≡ true
right a b h = ap (λ x. a || x) h ∙ or_true a

abbrev is_viewed : (List ℕ → List ℕ) → List ℕ → List ℕ → Bool
is_viewed view text name = bytes_eq (view name) text

among : (view : List ℕ → List ℕ) (text : List ℕ) (names : List (List ℕ)) → list_any (is_viewed view text) names ≡ true → IsAmong view text names
among view text [] h = absurd cc
among view text (n ∷ names) h =
    elim (bytes_eq (view n) text) as (λ b. bytes_eq (view n) text ≡ b → (b || list_any (is_viewed view text) names) ≡ true → IsAmong view text (n ∷ names)) [
      | true ↦ λ e _. record { place = 0; name = n; stands = refl; same = (bytes_eq-Decides (view n) text).0 e }
      | false ↦ λ e g. let p = among view text names g in record { place = suc p.place; name = p.name; stands = p.stands; same = p.same }
    ] refl h

passes : (view : List ℕ → List ℕ) (text : List ℕ) (names : List (List ℕ)) → IsAmong view text names → list_any (is_viewed view text) names ≡ true
passes view text names a = any_passes_from_place (is_viewed view text) names a.place a.name a.stands ((bytes_eq-Decides (view a.name) text).1 a.same)

pub known_by_bytes : KnownByBytes
known_by_bytes sources name = (
  λ h. ⊎_elim (λ a. inl (among lowered (lowered name) sources a)) (λ b. inr (among str_to_ascii_lowercase (lowered name) built_in b)) (split (is_custom sources name) (is_built_in name) h),
  λ h. ⊎_elim (λ a. left (is_custom sources name) (is_built_in name) (passes lowered (lowered name) sources a))
      (λ b. right (is_custom sources name) (is_built_in name) (passes str_to_ascii_lowercase (lowered name) built_in b)) h,
)

pub known_in_any_case : KnownInAnyCase
known_in_any_case sources name other h i =
    list_any (λ source. bytes_eq (lowered source) (h i)) sources || list_any (λ source. bytes_eq (str_to_ascii_lowercase source) (h i)) built_in
