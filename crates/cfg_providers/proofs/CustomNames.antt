-- What the last of several sources means.
use Rattle.std.proofs.Common.{◌≡◌, ℕ, List, [], ◌∷◌, ◌++◌, Bool, true, false, cond, map, Option, Some, None, refl, sym, ap, ◌∙◌}
use Rattle.std.proofs.lemmas.List.Sums.{fold-append}
use Rattle.std.proofs.Math.Bool.{or-false}
use Rattle.std.specs.List.{fold}
use Rattle.std.specs.Prelude.{◌||◌, is_some, if◌then◌else◌}
use Rattle.std.specs.Str.{bytes_eq}
use Rattle.cfg_profile.specs.Laws.{lowered}
use Rattle.cfg_profile.specs.NamedSources.{is_named, is_custom}
use Rattle.cfg_providers.specs.CustomSources.{last_named}

or_either : (a b c : Bool) → ((a || b) || c) ≡ (a || (b || c))
or_either true b c = refl
or_either false b c = refl

module _ {A : Type 0} where
  pub named_in_any_case : (sources : List (List ℕ × A)) (name other : List ℕ) → lowered name ≡ lowered other → last_named name sources ≡ last_named other sources
  named_in_any_case sources name other h = ap (λ bytes. fold (λ found s. if bytes_eq (lowered s.0) bytes then Some s.1 else found) None sources) h

  -- the last of the names, or else what was found before
  abbrev step : List ℕ → Option A → List ℕ × A → Option A
  step name found s = if is_named name s.0 then Some s.1 else found

  pub named_later : (sources : List (List ℕ × A)) (name source : List ℕ) (answer : A) →
      last_named name (sources ++ (source, answer) ∷ []) ≡ (if is_named name source then Some answer else last_named name sources)
  named_later sources name source answer = fold-append (step name) None sources ((source, answer) ∷ [])

  found_more : (b : Bool) (found : Option A) (answer : A) → is_some (cond b (Some answer) found) ≡ (is_some found || b)
  found_more true None answer = refl
  found_more true (Some x) answer = refl
  found_more false None answer = refl
  found_more false (Some x) answer = refl

  found_from : (name : List ℕ) (found : Option A) (sources : List (List ℕ × A)) →
      is_some (fold (step name) found sources) ≡ (is_some found || is_custom (map (λ s. s.0) sources) name)
  found_from name found [] = sym (or-false (is_some found))
  found_from name found (s ∷ sources) =
      found_from name (step name found s) sources
      ∙ ap (λ b. b || is_custom (map (λ s. s.0) sources) name) (found_more (is_named name s.0) found s.1)
      ∙ or_either (is_some found) (is_named name s.0) (is_custom (map (λ s. s.0) sources) name)

  pub named_is_known : (sources : List (List ℕ × A)) (name : List ℕ) → is_some (last_named name sources) ≡ is_custom (map (λ s. s.0) sources) name
  named_is_known sources name = found_from name None sources
