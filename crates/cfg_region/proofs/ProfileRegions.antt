-- The region of a profile is the one that its path has.
use Rattle.std.proofs.Common.{◌≡◌, ℕ, zero, suc, ◌+◌, ◌≤◌, List, Some, None, refl, sym, ap, ◌∙◌, subst, arith}
use Rattle.std.specs.Prelude.{option_and_then, codes}
use Rattle.std.specs.FinMap.{get, len}
use Rattle.cfg_base.specs.Text.{characters}
use Rattle.cfg_base.specs.TextMap.{Named}
use Rattle.cfg_profile.specs.SectionParts.{SectionParts}
use Rattle.cfg_profile.specs.Sections.{property}
use Rattle.cfg_profile.specs.Regions.{HasRegion, itself, by_source, IsRegion}
use Rattle.cfg_profile.proofs.RegionWalks.{source_if, source_at, onto, after, to_first, from_first, no_region, neither_key, no_section}
use Rattle.cfg_region.specs.Environments.{Told}
use Rattle.cfg_region.specs.Profiles.{own_or_source, section_region, region_within, named_region}

-- the walk stands at this name after so many steps, and as many profiles may be left as it goes on for
region_found : (profiles : Named SectionParts) (first : List ℕ) (more k : ℕ) (name : List ℕ) → len profiles ≤ more + k → after profiles first k ≡ Some name → IsRegion profiles first (region_within more profiles name)
region_found profiles first zero k name few at = λ region r. no_region profiles first region name k (omega arith) at r
region_found profiles first (suc more) k name few at =
    elim (get profiles name) as (λ o. get profiles name ≡ o → IsRegion profiles first (section_region (region_within more profiles) o)) [
      | None ↦ λ e. λ region r. no_section profiles name region e (from_first profiles first region k name at r)
      | Some s ↦ λ e. elim (property s (codes "region")) as (λ x. property s (codes "region") ≡ x → IsRegion profiles first (own_or_source (region_within more profiles) x (property s (codes "source_profile")))) [
        | Some value ↦ λ a. (value, to_first profiles first value k name at (itself s e a), refl)
        | None ↦ λ a. elim (property s (codes "source_profile")) as (λ y. property s (codes "source_profile") ≡ y → IsRegion profiles first (own_or_source (region_within more profiles) None y)) [
          | None ↦ λ b. λ region r. neither_key profiles name region s e a b (from_first profiles first region k name at r)
          | Some source ↦ λ b.
              let goes : onto profiles name ≡ Some source = ap source_at e ∙ ap (λ x. source_if x (property s (codes "source_profile"))) a ∙ b in
              region_found profiles first more (suc k) source (omega arith) (ap (option_and_then (onto profiles)) at ∙ goes)
        ] refl
      ] refl
    ] refl

pub the_region : (profiles : Named SectionParts) (name : List ℕ) → IsRegion profiles name (named_region profiles name)
unfolding named_region
the_region profiles name = region_found profiles name (len profiles) zero name (omega arith) refl

-- a profile has one region
one_value : (profiles : Named SectionParts) (name a b : List ℕ) → HasRegion profiles name a → HasRegion profiles name b → a ≡ b
one_value profiles name a b (itself s e x) (itself t f y) =
    let p : Some s ≡ Some t = sym e ∙ f in
    let same : s ≡ t = cc in
    let q : Some a ≡ Some b = sym x ∙ ap (λ u. property u (codes "region")) same ∙ y in
    cc
one_value profiles name a b (itself s e x) (by_source t f y z r) =
    let p : Some s ≡ Some t = sym e ∙ f in
    let same : s ≡ t = cc in
    let q : Some a ≡ None = sym x ∙ ap (λ u. property u (codes "region")) same ∙ y in
    absurd cc
one_value profiles name a b (by_source s e x y r) (itself t f z) =
    let p : Some s ≡ Some t = sym e ∙ f in
    let same : s ≡ t = cc in
    let q : None ≡ Some b = sym x ∙ ap (λ u. property u (codes "region")) same ∙ z in
    absurd cc
one_value profiles name a b (by_source {source = one} s e x y r) (by_source {source = other} t f z w q) =
    let p : Some s ≡ Some t = sym e ∙ f in
    let same : s ≡ t = cc in
    let sources : Some one ≡ Some other = sym y ∙ ap (λ u. property u (codes "source_profile")) same ∙ w in
    let source : other ≡ one = cc in
    one_value profiles one a b r (subst (λ n. HasRegion profiles n b) source q)

pub one_region : (profiles : Named SectionParts) (name : List ℕ) (a b : Told) → IsRegion profiles name a → IsRegion profiles name b → a ≡ b
one_region profiles name None None h g = refl
one_region profiles name None (Some b) h g = absurd (h g.0 g.1)
one_region profiles name (Some a) None h g = absurd (g h.0 h.1)
one_region profiles name (Some a) (Some b) h g = ap Some (h.2 ∙ ap characters (one_value profiles name h.0 g.0 h.1 g.1) ∙ sym g.2)

-- there is no other answer
pub only_region : (profiles : Named SectionParts) (name : List ℕ) (answer : Told) → IsRegion profiles name answer → named_region profiles name ≡ answer
only_region profiles name answer h = one_region profiles name (named_region profiles name) answer (the_region profiles name) h
