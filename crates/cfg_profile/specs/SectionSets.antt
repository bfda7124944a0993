-- Profiles and sessions as contracts see them.
use Rattle.std.specs.Prelude.{ℕ, List, map, Option, refl, option_and_then}
use Rattle.std.specs.Coded.{Coded, code_by, coded×, coded_ℕ, coded_list}
use Rattle.std.specs.FinMap.{get}
use Rattle.cfg_base.specs.TextMap.{Named, named_code}
use Rattle.cfg_base.specs.Entries.{each_set}
use Rattle.cfg_profile.specs.SectionParts.{SectionParts}
use Rattle.cfg_profile.specs.Sections.{property, named_section}

pub record SectionSets : Type 0 where
  pub profiles : Named SectionParts
  pub sessions : Named SectionParts
  pub selected : List ℕ

abbrev pub parts_code : Coded SectionParts
parts_code = code_by (List ℕ × List (List ℕ × List ℕ)) (coded× (coded_list coded_ℕ) (coded_list (coded× (coded_list coded_ℕ) (coded_list coded_ℕ))))
    (λ s. (s.name, s.properties)) (λ p. record { name = p.0; properties = p.1 }) (λ _. refl)

abbrev pub sets_code : Coded SectionSets
sets_code = code_by (Named SectionParts × (Named SectionParts × List ℕ)) (coded× (named_code parts_code) (coded× (named_code parts_code) (coded_list coded_ℕ)))
    (λ s. (s.profiles, (s.sessions, s.selected))) (λ p. record { profiles = p.0; sessions = p.1.0; selected = p.1.1 }) (λ _. refl)

-- the sections by their names; of two of one name the later counts
abbrev pub sections_by_name : List SectionParts → Named SectionParts
sections_by_name sections = each_set (map named_section sections)

-- the profiles and sessions of these sections, of which the profile of this name is selected
abbrev pub set_of : List SectionParts → List SectionParts → List ℕ → SectionSets
set_of profiles sessions selected = record { profiles = sections_by_name profiles; sessions = sections_by_name sessions; selected = selected }

-- a key of the selected profile
abbrev pub selected_property : SectionSets → List ℕ → Option (List ℕ)
selected_property sets key = option_and_then (λ section. property section key) (get sets.profiles sets.selected)
