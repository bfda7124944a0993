-- Look-up of keys in sections.
use Rattle.std.specs.Prelude.{ℕ, List, Option, Some, None, fold, option_map, if◌then◌else◌}
use Rattle.std.specs.Str.{str_eq_ignore_ascii_case}
use Rattle.cfg_base.specs.Text.{characters}
use Rattle.cfg_profile.specs.SectionParts.{SectionParts}
pub use Rattle.cfg_profile.specs.SectionParts.{bytes_of}

-- the value of the last of these whose key is this one, but for ASCII case
abbrev pub last_match : List ℕ → List (List ℕ × List ℕ) → Option (List ℕ)
last_match key = fold (λ found p. if str_eq_ignore_ascii_case p.0 key then Some p.1 else found) None

-- the value of a key in a section
abbrev pub property : SectionParts → List ℕ → Option (List ℕ)
property section key = last_match key section.properties

-- the characters of a key's value
abbrev pub text_property : SectionParts → List ℕ → Option (List ℕ)
text_property section key = option_map characters (property section key)

-- a section with its name
abbrev pub named_section : SectionParts → List ℕ × SectionParts
named_section section = (section.name, section)
