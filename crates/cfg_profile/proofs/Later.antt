-- The later of two equal keys counts, and the later of two sections of one name.
use Rattle.std.proofs.Common.{◌≡◌, ◌↔◌, ℕ, List, [], ◌∷◌, ◌++◌, ◌⊎◌, map, Bool, true, false, cond, Option, Some, None, inl, inr, refl, sym, ap, ◌∙◌, subst}
use Rattle.std.specs.Prelude.{fold, if◌then◌else◌}
use Rattle.std.specs.List.{All}
use Rattle.std.specs.Cmp.{eq_by_cmp_equiv}
use Rattle.std.specs.Cmp.Lexicographic.{nat_list_cmp_total}
use Rattle.std.specs.FinMap.{get, empty, insert, get-insert}
use Rattle.std.specs.Str.{bytes_eq, str_eq_ignore_ascii_case}
use Rattle.std.proofs.lemmas.Map.Text.{is_eq-slice_cmp}
use Rattle.std.proofs.lemmas.List.Elements.{All-nil, All-cons, All-head, All-tail}
use Rattle.cfg_base.specs.TextMap.{Named}
use Rattle.cfg_profile.specs.SectionParts.{SectionParts}
use Rattle.cfg_profile.specs.Sections.{last_match, property, named_section}
use Rattle.cfg_profile.specs.SectionSets.{sections_by_name}
use Rattle.cfg_profile.specs.LastUnder.{IsOther, IsLastUnder}

abbrev Pairs : Type 0
Pairs = List (List ℕ × List ℕ)

-- the value that is found so far, after one pair more
abbrev step : List ℕ → Option (List ℕ) → List ℕ × List ℕ → Option (List ℕ)
step key found p = if str_eq_ignore_ascii_case p.0 key then Some p.1 else found

step_other : (key : List ℕ) (found : Option (List ℕ)) (p : List ℕ × List ℕ) → IsOther key p → step key found p ≡ found
step_other key found p h = ap (λ t. cond t (Some p.1) found) h

-- pairs of other keys change nothing
others_keep : (key : List ℕ) (pairs : Pairs) (found : Option (List ℕ)) → All (IsOther key) pairs → fold (step key) found pairs ≡ found
others_keep key [] found h = refl
others_keep key (p ∷ pairs) found h =
    ap (λ f. fold (step key) f pairs) (step_other key found p (All-head (IsOther key) p pairs h)) ∙ others_keep key pairs found (All-tail (IsOther key) p pairs h)

-- the last pair of the key counts
last_counts : (key name value : List ℕ) (before behind : Pairs) (found : Option (List ℕ)) → str_eq_ignore_ascii_case name key ≡ true → All (IsOther key) behind →
    fold (step key) found (before ++ (name, value) ∷ behind) ≡ Some value
last_counts key name value [] behind found same h = ap (λ t. fold (step key) (cond t (Some value) found) behind) same ∙ others_keep key behind (Some value) h
last_counts key name value (p ∷ before) behind found same h = last_counts key name value before behind (step key found p) same h

-- what a look-up came to: a pair that is the last of its key, or what was found before
abbrev Judged : List ℕ → Pairs → Option (List ℕ) → Option (List ℕ) → Type 0
Judged key pairs found out = ((value : List ℕ) × (out ≡ Some value) × IsLastUnder key pairs value) ⊎ (All (IsOther key) pairs × (out ≡ found))

judged_first : (key : List ℕ) (p : List ℕ × List ℕ) (pairs : Pairs) (found out : Option (List ℕ)) (t : Bool) → str_eq_ignore_ascii_case p.0 key ≡ t →
    Judged key pairs (cond t (Some p.1) found) out → Judged key (p ∷ pairs) found out
judged_first key p pairs found out t is (inl l) =
    let last = l.2 in
    inl (l.0, l.1, record { before = p ∷ last.before; name = last.name; behind = last.behind; stands = ap (λ ps. p ∷ ps) last.stands; same = last.same; others = last.others })
judged_first key p pairs found out true is (inr r) = inl (p.1, r.1, record { before = []; name = p.0; behind = pairs; stands = refl; same = is; others = r.0 })
judged_first key p pairs found out false is (inr r) = inr (All-cons (IsOther key) p pairs is r.0, r.1)

judged : (key : List ℕ) (pairs : Pairs) (found : Option (List ℕ)) → Judged key pairs found (fold (step key) found pairs)
judged key [] found = inr (All-nil (IsOther key), refl)
judged key (p ∷ pairs) found = judged_first key p pairs found (fold (step key) (step key found p) pairs) (str_eq_ignore_ascii_case p.0 key) refl (judged key pairs (step key found p))

some_is : (key value : List ℕ) (pairs : Pairs) → Judged key pairs None (last_match key pairs) → last_match key pairs ≡ Some value → IsLastUnder key pairs value
some_is key value pairs (inl l) h = let same : l.0 ≡ value = cc in subst (λ v. IsLastUnder key pairs v) same l.2
some_is key value pairs (inr r) h = let no : Some value ≡ None = sym h ∙ r.1 in cc

none_is : (key : List ℕ) (pairs : Pairs) → Judged key pairs None (last_match key pairs) → last_match key pairs ≡ None → All (IsOther key) pairs
none_is key pairs (inl l) h = let no : Some l.0 ≡ None = sym l.1 ∙ h in cc
none_is key pairs (inr r) h = r.0

pub last_property : (section : SectionParts) (key value : List ℕ) → (property section key ≡ Some value) ↔ IsLastUnder key section.properties value
last_property section key value = (
  some_is key value section.properties (judged key section.properties None),
  λ l. subst (λ ps. last_match key ps ≡ Some value) (sym l.stands) (last_counts key l.name value l.before l.behind None l.same l.others),
)

pub no_property : (section : SectionParts) (key : List ℕ) → (property section key ≡ None) ↔ All (IsOther key) section.properties
no_property section key = (none_is key section.properties (judged key section.properties None), others_keep key section.properties None)

abbrev set_section : Named SectionParts → List ℕ × SectionParts → Named SectionParts
set_section m e = insert m e.0 e.1

abbrev IsNamedOther : List ℕ → SectionParts → Type 0
IsNamedOther name section = bytes_eq name section.name ≡ false

sections_keep : (name : List ℕ) (section : SectionParts) (behind : List SectionParts) (m : Named SectionParts) → All (IsNamedOther name) behind → get m name ≡ Some section →
    get (fold set_section m (map named_section behind)) name ≡ Some section
sections_keep name section [] m h there = there
sections_keep name section (s ∷ behind) m h there =
    sections_keep name section behind (insert m s.name s) (All-tail (IsNamedOther name) s behind h)
    (get-insert nat_list_cmp_total m s.name s name ∙ ap (λ t. cond t (Some s) (get m name)) (is_eq-slice_cmp name s.name ∙ All-head (IsNamedOther name) s behind h) ∙ there)

section_counts : (before behind : List SectionParts) (section : SectionParts) (m : Named SectionParts) → All (IsNamedOther section.name) behind →
    get (fold set_section m (map named_section (before ++ section ∷ behind))) section.name ≡ Some section
section_counts [] behind section m h =
    sections_keep section.name section behind (insert m section.name section) h
    (get-insert nat_list_cmp_total m section.name section section.name ∙ ap (λ t. cond t (Some section) (get m section.name)) ((eq_by_cmp_equiv nat_list_cmp_total).refl section.name))
section_counts (s ∷ before) behind section m h = section_counts before behind section (insert m s.name s) h

pub later_section : (before behind : List SectionParts) (section : SectionParts) → All (IsNamedOther section.name) behind →
    get (sections_by_name (before ++ section ∷ behind)) section.name ≡ Some section
later_section before behind section h = section_counts before behind section empty h
