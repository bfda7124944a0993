-- Where a profile has a region, it is found in as many steps as there are profiles.
use Rattle.std.proofs.Common.{◌≡◌, ℕ, zero, suc, ◌+◌, ◌-◌, ◌≤◌, true, false, cond, List, [], ◌∷◌, ◌++◌, length, Option, Some, None, refl, sym, ap, ◌∙◌, subst, ⊎_elim, arith, length-append}
use Rattle.std.specs.Prelude.{slice_get, is_some, option_and_then, codes}
use Rattle.std.specs.FinMap.{get, len, contains_key}
use Rattle.std.proofs.lemmas.Bool.{cases_lt}
use Rattle.cfg_base.specs.TextMap.{Named}
use Rattle.cfg_profile.specs.SectionParts.{SectionParts}
use Rattle.cfg_profile.specs.Sections.{property}
use Rattle.cfg_profile.specs.Regions.{HasRegion, itself, by_source}
use Rattle.cfg_profile.proofs.Trails.{IsTrail, IsFinal, within, item, last_item, place_of, short, final_trail}

abbrev pub source_if : Option (List ℕ) → Option (List ℕ) → Option (List ℕ)
source_if (Some region) source = None
source_if None source = source

abbrev pub source_at : Option SectionParts → Option (List ℕ)
source_at None = None
source_at (Some s) = source_if (property s (codes "region")) (property s (codes "source_profile"))

-- where the walk goes on to
abbrev pub onto : Named SectionParts → List ℕ → Option (List ℕ)
onto profiles name = source_at (get profiles name)

-- where it stands after so many steps
abbrev pub after : Named SectionParts → List ℕ → ℕ → Option (List ℕ)
after profiles first zero = Some first
after profiles first (suc k) = option_and_then (onto profiles) (after profiles first k)

-- the region of a profile is that of its source, where the walk goes on
pub on_by : (profiles : Named SectionParts) (name source : List ℕ) (region : List ℕ) → onto profiles name ≡ Some source → HasRegion profiles source region → HasRegion profiles name region
on_by profiles name source region h r =
    elim (get profiles name) as (λ o. get profiles name ≡ o → source_at o ≡ Some source → HasRegion profiles name region) [
      | None ↦ λ e g. absurd cc
      | Some s ↦ λ e g. elim (property s (codes "region")) as (λ x. property s (codes "region") ≡ x → source_if x (property s (codes "source_profile")) ≡ Some source → HasRegion profiles name region) [
        | None ↦ λ a b. by_source s e a b r
        | Some y ↦ λ a b. absurd cc
      ] refl g
    ] refl h

pub back_by : (profiles : Named SectionParts) (name source region : List ℕ) → HasRegion profiles name region → onto profiles name ≡ Some source → HasRegion profiles source region
back_by profiles name source region (itself s e a) h =
    let x : None ≡ Some source = sym (ap source_at e ∙ ap (λ x. source_if x (property s (codes "source_profile"))) a) ∙ h in
    absurd cc
back_by profiles name source region (by_source {source = other} s e a b r) h =
    let x : Some other ≡ Some source = sym (ap source_at e ∙ ap (λ x. source_if x (property s (codes "source_profile"))) a ∙ b) ∙ h in
    let y : other ≡ source = cc in
    subst (λ n. HasRegion profiles n region) y r

split : (f : List ℕ → Option (List ℕ)) (o : Option (List ℕ)) (m : List ℕ) → option_and_then f o ≡ Some m → (n : List ℕ) × (o ≡ Some n) × (f n ≡ Some m)
split f None m h = absurd cc
split f (Some n) m h = (n, refl, h)

-- the first name has the region of the name where the walk stands, and the other way round
pub to_first : (profiles : Named SectionParts) (first region : List ℕ) (k : ℕ) (name : List ℕ) → after profiles first k ≡ Some name → HasRegion profiles name region → HasRegion profiles first region
to_first profiles first region zero name h r = let e : first ≡ name = cc in subst (λ n. HasRegion profiles n region) (sym e) r
to_first profiles first region (suc k) name h r =
    let a = split (onto profiles) (after profiles first k) name h in
    to_first profiles first region k a.0 a.1 (on_by profiles a.0 name region a.2 r)

pub from_first : (profiles : Named SectionParts) (first region : List ℕ) (k : ℕ) (name : List ℕ) → after profiles first k ≡ Some name → HasRegion profiles first region → HasRegion profiles name region
from_first profiles first region zero name h r = let e : first ≡ name = cc in subst (λ n. HasRegion profiles n region) e r
from_first profiles first region (suc k) name h r =
    let a = split (onto profiles) (after profiles first k) name h in
    back_by profiles a.0 name region (from_first profiles first region k a.0 a.1 r) a.2

-- a name has a region where it has a section and names the region, or goes on
pub has_section : (profiles : Named SectionParts) (name region : List ℕ) → HasRegion profiles name region → is_some (get profiles name) ≡ true
has_section profiles name region (itself s e a) = ap is_some e
has_section profiles name region (by_source s e a b r) = ap is_some e

-- steps to names that have sections
abbrev there : Named SectionParts → List ℕ → Option (List ℕ)
there profiles name = cond (contains_key profiles name) (Some name) None

abbrev next_there : Named SectionParts → ℕ → List ℕ → Option (List ℕ)
next_there profiles i name = option_and_then (there profiles) (onto profiles name)

there_is : (profiles : Named SectionParts) (n m : List ℕ) → there profiles n ≡ Some m → (n ≡ m) × (contains_key profiles m ≡ true)
there_is profiles n m h =
    elim (contains_key profiles n) as (λ b. contains_key profiles n ≡ b → cond b (Some n) None ≡ Some m → (n ≡ m) × (contains_key profiles m ≡ true)) [
      | true ↦ λ e g. let same : n ≡ m = cc in (same, ap (contains_key profiles) (sym same) ∙ e)
      | false ↦ λ e g. absurd cc
    ] refl h

goes_there : (profiles : Named SectionParts) (i : ℕ) (n m : List ℕ) → next_there profiles i n ≡ Some m → (onto profiles n ≡ Some m) × (contains_key profiles m ≡ true)
goes_there profiles i n m h =
    let a = split (there profiles) (onto profiles n) m h in
    let b = there_is profiles a.0 m a.2 in
    (a.1 ∙ ap Some b.0, b.1)

stays : (profiles : Named SectionParts) (i : ℕ) (n m : List ℕ) → next_there profiles i n ≡ Some m → is_some (get profiles m) ≡ true
stays profiles i n m h = (goes_there profiles i n m h).1

along : (profiles : Named SectionParts) (first : List ℕ) (names : List (List ℕ)) → IsTrail (next_there profiles) first names → (i : ℕ) (n : List ℕ) → slice_get names i ≡ Some n → after profiles first i ≡ Some n
along profiles first names t zero n h = sym t.starts ∙ h
along profiles first names t (suc i) n h =
    let l = within names (suc i) n h in
    let a = item names i (omega (arith, l)) in
    ap (option_and_then (onto profiles)) (along profiles first names t i a.0 a.1) ∙ (goes_there profiles i a.0 n (t.steps i a.0 n a.1 h)).0

-- On the final trail every name that has a region leads to the last, which goes no further.
stops : (profiles : Named SectionParts) (first : List ℕ) (before : List (List ℕ)) (last : List ℕ) → IsTrail (next_there profiles) first (before ++ last ∷ []) → IsFinal (next_there profiles) before last
    → (name region : List ℕ) → HasRegion profiles name region → (i : ℕ) → slice_get (before ++ last ∷ []) i ≡ Some name → onto profiles last ≡ None
stops profiles first before last t f name region (itself s e a) i h =
    let names = before ++ last ∷ [] in
    let size : length names ≡ length before + 1 = omega (arith, length-append before (last ∷ [])) in
    let none : onto profiles name ≡ None = ap source_at e ∙ ap (λ x. source_if x (property s (codes "source_profile"))) a in
    ⊎_elim
    (λ l.
    let m = item names (suc i) (omega (arith, l, size)) in
    let g = (goes_there profiles i name m.0 (t.steps i name m.0 h m.1)).0 in
    let x : None ≡ Some m.0 = sym none ∙ g in
    absurd cc)
    (λ l.
    let w = within names i name h in
    let at : i ≡ length before = omega (arith, l, w, size) in
    let x : Some last ≡ Some name = sym (last_item before last) ∙ ap (slice_get names) (sym at) ∙ h in
    let same : last ≡ name = cc in
    ap (onto profiles) same ∙ none)
    (cases_lt i (length before))
stops profiles first before last t f name region (by_source {source = source} s e a b r) i h =
    let names = before ++ last ∷ [] in
    let size : length names ≡ length before + 1 = omega (arith, length-append before (last ∷ [])) in
    let goes : onto profiles name ≡ Some source = ap source_at e ∙ ap (λ x. source_if x (property s (codes "source_profile"))) a ∙ b in
    ⊎_elim
    (λ l.
    let m = item names (suc i) (omega (arith, l, size)) in
    let g = (goes_there profiles i name m.0 (t.steps i name m.0 h m.1)).0 in
    let x : Some source ≡ Some m.0 = sym goes ∙ g in
    let same : source ≡ m.0 = cc in
    stops profiles first before last t f source region r (suc i) (m.1 ∙ ap Some (sym same)))
    (λ l.
    let w = within names i name h in
    let at : i ≡ length before = omega (arith, l, w, size) in
    let x : Some last ≡ Some name = sym (last_item before last) ∙ ap (slice_get names) (sym at) ∙ h in
    let same : last ≡ name = cc in
    let to : next_there profiles (length before) last ≡ Some source =
    ap (λ n. option_and_then (there profiles) (onto profiles n)) same ∙ ap (option_and_then (there profiles)) goes ∙ ap (λ y. cond y (Some source) None) (has_section profiles source region r) in
    let back = place_of names source (f source to) in
    stops profiles first before last t f source region r back.0 back.1)
    (cases_lt i (length before))

stopped : (profiles : Named SectionParts) (first : List ℕ) (k d : ℕ) → after profiles first k ≡ None → after profiles first (d + k) ≡ None
stopped profiles first k zero h = let e : 0 + k ≡ k = omega arith in ap (after profiles first) e ∙ h
stopped profiles first k (suc d) h = let e : suc d + k ≡ suc (d + k) = omega arith in ap (after profiles first) e ∙ ap (option_and_then (onto profiles)) (stopped profiles first k d h)

difference : (a b : ℕ) → a ≤ b → (d : ℕ) × (b ≡ d + a)
difference a b l = (b - a, omega arith)

-- after as many steps as there are profiles no region is to come
pub no_region : (profiles : Named SectionParts) (first region name : List ℕ) (k : ℕ) → len profiles ≤ k → after profiles first k ≡ Some name → HasRegion profiles first region → ⊥
no_region profiles first region name k l h r =
    let begins = has_section profiles first region r in
    let f = final_trail profiles (next_there profiles) first begins (stays profiles) in
    let names = f.before ++ f.last ∷ [] in
    let few = short profiles (next_there profiles) first begins (stays profiles) names f.trail in
    let size : length names ≡ length f.before + 1 = omega (arith, length-append f.before (f.last ∷ [])) in
    let end = stops profiles first f.before f.last f.trail f.final first region r 0 f.trail.starts in
    let at = along profiles first names f.trail (length f.before) f.last (last_item f.before f.last) in
    let none : after profiles first (suc (length f.before)) ≡ None = ap (option_and_then (onto profiles)) at ∙ end in
    let d = difference (suc (length f.before)) k (omega (arith, l, few, size)) in
    let x : None ≡ Some name = sym (stopped profiles first (suc (length f.before)) d.0 none) ∙ ap (after profiles first) (sym d.1) ∙ h in
    absurd cc

-- a profile with neither key has none
pub neither_key : (profiles : Named SectionParts) (name region : List ℕ) (s : SectionParts) → get profiles name ≡ Some s → property s (codes "region") ≡ None → property s (codes "source_profile") ≡ None → HasRegion profiles name region → ⊥
neither_key profiles name region s h x y (itself t e a) =
    let p : Some s ≡ Some t = sym h ∙ e in
    let same : s ≡ t = cc in
    let q : None ≡ Some region = sym x ∙ ap (λ u. property u (codes "region")) same ∙ a in
    absurd cc
neither_key profiles name region s h x y (by_source {source = source} t e a b r) =
    let p : Some s ≡ Some t = sym h ∙ e in
    let same : s ≡ t = cc in
    let q : None ≡ Some source = sym y ∙ ap (λ u. property u (codes "source_profile")) same ∙ b in
    absurd cc

pub no_section : (profiles : Named SectionParts) (name region : List ℕ) → get profiles name ≡ None → HasRegion profiles name region → ⊥
no_section profiles name region h r =
    let p : true ≡ false = sym (has_section profiles name region r) ∙ ap is_some h in
    absurd cc
