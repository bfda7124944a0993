-- A path is a trail along the sources that cannot go on.
use Rattle.std.proofs.Common.{◌≡◌, ℕ, zero, suc, ◌≤◌, Bool, true, false, cond, not, ◌&&◌, ◌||◌, List, [], ◌∷◌, ◌++◌, length, Option, Some, None, refl, sym, ap, ◌∙◌, arith, length-append}
use Rattle.std.specs.Prelude.{slice_get, is_some}
use Rattle.std.specs.Str.{bytes_eq}
use Rattle.std.specs.FinMap.{get, len, contains_key}
use Rattle.std.specs.HashSet.{HashSet, Updates}
use denote.Ref.{Bor}
use Rattle.std.proofs.lemmas.Slice.Eq.{bytes_eq-Decides}
use Rattle.std.proofs.lemmas.Bool.Decides.{same_from_decides, Decides-like}
use Rattle.std.proofs.lemmas.List.Folds.{list_any-append}
use Rattle.cfg_base.specs.TextMap.{Named}
use Rattle.cfg_profile.specs.SectionParts.{SectionParts}
use Rattle.cfg_profile.specs.Properties as properties
use Rattle.cfg_profile.specs.Properties.{Source, Both, Neither, Own, has_both_keys, is_role, source}
use Rattle.cfg_profile.specs.Paths.{End, Keys, Base, Loops, Missing, ending, ending_by_source, has_name, is_empty, GoesThrough, IsPath}
use Rattle.cfg_profile.specs.Seen.{on_set}
use Rattle.cfg_profile.proofs.Trails.{IsTrail, IsFinal, last_item, goes_on, only_trail, all_there, short, final_trail}

abbrev pub is_zero : ℕ → Bool
is_zero zero = true
is_zero (suc n) = false

abbrev pub next_source : Named SectionParts → Source → Option (List ℕ)
next_source profiles Both = None
next_source profiles Neither = None
next_source profiles Own = None
next_source profiles (properties.Named name) = cond (contains_key profiles name) (Some name) None

abbrev pub next_by : Named SectionParts → Bool → Option SectionParts → Option (List ℕ)
next_by profiles is_first None = None
next_by profiles is_first (Some s) = cond (not is_first && has_both_keys s) None (cond (not (is_role s)) None (next_source profiles (source s)))

-- the name after this one, which stands at this place
abbrev pub next_of : Named SectionParts → ℕ → List ℕ → Option (List ℕ)
next_of profiles i name = next_by profiles (is_zero i) (get profiles name)

-- cases of the table
not_here : (b : Bool) (x : End) (o : Option End) → cond b (Some x) o ≡ None → (b ≡ false) × (o ≡ None)
not_here true x o h = absurd cc
not_here false x o h = (refl, h)

not_there : (a c : Bool) (x y : End) → cond a (Some x) (cond c None (Some y)) ≡ None → (a ≡ false) × (c ≡ true)
not_there true c x y h = absurd cc
not_there false true x y h = (refl, refl)
not_there false false x y h = absurd cc

goes : (b : Bool) (o : Option (List ℕ)) (m : List ℕ) → cond b None o ≡ Some m → (b ≡ false) × (o ≡ Some m)
goes true o m h = absurd cc
goes false o m h = (refl, h)

goes_there : (b : Bool) (n m : List ℕ) → cond b (Some n) None ≡ Some m → (b ≡ true) × (n ≡ m)
goes_there true n m h = (refl, cc)
goes_there false n m h = absurd cc

-- where a path does not end, the name of the source is new, and follows
pub not_ended : (profiles : Named SectionParts) (on_path : List ℕ → Bool) (is_first : Bool) (s : SectionParts) (name : List ℕ)
    → ending profiles on_path is_first s ≡ None → source s ≡ properties.Named name
    → (on_path name ≡ false) × (next_by profiles is_first (Some s) ≡ Some name)
not_ended profiles on_path f s name h e =
    let a = not_here (not f && has_both_keys s) Keys (cond (not (is_role s)) (Some Base) (ending_by_source profiles on_path (source s))) h in
    let b = not_here (not (is_role s)) Base (ending_by_source profiles on_path (source s)) a.1 in
    let c = not_there (on_path name) (contains_key profiles name) (Loops name) (Missing name) (ap (ending_by_source profiles on_path) (sym e) ∙ b.1) in (
      c.0,
      ap (λ x. cond x None (cond (not (is_role s)) None (next_source profiles (source s)))) a.0
          ∙ ap (λ x. cond x None (next_source profiles (source s))) b.0
          ∙ ap (next_source profiles) e
          ∙ ap (λ x. cond x (Some name) None) c.1,
    )

-- and where it does not end, there is such a source
pub source_goes : (profiles : Named SectionParts) (on_path : List ℕ → Bool) (src : Source) → ending_by_source profiles on_path src ≡ None → (name : List ℕ) × (src ≡ properties.Named name)
source_goes profiles on_path Both h = absurd cc
source_goes profiles on_path Neither h = absurd cc
source_goes profiles on_path Own h = absurd cc
source_goes profiles on_path (properties.Named name) h = (name, refl)

pub source_of_not_ended : (profiles : Named SectionParts) (on_path : List ℕ → Bool) (is_first : Bool) (s : SectionParts) → ending profiles on_path is_first s ≡ None → (name : List ℕ) × (source s ≡ properties.Named name)
source_of_not_ended profiles on_path f s h =
    let a = not_here (not f && has_both_keys s) Keys (cond (not (is_role s)) (Some Base) (ending_by_source profiles on_path (source s))) h in
    let b = not_here (not (is_role s)) Base (ending_by_source profiles on_path (source s)) a.1 in
    source_goes profiles on_path (source s) b.1

-- what it takes to go on
pub record Onward (profiles : Named SectionParts) (is_first : Bool) (o : Option SectionParts) (name : List ℕ) : Type 0 where
  pub section : SectionParts
  pub stands : o ≡ Some section
  pub lacks : (not is_first && has_both_keys section) ≡ false
  pub role : is_role section ≡ true
  pub source : source section ≡ properties.Named name
  pub there : contains_key profiles name ≡ true

not_not : (b : Bool) → not b ≡ false → b ≡ true
not_not true h = refl
not_not false h = absurd cc

source_onward : (profiles : Named SectionParts) (src : Source) (name : List ℕ) → next_source profiles src ≡ Some name → (src ≡ properties.Named name) × (contains_key profiles name ≡ true)
source_onward profiles Both name h = absurd cc
source_onward profiles Neither name h = absurd cc
source_onward profiles Own name h = absurd cc
source_onward profiles (properties.Named n) name h =
    let a = goes_there (contains_key profiles n) n name h in
    (ap properties.Named a.1, ap (contains_key profiles) (sym a.1) ∙ a.0)

pub onward : (profiles : Named SectionParts) (f : Bool) (o : Option SectionParts) (name : List ℕ) → next_by profiles f o ≡ Some name → Onward profiles f o name
onward profiles f None name h = absurd cc
onward profiles f (Some s) name h =
    let a = goes (not f && has_both_keys s) (cond (not (is_role s)) None (next_source profiles (source s))) name h in
    let b = goes (not (is_role s)) (next_source profiles (source s)) name a.1 in
    let c = source_onward profiles (source s) name b.1 in
    record { section = s; stands = refl; lacks = a.0; role = not_not (is_role s) b.0; source = c.0; there = c.1 }

pub from_onward : (profiles : Named SectionParts) (f : Bool) (s : SectionParts) (name : List ℕ) → (not f && has_both_keys s) ≡ false → is_role s ≡ true → source s ≡ properties.Named name → contains_key profiles name ≡ true → next_by profiles f (Some s) ≡ Some name
from_onward profiles f s name a b c d =
    ap (λ x. cond x None (cond (not (is_role s)) None (next_source profiles (source s)))) a
    ∙ ap (λ x. cond (not x) None (next_source profiles (source s))) b
    ∙ ap (next_source profiles) c
    ∙ ap (λ x. cond x (Some name) None) d

stays : (profiles : Named SectionParts) (i : ℕ) (n m : List ℕ) → next_of profiles i n ≡ Some m → is_some (get profiles m) ≡ true
stays profiles i n m h = (onward profiles (is_zero i) (get profiles n) m h).there

-- names that a path goes through are a trail, and the other way round
lacks_at : (profiles : Named SectionParts) (selected : List ℕ) (names : List (List ℕ)) → GoesThrough profiles selected names → (i : ℕ) (n m : List ℕ) (s : SectionParts) → slice_get names i ≡ Some n → slice_get names (suc i) ≡ Some m → get profiles n ≡ Some s → (not (is_zero i) && has_both_keys s) ≡ false
lacks_at profiles selected names g zero n m s p q h = refl
lacks_at profiles selected names g (suc i) n m s p q h =
    let k = g.lacks_keys i n m p q in
    let x : Some s ≡ Some k.section = sym h ∙ k.stands in
    let e : s ≡ k.section = cc in
    ap has_both_keys e ∙ k.lacks

pub trail_of : (profiles : Named SectionParts) (selected : List ℕ) (names : List (List ℕ)) → GoesThrough profiles selected names → IsTrail (next_of profiles) selected names
trail_of profiles selected names g = record {
  starts = g.starts;
  distinct = g.distinct;
  steps = λ i n m p q.
      let l = g.leads i n m p q in
      ap (next_by profiles (is_zero i)) l.stands
      ∙ from_onward profiles (is_zero i) l.section m (lacks_at profiles selected names g i n m l.section p q l.stands) l.is_role l.source (g.named (suc i) m q);
}

pub goes_along : (profiles : Named SectionParts) (selected : List ℕ) (names : List (List ℕ)) → is_some (get profiles selected) ≡ true → IsTrail (next_of profiles) selected names → GoesThrough profiles selected names
goes_along profiles selected names there t = record {
  starts = t.starts;
  distinct = t.distinct;
  named = all_there profiles (next_of profiles) selected there (stays profiles) names t;
  leads = λ i n m p q. let o = onward profiles (is_zero i) (get profiles n) m (t.steps i n m p q) in record { section = o.section; stands = o.stands; is_role = o.role; source = o.source };
  lacks_keys = λ i n m p q. let o = onward profiles false (get profiles n) m (t.steps (suc i) n m p q) in record { section = o.section; stands = o.stands; lacks = o.lacks };
}

same_flag : (before : List (List ℕ)) → is_zero (length before) ≡ is_empty before
same_flag [] = refl
same_flag (n ∷ before) = refl

-- a path that ends is final
back_only : (on there : Bool) (x y e : End) → cond on (Some x) (cond there None (Some y)) ≡ Some e → there ≡ true → on ≡ true
back_only true t x y e h g = refl
back_only false true x y e h g = absurd cc
back_only false false x y e h g = absurd cc

pub final_of : (profiles : Named SectionParts) (selected : List ℕ) (before : List (List ℕ)) (last : List ℕ) (s : SectionParts) (end : End) → get profiles last ≡ Some s → ending profiles (has_name (before ++ last ∷ [])) (is_empty before) s ≡ Some end → IsFinal (next_of profiles) before last
final_of profiles selected before last s end stands ends q h =
    let o = onward profiles (is_empty before) (get profiles last) q (ap (λ f. next_by profiles f (get profiles last)) (sym (same_flag before)) ∙ h) in
    let x : Some s ≡ Some o.section = sym stands ∙ o.stands in
    let e : o.section ≡ s = cc in
    let on_path = has_name (before ++ last ∷ []) in
    let lacks : (not (is_empty before) && has_both_keys s) ≡ false = ap (λ t. not (is_empty before) && has_both_keys t) (sym e) ∙ o.lacks in
    let role : is_role s ≡ true = ap is_role (sym e) ∙ o.role in
    let goes_to : source s ≡ properties.Named q = ap source (sym e) ∙ o.source in
    let step : ending profiles on_path (is_empty before) s ≡ ending_by_source profiles on_path (properties.Named q) =
    ap (λ b. cond b (Some Keys) (cond (not (is_role s)) (Some Base) (ending_by_source profiles on_path (source s)))) lacks
    ∙ ap (λ b. cond (not b) (Some Base) (ending_by_source profiles on_path (source s))) role
    ∙ ap (ending_by_source profiles on_path) goes_to in
    back_only (on_path q) (contains_key profiles q) (Loops q) (Missing q) end (sym step ∙ ends) o.there

-- the last two lists of names
no_more : (n l l' : List ℕ) (b' : List (List ℕ)) → l ∷ [] ≡ n ∷ (b' ++ l' ∷ []) → ⊥
no_more n l l' b' h = let e = ap length h in omega (arith, e, length-append b' (l' ∷ []))

pub same_ends : (b : List (List ℕ)) (l : List ℕ) (b' : List (List ℕ)) (l' : List ℕ) → b ++ l ∷ [] ≡ b' ++ l' ∷ [] → (b ≡ b') × (l ≡ l')
same_ends [] l [] l' h = (refl, cc)
same_ends [] l (n ∷ b') l' h = absurd (no_more n l l' b' h)
same_ends (n ∷ b) l [] l' h = absurd (no_more n l' l b (sym h))
same_ends (n ∷ b) l (n' ∷ b') l' h =
    let heads : n ≡ n' = cc in
    let tails : b ++ l ∷ [] ≡ b' ++ l' ∷ [] = cc in
    let r = same_ends b l b' l' tails in
    (let x = r.0 in cc, r.1)

-- one name more in a set of names
pub turned : (a b : List ℕ) → bytes_eq a b ≡ bytes_eq b a
turned a b = same_from_decides (bytes_eq a b) (bytes_eq b a) (bytes_eq-Decides a b) (Decides-like (bytes_eq b a) sym sym (bytes_eq-Decides b a))

joined : (b x : Bool) → cond b true x ≡ (x || (b || false))
joined true true = refl
joined true false = refl
joined false true = refl
joined false false = refl

pub visited_more : {S : Type 0} (s n : HashSet (Bor (List ℕ)) S) (key : Bor (List ℕ)) (names : List (List ℕ))
    → Updates (λ x y. bytes_eq x.now y.now) s n key true
    → ((q : List ℕ) → on_set s q ≡ has_name names q) → (q : List ℕ) → on_set n q ≡ has_name (names ++ key.now ∷ []) q
visited_more s n key names u same q =
    u.0 (record { ref_ptr = (0, 0); now = q })
    ∙ ap (λ b. cond b true (on_set s q)) (turned key.now q)
    ∙ joined (bytes_eq q key.now) (on_set s q)
    ∙ ap (λ b. b || (bytes_eq q key.now || false)) (same q)
    ∙ sym (list_any-append (bytes_eq q) names (key.now ∷ []))

-- the table asks nothing else of the path
pub same_ending : (profiles : Named SectionParts) (s : SectionParts) (on on' : List ℕ → Bool) (f f' : Bool) → ((q : List ℕ) → on q ≡ on' q) → f ≡ f' → ending profiles on f s ≡ ending profiles on' f' s
same_ending profiles s on on' f f' same e i = ending profiles (λ q. same q i) (e i) s

-- a trail that ends is a path
pub path_of : (profiles : Named SectionParts) (selected : List ℕ) (before : List (List ℕ)) (last : List ℕ) (s : SectionParts) (end : End)
    → is_some (get profiles selected) ≡ true → IsTrail (next_of profiles) selected (before ++ last ∷ []) → get profiles last ≡ Some s
    → ending profiles (has_name (before ++ last ∷ [])) (is_empty before) s ≡ Some end
    → IsPath profiles selected before last s end
path_of profiles selected before last s end there t stands ends = record {
  goes = goes_along profiles selected (before ++ last ∷ []) there t;
  stands = stands;
  ends = ends;
}

-- a trail that does not end goes on
pub trail_more : (profiles : Named SectionParts) (selected : List ℕ) (before : List (List ℕ)) (last q : List ℕ) (s : SectionParts)
    → IsTrail (next_of profiles) selected (before ++ last ∷ []) → get profiles last ≡ Some s
    → ending profiles (has_name (before ++ last ∷ [])) (is_empty before) s ≡ None → source s ≡ properties.Named q
    → IsTrail (next_of profiles) selected ((before ++ last ∷ []) ++ q ∷ [])
trail_more profiles selected before last q s t stands none e =
    let a = not_ended profiles (has_name (before ++ last ∷ [])) (is_empty before) s q none e in
    goes_on (next_of profiles) selected before last q t (ap (λ f. next_by profiles f (get profiles last)) (same_flag before) ∙ ap (next_by profiles (is_empty before)) stands ∙ a.1) a.0

pub no_longer_than : (profiles : Named SectionParts) (selected : List ℕ) (names : List (List ℕ)) → is_some (get profiles selected) ≡ true → IsTrail (next_of profiles) selected names → length names ≤ len profiles
no_longer_than profiles selected names there t = short profiles (next_of profiles) selected there (stays profiles) names t

-- There is one path.
pub only_path : (profiles : Named SectionParts) (selected : List ℕ) (b : List (List ℕ)) (l : List ℕ) (s : SectionParts) (e : End) (b' : List (List ℕ)) (l' : List ℕ) (s' : SectionParts) (e' : End)
    → IsPath profiles selected b l s e → IsPath profiles selected b' l' s' e' → (b ≡ b') × (l ≡ l') × (s ≡ s') × (e ≡ e')
only_path profiles selected b l s e b' l' s' e' p q =
    let same = same_ends b l b' l' (only_trail (next_of profiles) selected b l b' l'
    (trail_of profiles selected (b ++ l ∷ []) p.goes) (final_of profiles selected b l s e p.stands p.ends)
    (trail_of profiles selected (b' ++ l' ∷ []) q.goes) (final_of profiles selected b' l' s' e' q.stands q.ends)) in
    let x : Some s ≡ Some s' = sym p.stands ∙ ap (get profiles) same.1 ∙ q.stands in
    let y : s ≡ s' = cc in
    let z : Some e ≡ Some e' = sym p.ends ∙ (λ i. ending profiles (has_name (same.0 i ++ same.1 i ∷ [])) (is_empty (same.0 i)) (y i)) ∙ q.ends in
    (same.0, same.1, y, cc)

-- there is a path from each profile
pub record SomePath (profiles : Named SectionParts) (selected : List ℕ) : Type 0 where
  pub before : List (List ℕ)
  pub last : List ℕ
  pub section : SectionParts
  pub end : End
  pub path : IsPath profiles selected before last section end

there_is : {X : Type 0} (o : Option X) → is_some o ≡ true → (x : X) × (o ≡ Some x)
there_is None h = absurd cc
there_is (Some x) h = (x, refl)

pub some_path : (profiles : Named SectionParts) (selected : List ℕ) → is_some (get profiles selected) ≡ true → SomePath profiles selected
some_path profiles selected there =
    let f = final_trail profiles (next_of profiles) selected there (stays profiles) in
    let names = f.before ++ f.last ∷ [] in
    let at = there_is (get profiles f.last) (all_there profiles (next_of profiles) selected there (stays profiles) names f.trail (length f.before) f.last (last_item f.before f.last)) in
    elim (ending profiles (has_name names) (is_empty f.before) at.0) as (λ o. ending profiles (has_name names) (is_empty f.before) at.0 ≡ o → SomePath profiles selected) [
      | None ↦ λ h.
          let src = source_of_not_ended profiles (has_name names) (is_empty f.before) at.0 h in
          let a = not_ended profiles (has_name names) (is_empty f.before) at.0 src.0 h src.1 in
          let back = f.final src.0 (ap (λ x. next_by profiles x (get profiles f.last)) (same_flag f.before) ∙ ap (next_by profiles (is_empty f.before)) at.1 ∙ a.1) in
          let no : true ≡ false = sym back ∙ a.0 in
          absurd cc
      | Some end ↦ λ h. record { before = f.before; last = f.last; section = at.0; end = end; path = path_of profiles selected f.before f.last at.0 end there f.trail at.1 h }
    ] refl
