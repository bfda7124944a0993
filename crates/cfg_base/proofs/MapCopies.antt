-- A map whose names are set one by one is the map of those names, each of which stands once.
use Rattle.std.proofs.Common.{◌≡◌, ℕ, Bor, cond, Bool, true, false, List, [], ◌∷◌, ◌++◌, map, fold, Option, Some, None, refl, sym, ap, ◌∙◌, string_bytes}
use Rattle.std.specs.Prelude.{String}
use Rattle.std.specs.List.{AllByRecursion, IsDistinct}
use Rattle.std.specs.declared.alloc.Global.{Global}
use Rattle.std.specs.Ordering.{nat_cmp}
use Rattle.std.specs.Cmp.Lexicographic.{slice_cmp, nat_list_cmp_total}
use Rattle.std.specs.Str.{bytes_eq}
use Rattle.std.specs.String.{string_eq}
use Rattle.std.specs.Map.{lookup, keys_of}
use Rattle.std.specs.FinMap.{get, empty, insert, get-empty, get-insert, get-from_entries, same_map, slice_cmp-IsAntisymmetric, nat_cmp-IsAntisymmetric}
use Rattle.std.proofs.lemmas.Map.Text.{is_eq-slice_cmp}
use Rattle.std.proofs.lemmas.List.{map_push, append_assoc, append-nil}
use Rattle.std.proofs.lemmas.Slice.Eq.{bytes_eq-Decides}
use Rattle.cfg_base.specs.TextMap.{Named, named, map_of}
use Rattle.cfg_base.specs.Entries.{each_set}
use Rattle.cfg_base.proofs.MapLookups.{find-named}

abbrev set_in : {V : Type 0} → Named V → List ℕ × V → Named V
set_in m e = insert m e.0 e.1

abbrev or_else : {V : Type 0} → Option V → Option V → Option V
or_else None o = o
or_else (Some v) o = Some v

or_else-none : {V : Type 0} (o : Option V) → or_else o None ≡ o
or_else-none None = refl
or_else-none (Some v) = refl

abbrev at : {V : Type 0} → List ℕ → List (String Global × V) → Option V
at q es = lookup (λ k. bytes_eq q (string_bytes k)) es

-- no later entry has the name of one that stands before
not_again : {V : Type 0} (name : String Global) (es : List (String Global × V)) → AllByRecursion (λ k. string_eq name k ≡ false) (keys_of es) → at (string_bytes name) es ≡ None
not_again name [] other = refl
not_again name (e ∷ es) other = ap (λ b. cond b (Some e.1) (at (string_bytes name) es)) other.0 ∙ not_again name es other.1

chosen : {V : Type 0} (b : Bool) (later before : Option V) (v : V) → (b ≡ true → later ≡ None) → or_else later (cond b (Some v) before) ≡ or_else (cond b (Some v) later) before
chosen true later before v none = ap (λ o. or_else o (Some v)) (none refl)
chosen false later before v none = refl

set_one_by_one : {V : Type 0} (es : List (String Global × V)) (m : Named V) (q : List ℕ) → IsDistinct string_eq (keys_of es) → get (fold set_in m (map named es)) q ≡ or_else (at q es) (get m q)
unfolding IsDistinct
set_one_by_one [] m q distinct = refl
set_one_by_one (e ∷ es) m q distinct =
    set_one_by_one es (set_in m (named e)) q distinct.1
    ∙ ap (or_else (at q es)) (get-insert nat_list_cmp_total m (string_bytes e.0) e.1 q ∙ ap (λ b. cond b (Some e.1) (get m q)) (is_eq-slice_cmp q (string_bytes e.0)))
    ∙ chosen (bytes_eq q (string_bytes e.0)) (at q es) (get m q) e.1 (λ same.
    ap (λ (x : List ℕ). at x es) ((bytes_eq-Decides q (string_bytes e.0)).0 same) ∙ not_again e.0 es distinct.0)

pub each_set-named : {V : Type 0} (es : List (String Global × V)) → IsDistinct string_eq (keys_of es) → each_set (map named es) ≡ map_of es
each_set-named es distinct = same_map nat_list_cmp_total (slice_cmp-IsAntisymmetric nat_cmp-IsAntisymmetric) _ _ (λ q.
    set_one_by_one es empty q distinct
    ∙ ap (or_else (at q es)) (get-empty (slice_cmp nat_cmp) q)
    ∙ or_else-none (at q es)
    ∙ sym (get-from_entries nat_list_cmp_total (map named es) q ∙ find-named es q))

-- an entry that is lent
abbrev pub lent : {V : Type 0} → Bor (String Global) × Bor V → String Global × V
lent e = (e.0.now, e.1.now)

-- the entries so far, and one more, before those that are left
pub goes_on : {V : Type 0} (seen : List (Bor (String Global) × Bor V)) (e : Bor (String Global) × Bor V) (left after all : List (String Global × V))
    → map lent seen ++ left ≡ all → left ≡ lent e ∷ after → map lent (seen ++ e ∷ []) ++ after ≡ all
goes_on seen e left after all h k = ap (λ es. es ++ after) (map_push lent seen e) ∙ append_assoc (map lent seen) (lent e ∷ []) after ∙ ap (λ es. map lent seen ++ es) (sym k) ∙ h

-- all entries have been gone over
pub ends : {V : Type 0} (seen : List (Bor (String Global) × Bor V)) (left all : List (String Global × V)) → map lent seen ++ left ≡ all → left ≡ [] → map lent seen ≡ all
ends seen left all h none = sym (append-nil (map lent seen)) ∙ ap (λ es. map lent seen ++ es) (sym none) ∙ h
