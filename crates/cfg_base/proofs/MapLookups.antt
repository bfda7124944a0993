-- A look-up in the hash map is a look-up in the finite map that contracts see.
use Rattle.std.proofs.Common.{◌≡◌, ℕ, ◌+◌, false, arith, cond, List, [], ◌∷◌, ◌++◌, map, Some, None, length, refl, sym, ap, ◌∙◌, string_bytes}
use Rattle.std.specs.Prelude.{String, is_some}
use Rattle.std.specs.List.{AllByRecursion, IsDistinct}
use Rattle.std.specs.declared.alloc.Global.{Global}
use Rattle.std.specs.Ordering.{nat_cmp, eq_by_cmp}
use Rattle.std.specs.Cmp.{eq_by_cmp_equiv}
use Rattle.std.specs.Cmp.Lexicographic.{slice_cmp, nat_list_cmp_total}
use Rattle.std.specs.Str.{bytes_eq}
use Rattle.std.specs.String.{string_eq}
use Rattle.std.specs.Map.{lookup}
use Rattle.std.specs.HashMap as hash
use Rattle.std.specs.HashMap.{HashMap}
use Rattle.std.specs.FinMap.{get, find, len, empty, insert, get-empty, len-empty, empty_of_len, get-from_entries, get-insert, len-insert, same_map, slice_cmp-IsAntisymmetric, nat_cmp-IsAntisymmetric}
use Rattle.std.proofs.lemmas.Map.Text.{hash_map_updates_text, is_eq-slice_cmp}
use Rattle.std.proofs.lemmas.List.Sums.{fold-append}
use Rattle.cfg_base.specs.TextMap.{Named, named, map_of}
use Rattle.cfg_base.specs.Entries.{each_set}

same_tie : (xs ys : List ℕ) → bytes_eq xs ys ≡ eq_by_cmp (slice_cmp nat_cmp) ys xs
same_tie xs ys = sym (is_eq-slice_cmp xs ys) ∙ (eq_by_cmp_equiv nat_list_cmp_total).symm xs ys

pub find-named : {V : Type 0} (es : List (String Global × V)) (q : List ℕ) → find (slice_cmp nat_cmp) q (map named es) ≡ lookup (λ k. bytes_eq q (string_bytes k)) es
find-named [] q = refl
find-named (e ∷ es) q =
    ap (λ b. cond b (Some e.1) (find (slice_cmp nat_cmp) q (map named es))) (is_eq-slice_cmp q (string_bytes e.0))
    ∙ ap (cond (bytes_eq q (string_bytes e.0)) (Some e.1)) (find-named es q)

pub get-map_of : {V S : Type 0} (m : HashMap (String Global) V S) (q : List ℕ) → get (map_of m.entries) q ≡ hash.get_by_text m q
get-map_of m q = get-from_entries nat_list_cmp_total (map named m.entries) q ∙ find-named m.entries q

-- one value more
pub inserted : {V S : Type 0} (m n : HashMap (String Global) V S) (name : String Global) (v : V)
    → hash.UpdatesBy string_eq (λ k. bytes_eq (string_bytes name) (string_bytes k)) m n (Some v)
    → map_of n.entries ≡ insert (map_of m.entries) (string_bytes name) v
inserted m n name v updates = same_map nat_list_cmp_total (slice_cmp-IsAntisymmetric nat_cmp-IsAntisymmetric) _ _ (λ q.
    get-map_of n q
    ∙ hash_map_updates_text (string_bytes name) m n (Some v) updates q
    ∙ ap (λ b. cond b (Some v) (hash.get_by_text m q)) (same_tie (string_bytes name) q)
    ∙ ap (cond (eq_by_cmp (slice_cmp nat_cmp) q (string_bytes name)) (Some v)) (sym (get-map_of m q))
    ∙ sym (get-insert nat_list_cmp_total (map_of m.entries) (string_bytes name) v q))

-- the entries so far, and one more
pub each_set-push : {V : Type 0} (entries : List (List ℕ × V)) (v : List ℕ × V) → each_set (entries ++ v ∷ []) ≡ insert (each_set entries) v.0 v.1
each_set-push {V} entries v = fold-append (λ (m : Named V) (w : List ℕ × V). insert m w.0 w.1) empty entries (v ∷ [])

-- a map of no entries is empty, and no other is
pub len-map_of : {V : Type 0} (es : List (String Global × V)) → length es ≡ 0 → len (map_of es) ≡ 0
len-map_of [] h = len-empty (slice_cmp nat_cmp) _
len-map_of (e ∷ es) h = cc

some_is_there : {V : Type 0} (e : String Global × V) (es : List (String Global × V)) → get (map_of (e ∷ es)) (string_bytes e.0) ≡ Some e.1
some_is_there e es = get-insert nat_list_cmp_total (map_of es) (string_bytes e.0) e.1 (string_bytes e.0) ∙ ap (λ b. cond b (Some e.1) (get (map_of es) (string_bytes e.0))) ((eq_by_cmp_equiv nat_list_cmp_total).refl (string_bytes e.0))

none_there : {V : Type 0} (m : Named V) (q : List ℕ) → len m ≡ 0 → get m q ≡ None
none_there m q h = ap (λ n. get n q) (empty_of_len m h) ∙ get-empty (slice_cmp nat_cmp) q

pub no_entries : {V : Type 0} (es : List (String Global × V)) → len (map_of es) ≡ 0 → length es ≡ 0
no_entries [] h = refl
no_entries (e ∷ es) h = let e : Some e.1 ≡ None = sym (some_is_there e es) ∙ none_there (map_of (e ∷ es)) (string_bytes e.0) h in cc

-- a hash map has as many entries as the map that contracts see has names
not_found : {V : Type 0} (name : String Global) (es : List (String Global × V)) → AllByRecursion (λ other. string_eq name other ≡ false) (map (λ e. e.0) es) → find (slice_cmp nat_cmp) (string_bytes name) (map named es) ≡ None
not_found name [] h = refl
not_found name (e ∷ es) h =
    ap (λ b. cond b (Some e.1) (find (slice_cmp nat_cmp) (string_bytes name) (map named es))) (is_eq-slice_cmp (string_bytes name) (string_bytes e.0) ∙ h.0)
    ∙ not_found name es h.1

pub len-distinct : {V : Type 0} (es : List (String Global × V)) → IsDistinct string_eq (map (λ e. e.0) es) → len (map_of es) ≡ length es
unfolding IsDistinct
len-distinct [] h = len-empty (slice_cmp nat_cmp) _
len-distinct (e ∷ es) h =
    let new : is_some (get (map_of es) (string_bytes e.0)) ≡ false = ap is_some (get-from_entries nat_list_cmp_total (map named es) (string_bytes e.0) ∙ not_found e.0 es h.0) in
    let one_more = len-insert nat_list_cmp_total (map_of es) (string_bytes e.0) e.1 ∙ ap (λ b. cond b (len (map_of es)) (len (map_of es) + 1)) new in
    let rest = len-distinct es h.1 in
    omega (arith, one_more, rest)
