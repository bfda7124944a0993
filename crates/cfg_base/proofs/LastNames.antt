-- What the map has at a name is what the list's last entry of that name has.
use Rattle.std.proofs.Common.{◌≡◌, ℕ, cond, Bool, true, false, List, [], ◌∷◌, fold, Some, None, refl, ap, ◌∙◌}
use Rattle.std.specs.Prelude.{◌≢◌}
use Rattle.std.specs.Ordering.{nat_cmp, eq_by_cmp}
use Rattle.std.specs.Cmp.{eq_by_cmp_equiv}
use Rattle.std.specs.Cmp.Lexicographic.{slice_cmp, nat_list_cmp_total}
use Rattle.std.specs.FinMap.{get, empty, insert, get-empty, get-insert}
use Rattle.std.proofs.lemmas.Map.Text.{is_eq-slice_cmp}
use Rattle.std.proofs.lemmas.List.Sums.{fold-append}
use Rattle.std.proofs.lemmas.Slice.Eq.{bytes_eq-Decides}
use Rattle.std.specs.Str.{bytes_eq}
use Rattle.cfg_base.specs.TextMap.{Named}
use Rattle.cfg_base.specs.Entries.{each_set, HasNoName, IsLastUnder}

abbrev set_in : {V : Type 0} → Named V → List ℕ × V → Named V
set_in m e = insert m e.0 e.1

other_bytes : (b : Bool) {P : Type 0} → (b ≡ true → P) → (P → ⊥) → b ≡ false
other_bytes true told differ = absurd (differ (told refl))
other_bytes false told differ = refl

other_name : (q k : List ℕ) → q ≢ k → eq_by_cmp (slice_cmp nat_cmp) q k ≡ false
other_name q k differ = is_eq-slice_cmp q k ∙ other_bytes (bytes_eq q k) (bytes_eq-Decides q k).0 differ

-- entries of other names leave what the map has at this one
kept : {V : Type 0} (name : List ℕ) (m : Named V) (entries : List (List ℕ × V)) → HasNoName name entries → get (fold set_in m entries) name ≡ get m name
kept {V} name m [] none = refl
kept {V} name m (e ∷ entries) none =
    kept name (set_in m e) entries none.1
    ∙ get-insert nat_list_cmp_total m e.0 e.1 name
    ∙ ap (λ b. cond b (Some e.1) (get m name)) (other_name name e.0 none.0)

pub last_is_set : {V : Type 0} (entries : List (List ℕ × V)) (name : List ℕ) (value : V) → IsLastUnder name value entries → get (each_set entries) name ≡ Some value
last_is_set {V} entries name value last =
    ap (λ (es : List (List ℕ × V)). get (each_set es) name) last.split
    ∙ ap (λ (m : Named V). get m name) (fold-append set_in empty last.before ((name, value) ∷ last.after))
    ∙ kept name (set_in (each_set last.before) (name, value)) last.after last.last
    ∙ get-insert nat_list_cmp_total (each_set last.before) name value name
    ∙ ap (λ b. cond b (Some value) (get (each_set last.before) name)) ((eq_by_cmp_equiv nat_list_cmp_total).refl name)

pub no_name_no_value : {V : Type 0} (entries : List (List ℕ × V)) (name : List ℕ) → HasNoName name entries → get (each_set entries) name ≡ None
no_name_no_value entries name none = kept name empty entries none ∙ get-empty (slice_cmp nat_cmp) name
