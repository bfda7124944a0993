-- One entry more in an index of paths.
use Rattle.std.proofs.Common.{arith, ◌≡◌, ℕ, zero, suc, ◌+◌, ◌<◌, ◌||◌, Bool, true, false, cond, List, [], ◌∷◌, ◌++◌, Option, Some, None, refl, sym, ap, ◌∙◌, subst, length, take, get_or, min}
use Rattle.std.specs.Prelude.{slice_get, option_map, is_some}
use Rattle.std.specs.List.{list_any}
use Rattle.std.specs.Ordering.{nat_cmp}
use Rattle.std.specs.Cmp.Lexicographic.{slice_cmp, nat_list_cmp_total}
use Rattle.std.specs.Str.{bytes_eq, encode_utf8_all}
use Rattle.std.specs.FinMap.{get, insert, empty, get-empty, get-insert}
use Rattle.std.proofs.lemmas.Map.Text.{is_eq-slice_cmp}
use Rattle.std.proofs.lemmas.List.{length-take, take_more}
use Rattle.std.proofs.lemmas.List.Sums.{fold-append}
use Rattle.std.proofs.lemmas.Option.{slice_get_read}
use Rattle.std.proofs.lemmas.List.Folds.{list_any-append}
use Rattle.std.proofs.lemmas.Slice.Eq.{bytes_eq-Decides}
use Rattle.std.proofs.lemmas.Bool.Decides.{same_from_decides, Decides-like}
use Rattle.cfg_base.specs.Text.{characters}
use Rattle.cfg_base.specs.TextMap.{Named}
use Rattle.cfg_world.specs.Script.{latest}
use Rattle.cfg_world.specs.Paths.{held_at, Finds, Lists}

-- A path is told by its bytes as by its characters.
same_path : (path name text : List ℕ) → encode_utf8_all (characters path) ≡ path → name ≡ encode_utf8_all text → characters name ≡ text → bytes_eq text (characters path) ≡ bytes_eq path name
same_path path name text bytes is chars = same_from_decides _ _
    (Decides-like (bytes_eq text (characters path))
    (λ (e : text ≡ characters path). sym bytes ∙ ap encode_utf8_all (sym e) ∙ sym is)
    (λ (e : path ≡ name). sym chars ∙ ap characters (sym e))
    (bytes_eq-Decides text (characters path)))
    (bytes_eq-Decides path name)

got : {V : Type 0} (index : Named V) (name : List ℕ) (v : V) (path : List ℕ) → get (insert index name v) path ≡ cond (bytes_eq path name) (Some v) (get index path)
got {V} index name v path = get-insert nat_list_cmp_total index name v path ∙ ap (λ b. cond b (Some v) (get index path)) (is_eq-slice_cmp path name)

at_end : {X : Type 0} (xs : List X) (x : X) → slice_get (xs ++ x ∷ []) (length xs) ≡ Some x
at_end [] x = refl
at_end (y ∷ xs) x = at_end xs x

before_end : {X : Type 0} (xs : List X) (x : X) (at : ℕ) → at < length xs → slice_get (xs ++ x ∷ []) at ≡ slice_get xs at
before_end [] x at h = absurd (omega arith)
before_end (y ∷ xs) x zero h = refl
before_end (y ∷ xs) x (suc at) h = before_end xs x at (omega arith)

held_before : {T : Type 0} (entries : List (List ℕ × T)) (e : List ℕ × T) (found : Option ℕ) → ((at : ℕ) → found ≡ Some at → at < length entries) → held_at (entries ++ e ∷ []) found ≡ held_at entries found
held_before entries e None within = refl
held_before {T} entries e (Some at) within = ap (λ (o : Option (List ℕ × T)). option_map (λ x. x.1) o) (before_end entries e at (within at refl))

held_more : {T : Type 0} (b : Bool) (entries : List (List ℕ × T)) (e : List ℕ × T) (found : Option ℕ) (before : Option T) → ((at : ℕ) → found ≡ Some at → at < length entries) → held_at entries found ≡ before
    → held_at (entries ++ e ∷ []) (cond b (Some (length entries)) found) ≡ cond b (Some e.1) before
held_more {T} true entries e found before within is = ap (λ (o : Option (List ℕ × T)). option_map (λ x. x.1) o) (at_end entries e)
held_more false entries e found before within is = held_before entries e found within ∙ is

latest_more : {T : Type 0} (path : List ℕ) (entries : List (List ℕ × T)) (e : List ℕ × T) → latest path (entries ++ e ∷ []) ≡ cond (bytes_eq e.0 path) (Some e.1) (latest path entries)
latest_more {T} path entries e = fold-append (λ (found : Option T) (x : List ℕ × T). cond (bytes_eq x.0 path) (Some x.1) found) None entries (e ∷ [])

within_more : (b : Bool) (n at : ℕ) (found : Option ℕ) → ((k : ℕ) → found ≡ Some k → k < n) → cond b (Some n) found ≡ Some at → at < n + 1
within_more true n at found within h = let e : n ≡ at = cc in omega (arith, e)
within_more false n at found within h = let e : at < n = within at h in omega (arith, e)

length_more : {X : Type 0} (xs : List X) (x : X) → length (xs ++ x ∷ []) ≡ length xs + 1
length_more [] x = refl
length_more (y ∷ xs) x = let e : length (xs ++ x ∷ []) ≡ length xs + 1 = length_more xs x in omega (arith, e)

-- an index of nothing
pub finds_none : {T : Type 0} → Finds {T = T} empty []
finds_none = record {
  last = λ path bytes. ap (held_at []) (get-empty (slice_cmp nat_cmp) path);
  within = λ path at h. let e : None ≡ Some at = sym (get-empty (slice_cmp nat_cmp) path) ∙ h in absurd cc;
}

-- one entry more, at its place
pub finds_more : {T : Type 0} (index : Named ℕ) (entries : List (List ℕ × T)) (name text : List ℕ) (value : T) (at : ℕ) → at ≡ length entries → name ≡ encode_utf8_all text → characters name ≡ text
    → Finds index entries → Finds (insert index name at) (entries ++ (text, value) ∷ [])
finds_more {T} index entries name text value at is bytes chars finds = subst (λ n. Finds (insert index name n) (entries ++ (text, value) ∷ [])) (sym is) (record {
  last = λ path utf. ap (held_at (entries ++ (text, value) ∷ [])) (got index name (length entries) path)
      ∙ held_more (bytes_eq path name) entries (text, value) (get index path) (latest (characters path) entries) (finds.within path) (finds.last path utf)
      ∙ ap (λ b. cond b (Some value) (latest (characters path) entries)) (sym (same_path path name text utf bytes chars))
      ∙ sym (latest_more (characters path) entries (text, value));
  within = λ path k h. subst (λ n. k < n) (sym (length_more entries (text, value)))
      (within_more (bytes_eq path name) (length entries) k (get index path) (finds.within path) (sym (got index name (length entries) path) ∙ h));
})

-- names of nothing
pub lists_none : Lists empty []
lists_none = record { each = λ path bytes. ap is_some (get-empty (slice_cmp nat_cmp) path) }

named_more : {V : Type 0} (b : Bool) (v : V) (found : Option V) (before : Bool) → is_some found ≡ before → is_some (cond b (Some v) found) ≡ (before || b)
named_more true v found true is = refl
named_more true v found false is = refl
named_more false v found true is = is
named_more false v found false is = is

any_one : (b before : Bool) → (before || b) ≡ (before || (b || false))
any_one true true = refl
any_one true false = refl
any_one false true = refl
any_one false false = refl

-- one path more
pub lists_more : (names : Named (Unit {0})) (paths : List (List ℕ)) (name text : List ℕ) → name ≡ encode_utf8_all text → characters name ≡ text → Lists names paths → Lists (insert names name tt) (paths ++ text ∷ [])
lists_more names paths name text bytes chars lists = record {
  each = λ path utf.
      let among : List ℕ → Bool = λ p. bytes_eq p (characters path) in
      ap is_some (got names name tt path)
      ∙ named_more (bytes_eq path name) tt (get names path) (list_any among paths) (lists.each path utf)
      ∙ ap (λ b. list_any among paths || b) (sym (same_path path name text utf bytes chars))
      ∙ any_one (among text) (list_any among paths)
      ∙ sym (list_any-append among paths (text ∷ []));
}

-- what the entry at a place holds
pub held_there : {T : Type 0} (entries : List (List ℕ × T)) (e : List ℕ × T) (at : ℕ) → at < length entries → e ≡ get_or entries at e → Some e.1 ≡ held_at entries (Some at)
held_there {T} entries e at lt is = ap (λ (o : Option (List ℕ × T)). option_map (λ x. x.1) o) (sym (slice_get_read entries (length entries) at e refl lt is))

so_long : {X : Type 0} (xs : List X) (at : ℕ) → at < length xs → at ≡ length (take at xs)
so_long xs at lt = let e : length (take at xs) ≡ min at (length xs) = length-take at xs in omega (arith, e)

-- a step of the loop that indexes entries
pub finds_next : {T : Type 0} (index next : Named ℕ) (entries : List (List ℕ × T)) (name : List ℕ) (e : List ℕ × T) (at : ℕ) → at < length entries → e ≡ get_or entries at e → next ≡ insert index name at
    → name ≡ encode_utf8_all e.0 → characters name ≡ e.0 → Finds index (take at entries) → Finds next (take (at + 1) entries)
finds_next {T} index next entries name e at lt is set bytes chars finds =
    subst (λ (m : Named ℕ). Finds m (take (at + 1) entries)) (sym set)
    (subst (λ (es : List (List ℕ × T)). Finds (insert index name at) es) (ap (λ (x : List ℕ × T). take at entries ++ x ∷ []) is ∙ sym (take_more entries at e lt))
    (finds_more index (take at entries) name e.0 e.1 at (so_long entries at lt) bytes chars finds))

-- a step of the loop that names paths
pub lists_next : (names next : Named (Unit {0})) (paths : List (List ℕ)) (name path : List ℕ) (at : ℕ) → at < length paths → path ≡ get_or paths at path → next ≡ insert names name tt
    → name ≡ encode_utf8_all path → characters name ≡ path → Lists names (take at paths) → Lists next (take (at + 1) paths)
lists_next names next paths name path at lt is set bytes chars lists =
    subst (λ (m : Named (Unit {0})). Lists m (take (at + 1) paths)) (sym set)
    (subst (λ (ps : List (List ℕ)). Lists (insert names name tt) ps) (ap (λ (x : List ℕ). take at paths ++ x ∷ []) is ∙ sym (take_more paths at path lt))
    (lists_more names (take at paths) name path bytes chars lists))
