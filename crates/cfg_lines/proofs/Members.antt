-- What an object of some members holds at a name, how deep it is, and that it has no floats.
use Rattle.std.proofs.Common.{◌≡◌, ℕ, suc, ◌≤◌, ◌||◌, List, [], ◌∷◌, Bool, true, false, fold, bytes_eq, Option, Some, None, option_map, cond, refl, sym, ap, ◌∙◌, arith, true≢false}
use Rattle.std.specs.Ordering.{match_ordering}
use Rattle.std.proofs.Common.{Ordering, Less, Equal, Greater, nat_cmp}
use Rattle.std.specs.Cmp.Lexicographic.{slice_cmp}
use Rattle.std.proofs.lemmas.Slice.Eq.{bytes_eq-Decides}
use Rattle.serde_json.specs.Data.{Data, Members, no_members, member, put, depth, members_depth}
use Rattle.serde_json.specs.Find.{get, get_member}
use Rattle.serde_json.specs.Written.{has_float, members_have_float}
use Rattle.serde_json.proofs.Views.{get_member-put, get_member-put_other}
use Rattle.cfg_lines.specs.Members.{Row, put_or_keep, with_row, object_with}

-- ---- look-ups

-- a value that is there, or else another
abbrev pub or_other : Option Data → Option Data → Option Data
or_other None other = other
or_other (Some d) other = Some d

-- what a name holds behind this row
abbrev pub held : List ℕ → Option Data → Row → Option Data
held name other row = cond (bytes_eq name row.0) (or_other row.1 other) other

-- what a name holds in an object of these rows
abbrev pub held_in : List Row → List ℕ → Option Data
held_in rows name = fold (held name) None rows

kept : (b : Bool) (other : Option Data) → cond b other other ≡ other
kept true other = refl
kept false other = refl

put_at : (b : Bool) (k name : List ℕ) (d : Data) (ms : Members) → bytes_eq k name ≡ b → get_member k (put name d ms) ≡ cond b (Some d) (get_member k ms)
put_at true k name d ms e = let same : k ≡ name = (bytes_eq-Decides k name).0 e in ap (λ q. get_member q (put name d ms)) same ∙ get_member-put name d ms
put_at false k name d ms e = get_member-put_other k name d ms (λ same. true≢false (sym ((bytes_eq-Decides k name).1 same) ∙ e))

get-put_or_keep : (k name : List ℕ) (o : Option Data) (ms : Members) → get_member k (put_or_keep name o ms) ≡ held k (get_member k ms) (name, o)
unfolding put_or_keep
get-put_or_keep k name None ms = sym (kept (bytes_eq k name) (get_member k ms))
get-put_or_keep k name (Some d) ms = put_at (bytes_eq k name) k name d ms refl

get-rows : (rows : List Row) (ms : Members) (k : List ℕ) → get_member k (fold with_row ms rows) ≡ fold (held k) (get_member k ms) rows
get-rows [] ms k = refl
get-rows (row ∷ rows) ms k = get-rows rows (with_row ms row) k ∙ ap (λ o. fold (held k) o rows) (get-put_or_keep k row.0 row.1 ms)

-- what an object of rows holds at each name
pub get-object_with : (rows : List Row) → ◌≡◌ {A = List ℕ → Option Data} (λ k. get k (object_with rows)) (held_in rows)
unfolding object_with
get-object_with rows = λ i k. get-rows rows no_members k i

-- ---- depth, and no floats

-- at most so deep, and without floats
abbrev pub IsPlain : ℕ → Data → Type 0
IsPlain n d = (depth d ≤ n) × (has_float d ≡ false)

abbrev ArePlain : ℕ → Members → Type 0
ArePlain n ms = (members_depth ms ≤ n) × (members_have_float ms ≡ false)

-- a value that is there is plain
abbrev pub IsWithin : ℕ → Option Data → Type 0
IsWithin n None = Unit {0}
IsWithin n (Some d) = IsPlain n d

abbrev pub AreWithin : ℕ → List Row → Type 0
AreWithin n [] = Unit {0}
AreWithin n (row ∷ rows) = IsWithin n row.1 × AreWithin n rows

-- one member, and those behind it
infixr 9 ◌&◌
abbrev pub ◌&◌ : {A B : Type 0} → A → B → A × B
a & b = (a, b)

pub neither : (a b : Bool) → a ≡ false → b ≡ false → (a || b) ≡ false
neither a b ea eb = rw (ea, eb) refl

not_first : (a b : Bool) → (a || b) ≡ false → (a ≡ false) × (b ≡ false)
not_first true b e = absurd (true≢false e)
not_first false b e = (refl, e)

one_more : (n : ℕ) (k : List ℕ) (d : Data) (ms : Members) → IsPlain n d → ArePlain n ms → ArePlain n (member k d ms)
one_more n k d ms h g =
    let hd : depth d ≤ n = h.0 in
    let hms : members_depth ms ≤ n = g.0 in
    (omega arith, neither (has_float d) (members_have_float ms) h.1 g.1)

put_plain_at : (o : Ordering) (n : ℕ) (k l : List ℕ) (d e : Data) (ms : Members) → IsPlain n d → IsPlain n e → ArePlain n ms → ArePlain n (put k d ms)
    → ArePlain n (match_ordering o (member k d (member l e ms)) (member l d ms) (member l e (put k d ms)))
put_plain_at Less n k l d e ms hd he hms hput = one_more n k d (member l e ms) hd (one_more n l e ms he hms)
put_plain_at Equal n k l d e ms hd he hms hput = one_more n l d ms hd hms
put_plain_at Greater n k l d e ms hd he hms hput = one_more n l e (put k d ms) he hput

first_plain : (n : ℕ) (l : List ℕ) (e : Data) (ms : Members) → ArePlain n (member l e ms) → IsPlain n e × ArePlain n ms
first_plain n l e ms h =
    let all : members_depth (member l e ms) ≤ n = h.0 in
    let parts = not_first (has_float e) (members_have_float ms) h.1 in
    ((omega arith, parts.0), (omega arith, parts.1))

put_plain : (n : ℕ) (k : List ℕ) (d : Data) (ms : Members) → IsPlain n d → ArePlain n ms → ArePlain n (put k d ms)
put_plain n k d no_members hd hms = one_more n k d no_members hd hms
put_plain n k d (member l e ms) hd hms =
    let parts = first_plain n l e ms hms in
    put_plain_at (slice_cmp nat_cmp k l) n k l d e ms hd parts.0 parts.1 (put_plain n k d ms hd parts.1)

row_plain : (n : ℕ) (k : List ℕ) (o : Option Data) (ms : Members) → IsWithin n o → ArePlain n ms → ArePlain n (put_or_keep k o ms)
unfolding put_or_keep
row_plain n k None ms h hms = hms
row_plain n k (Some d) ms h hms = put_plain n k d ms h hms

rows_plain : (n : ℕ) (rows : List Row) (ms : Members) → AreWithin n rows → ArePlain n ms → ArePlain n (fold with_row ms rows)
rows_plain n [] ms h hms = hms
rows_plain n (row ∷ rows) ms h hms = rows_plain n rows (with_row ms row) h.1 (row_plain n row.0 row.1 ms h.0 hms)

-- an object is one deeper than its members
pub object_plain : (n : ℕ) (rows : List Row) → AreWithin n rows → IsPlain (suc n) (object_with rows)
unfolding object_with
object_plain n rows h =
    let all = rows_plain n rows no_members h (omega arith, refl) in
    let below : members_depth (fold with_row no_members rows) ≤ n = all.0 in
    (omega arith, all.1)

-- a member that may be left out
pub may_within : {A : Type 0} (of : A → Data) (n : ℕ) → ((a : A) → IsPlain n (of a)) → (told : Option A) → IsWithin n (option_map of told)
may_within of n h None = tt
may_within of n h (Some a) = h a
