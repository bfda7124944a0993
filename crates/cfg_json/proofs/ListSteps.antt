-- The loops over the items of a list and over the members of an object.
use Rattle.std.proofs.Common.{◌≡◌, ◌⊎◌, inl, inr, ℕ, suc, ◌+◌, ◌-◌, ◌<◌, ◌≤◌, List, [], ◌∷◌, ◌++◌, Bool, true, false, Option, Some, None, refl, sym, ap, ◌∙◌, append_assoc, arith}
use Rattle.std.specs.Prelude.{◌||◌}
use Rattle.cfg_types.specs.declared.document.JsonError.{JsonError}
use Rattle.cfg_types.specs.declared.document.JsonError.TheVariants as json
use Rattle.cfg_json.specs.Reads.{◌>>=◌}
use Rattle.cfg_json.specs.ReadingValues.{Read, or_front, go_on, turn_at, items_at}
use Rattle.cfg_json.specs.ReadingObjects.{ReadMembers, members_front, go_on_members, member_turn_at, members_at}
use Rattle.cfg_json.specs.declared.member.Member.{Member}

-- nothing was read, or memory ran out
abbrev Fails : {Y : Type 0} → JsonError → Option Y → Type 0
Fails e read = (e ≡ json.OutOfMemory) ⊎ ((e ≡ json.Syntax) × (read ≡ None))

or_twice : (a b : Bool) (r : Option Read) → or_front a (or_front b r) ≡ or_front (a || b) r
or_twice true b (Some q) = refl
or_twice false b (Some q) = refl
or_twice a b None = refl

turn : (k : Bool) (value : List ℕ → Option Read) (n i : ℕ) (rest : List ℕ) → i < n
    → items_at k value (n - i) rest ≡ (turn_at k value rest >>= λ p. go_on p.0 p.1 p.2 (items_at k value (n - (i + 1))))
unfolding items_at
turn k value n i rest lt = let e : n - i ≡ suc (n - (i + 1)) = omega arith in rw e refl

pub no_turn : (k : Bool) (value : List ℕ → Option Read) (n i : ℕ) (rest : List ℕ) (has : Bool) (total : Option Read) → i < n → turn_at k value rest ≡ None
    → or_front has (items_at k value (n - i) rest) ≡ total → total ≡ None
no_turn k value n i rest has total lt h so_far =
    let none : items_at k value (n - i) rest ≡ None = turn k value n i rest lt ∙ rw h refl in
    sym so_far ∙ ap (or_front has) none

pub items_end : (k : Bool) (value : List ℕ → Option Read) (n i : ℕ) (rest next : List ℕ) (has b e : Bool) (total : Option Read) → i < n → turn_at k value rest ≡ Some (b, e, next) → e ≡ true
    → or_front has (items_at k value (n - i) rest) ≡ total → total ≡ Some (has || b, next)
items_end k value n i rest next has b e total lt h is so_far =
    let one : items_at k value (n - i) rest ≡ Some (b, next) = turn k value n i rest lt ∙ rw (h, is) refl in
    sym so_far ∙ ap (or_front has) one

pub items_further : (k : Bool) (value : List ℕ → Option Read) (n i : ℕ) (rest next : List ℕ) (has b e : Bool) (total : Option Read) → i < n → turn_at k value rest ≡ Some (b, e, next) → e ≡ false
    → or_front has (items_at k value (n - i) rest) ≡ total → or_front (has || b) (items_at k value (n - (i + 1)) next) ≡ total
items_further k value n i rest next has b e total lt h is so_far =
    let one : items_at k value (n - i) rest ≡ or_front b (items_at k value (n - (i + 1)) next) = turn k value n i rest lt ∙ rw (h, is) refl in
    sym (or_twice has b (items_at k value (n - (i + 1)) next)) ∙ sym (ap (or_front has) one) ∙ so_far

pub items_run_out : (k : Bool) (value : List ℕ → Option Read) (n i : ℕ) (rest : List ℕ) (has : Bool) (total : Option Read) → n ≤ i
    → or_front has (items_at k value (n - i) rest) ≡ total → total ≡ None
unfolding items_at
items_run_out k value n i rest has total le so_far =
    let e : n - i ≡ 0 = omega arith in
    let none : items_at k value (n - i) rest ≡ None = rw e refl in
    sym so_far ∙ ap (or_front has) none

-- the members of an object

front_twice : (front : List Member) (m : Member) (r : Option ReadMembers) → members_front front (members_front (m ∷ []) r) ≡ members_front (front ++ m ∷ []) r
front_twice front m (Some q) = ap (λ (x : List Member). Some (x, q.1)) (simp append_assoc)
front_twice front m None = refl

member_turn : (total n i : ℕ) (rest : List ℕ) → i < n
    → members_at total (n - i) rest ≡ (member_turn_at total rest >>= λ p. go_on_members p.0 p.1 p.2 (members_at total (n - (i + 1))))
unfolding members_at
member_turn total n i rest lt = let e : n - i ≡ suc (n - (i + 1)) = omega arith in rw e refl

no_member : (total n i : ℕ) (rest : List ℕ) (front : List Member) (all : Option ReadMembers) → i < n → member_turn_at total rest ≡ None
    → members_front front (members_at total (n - i) rest) ≡ all → all ≡ None
no_member total n i rest front all lt h so_far =
    let none : members_at total (n - i) rest ≡ None = member_turn total n i rest lt ∙ rw h refl in
    sym so_far ∙ ap (members_front front) none

pub members_fail : (total n i : ℕ) (rest : List ℕ) (front : List Member) (all : Option ReadMembers) (e : JsonError) → i < n → Fails e (member_turn_at total rest)
    → members_front front (members_at total (n - i) rest) ≡ all → Fails e all
members_fail total n i rest front all e lt h so_far = elim h [
  | inl m ↦ inl m
  | inr p ↦ inr (p.0, no_member total n i rest front all lt p.1 so_far)
]

pub members_end : (total n i : ℕ) (rest next : List ℕ) (front : List Member) (m : Member) (e : Bool) (all : Option ReadMembers) → i < n → member_turn_at total rest ≡ Some (m, e, next) → e ≡ true
    → members_front front (members_at total (n - i) rest) ≡ all → all ≡ Some (front ++ m ∷ [], next)
members_end total n i rest next front m e all lt h is so_far =
    let one : members_at total (n - i) rest ≡ Some (m ∷ [], next) = member_turn total n i rest lt ∙ rw (h, is) refl in
    sym so_far ∙ ap (members_front front) one

pub members_further : (total n i : ℕ) (rest next : List ℕ) (front : List Member) (m : Member) (e : Bool) (all : Option ReadMembers) → i < n → member_turn_at total rest ≡ Some (m, e, next) → e ≡ false
    → members_front front (members_at total (n - i) rest) ≡ all → members_front (front ++ m ∷ []) (members_at total (n - (i + 1)) next) ≡ all
members_further total n i rest next front m e all lt h is so_far =
    let one : members_at total (n - i) rest ≡ members_front (m ∷ []) (members_at total (n - (i + 1)) next) = member_turn total n i rest lt ∙ rw (h, is) refl in
    sym (front_twice front m (members_at total (n - (i + 1)) next)) ∙ sym (ap (members_front front) one) ∙ so_far

pub members_run_out : (total n i : ℕ) (rest : List ℕ) (front : List Member) (all : Option ReadMembers) → n ≤ i
    → members_front front (members_at total (n - i) rest) ≡ all → all ≡ None
unfolding members_at
members_run_out total n i rest front all le so_far =
    let e : n - i ≡ 0 = omega arith in
    let none : members_at total (n - i) rest ≡ None = rw e refl in
    sym so_far ∙ ap (members_front front) none
