-- Each step keeps the rule of the lock.
use Rattle.std.proofs.Common.{◌≡◌, ◌≢◌, ◌⊎◌, ℕ, ◌+◌, ◌-◌, ◌%◌, ◌^◌, ◌<◌, ◌≤◌, zero, suc, List, [], ◌∷◌, ◌++◌, map, get_or, set, sym, refl, ap, ◌∙◌, subst, ⊎_elim, inl, inr, arith, Bool, true, false, Option, Some, None}
use Rattle.std.specs.Prelude.{nat_le, if◌then◌else◌}
use mathlib.Core.Logic.{dite}
use mathlib.Core.Option.{none, some, some-injective, some-ne-none}
use mathlib.Core.Option as maybe
use native.Mathlib.Decide.{ℕ_discrete}
use lib.ListN.{get_elem?}
use lib.Seq.{set-get_or}
use Rattle.atomic_table.specs.Table.{step, Act, keeps, takes, gives, stepped, Allows, Splits, Joins, opening, put_back, Valid, carried_after}
use Rattle.atomic_table.proofs.Lists.{at_set, set_else, set_again, at_snoc, at_longer}
use Rattle.cfg_gate.specs.declared.rule.Stage.{Stage}
use Rattle.cfg_gate.specs.declared.rule.Stage.TheVariants.{Idle, Waits, Turn, Holds, Added}
use Rattle.cfg_gate.specs.declared.rule.View.{View}
use Rattle.cfg_gate.specs.declared.rule.Terms.{Terms}
use Rattle.cfg_gate.specs.Turns.{view, first, total, allowances, tickets, ticket_of, ticket_or_first, tickets_of, HasDrawn, Whereabouts, resting, out, back, IsResting, IsOut, IsBack, OwnsTurn, Knows, Sat, St, Slot, TakesTurns, Bears, taken, drawn, looked, fitted, added, passed, keeps_share, gets_share, greater, joined, nobody}

abbrev pick : {P : Type 0} → Dec P → ℕ → ℕ → ℕ
pick (yes _) a b = a
pick (no _) a b = b

-- the number i gets the owner c
put : (ℕ → ℕ) → ℕ → ℕ → ℕ → ℕ
put f i c j = pick (ℕ_discrete j i) c (f j)

put_here : (f : ℕ → ℕ) (i c : ℕ) → put f i c i ≡ c
unfolding put
put_here f i c = go (ℕ_discrete i i)
  where
    go : (d : Dec (i ≡ i)) → pick d c (f i) ≡ c
    go (yes _) = refl
    go (no n) = absurd (n refl)

put_else : (f : ℕ → ℕ) (i c j : ℕ) → j ≢ i → put f i c j ≡ f j
unfolding put
put_else f i c j other = go (ℕ_discrete j i)
  where
    go : (d : Dec (j ≡ i)) → pick d c (f j) ≡ f j
    go (yes e) = absurd (other e)
    go (no _) = refl

total_set : (f : View → ℕ) (vs : List View) (i : ℕ) (v w : View) → get_elem? vs i ≡ some v → total f (set vs i w) + f v ≡ total f vs + f w
total_set f [] i v w e = absurd (some-ne-none v (sym e))
total_set f (x ∷ xs) zero v w e = let same : f x ≡ f v = ap f (some-injective x v e) in omega arith
total_set f (x ∷ xs) (suc i) v w e = let h = total_set f xs i v w e in omega arith

total_snoc : (f : View → ℕ) (vs : List View) (v : View) → total f (vs ++ v ∷ []) ≡ total f vs + f v
total_snoc f [] v = omega arith
total_snoc f (x ∷ xs) v = let h = total_snoc f xs v in omega arith

allowances_set : (vs : List View) (i : ℕ) (v w : View) → get_elem? vs i ≡ some v → allowances (set vs i w) + v.left ≡ allowances vs + w.left
allowances_set = total_set (λ v. v.left)

tickets_set : (vs : List View) (i : ℕ) (v w : View) → get_elem? vs i ≡ some v → tickets (set vs i w) + tickets_of v.stage ≡ tickets vs + tickets_of w.stage
tickets_set = total_set (λ v. tickets_of v.stage)

here : (vs : List View) (i : ℕ) (v w : View) → get_elem? vs i ≡ some v → get_elem? (set vs i w) i ≡ some w
here [] i v w e = absurd (some-ne-none v (sym e))
here (x ∷ xs) zero v w e = refl
here (x ∷ xs) (suc i) v w e = here xs i v w e

abbrev number_in : Option ℕ → ℕ
number_in None = 0
number_in (Some n) = n

greater_le : (a b c : ℕ) → a ≤ c → b ≤ c → (t : Bool) → (if t then b else a) ≤ c
greater_le a b c h k true = k
greater_le a b c h k false = h

seats_stay : (K : ℕ → View → Type 0) (vs : List View) (me : ℕ) (w : View) → K me w → ((j : ℕ) (d : View) → j ≢ me → get_elem? vs j ≡ some d → K j d)
    → (j : ℕ) (d : View) → get_elem? (set vs me w) j ≡ some d → K j d
seats_stay K vs me w mine others j d e = ⊎_elim (λ (t : (j ≡ me) × (w ≡ d)). subst (λ (x : ℕ × View). K x.0 x.1) (λ i. (sym t.0 i, t.1 i)) mine)
    (λ (t : (j ≢ me) × (get_elem? vs j ≡ some d)). others j d t.0 t.1) (at_set vs me j w d e)

-- two views of one seat are one
same_stage : (vs : List View) (i j : ℕ) (v w : View) → get_elem? vs i ≡ some v → get_elem? vs j ≡ some w → i ≡ j → v.stage ≡ w.stage
same_stage vs i j v w a b e = ap (λ (z : View). z.stage) (some-injective v w (sym a ∙ ap (get_elem? vs) e ∙ b))

-- a ticket stays with its seat where the view of a seat changes, and its ticket does not
drawn_set : (vs : List View) (id : ℕ) (v w : View) (j n : ℕ) → get_elem? vs id ≡ some v → (ticket_of v.stage ≡ Some n → ticket_of w.stage ≡ Some n) → HasDrawn vs j n → HasDrawn (set vs id w) j n
drawn_set vs id v w j n at stays h =
    dite (ℕ_discrete j id)
    (λ (e : j ≡ id). (w, ap (get_elem? (set vs id w)) e ∙ here vs id v w at, stays (ap ticket_of (same_stage vs id j v h.0 at h.1 (sym e)) ∙ h.2)))
    (λ (e : j ≢ id). (h.0, set_else vs id j w e ∙ h.1, h.2))

drawn_longer : (vs ws : List View) (j n : ℕ) → HasDrawn vs j n → HasDrawn (vs ++ ws) j n
drawn_longer vs ws j n h = (h.0, at_longer vs ws j h.0 h.1, h.2)

no_ticket : (stage : Stage) (n : ℕ) → stage ≡ Idle → ticket_of stage ≡ Some n → ⊥
no_ticket stage n idle h = let x : None ≡ Some n = sym (ap ticket_of idle) ∙ h in cc

module _ {S : Type 0} where
  later_ticket : (ticket serving count : ℕ) (owner : ℕ → ℕ) (whereabouts : Whereabouts S) (id j seen : ℕ) (stage : Stage) → Knows ticket serving count owner whereabouts j seen stage → Knows (ticket + 1) serving count (put owner ticket id) whereabouts j seen stage
  later_ticket ticket serving count owner whereabouts id j seen Idle h = h
  later_ticket ticket serving count owner whereabouts id j seen (Waits n) h = let lt = h.2 in (h.0, h.1, omega arith, put_else owner ticket id n (λ e. omega arith) ∙ h.3)
  later_ticket ticket serving count owner whereabouts id j seen (Turn n) h = let t = h.1 in let lt = t.1 in (h.0, (t.0, omega arith, put_else owner ticket id n (λ e. omega arith) ∙ t.2), h.2)
  later_ticket ticket serving count owner whereabouts id j seen (Holds n) h = let t = h.1 in let lt = t.1 in (h.0, (t.0, omega arith, put_else owner ticket id n (λ e. omega arith) ∙ t.2), h.2)
  later_ticket ticket serving count owner whereabouts id j seen (Added n) h = let t = h.1 in let lt = t.1 in (h.0, (t.0, omega arith, put_else owner ticket id n (λ e. omega arith) ∙ t.2), h.2)

  -- no other seat has the turn
  not_its : (ticket serving count : ℕ) (owner : ℕ → ℕ) (whereabouts : Whereabouts S) (id j n : ℕ) → owner serving ≡ id → j ≢ id → OwnsTurn ticket serving count owner whereabouts j n → ⊥
  not_its ticket serving count owner whereabouts id j n mine other t = other (sym t.2 ∙ ap owner t.0 ∙ mine)

  -- what the others know stays over a step of the pass that has the turn
  later_phase : (ticket serving count k : ℕ) (owner : ℕ → ℕ) (whereabouts whereabouts2 : Whereabouts S) (id j seen : ℕ) (stage : Stage) → count ≤ k → owner serving ≡ id → j ≢ id →
      Knows ticket serving count owner whereabouts j seen stage → Knows ticket serving k owner whereabouts2 j seen stage
  later_phase ticket serving count k owner whereabouts whereabouts2 id j seen Idle le mine other h = omega arith
  later_phase ticket serving count k owner whereabouts whereabouts2 id j seen (Waits n) le mine other h = let a = h.0 in (omega arith, h.1, h.2, h.3)
  later_phase ticket serving count k owner whereabouts whereabouts2 id j seen (Turn n) le mine other h = absurd (not_its ticket serving count owner whereabouts id j n mine other h.1)
  later_phase ticket serving count k owner whereabouts whereabouts2 id j seen (Holds n) le mine other h = absurd (not_its ticket serving count owner whereabouts id j n mine other h.1)
  later_phase ticket serving count k owner whereabouts whereabouts2 id j seen (Added n) le mine other h = absurd (not_its ticket serving count owner whereabouts id j n mine other h.1)

  later_turn : (ticket serving count : ℕ) (owner : ℕ → ℕ) (whereabouts whereabouts2 : Whereabouts S) (id j seen : ℕ) (stage : Stage) → owner serving ≡ id → j ≢ id →
      Knows ticket serving count owner whereabouts j seen stage → Knows ticket (serving + 1) count owner whereabouts2 j seen stage
  later_turn ticket serving count owner whereabouts whereabouts2 id j seen Idle mine other h = h
  later_turn ticket serving count owner whereabouts whereabouts2 id j seen (Waits n) mine other h =
      let b = h.1 in let differs : n ≢ serving = λ e. other (sym h.3 ∙ ap owner e ∙ mine) in (h.0, omega arith, h.2, h.3)
  later_turn ticket serving count owner whereabouts whereabouts2 id j seen (Turn n) mine other h = absurd (not_its ticket serving count owner whereabouts id j n mine other h.1)
  later_turn ticket serving count owner whereabouts whereabouts2 id j seen (Holds n) mine other h = absurd (not_its ticket serving count owner whereabouts id j n mine other h.1)
  later_turn ticket serving count owner whereabouts whereabouts2 id j seen (Added n) mine other h = absurd (not_its ticket serving count owner whereabouts id j n mine other h.1)

  module _ (loads : S → ℕ) (terms : Terms) where
    knows : (s : St S) (r : TakesTurns loads terms s) (id : ℕ) (v : View) (stage : Stage) → get_elem? s.views id ≡ some v → v.stage ≡ stage → Knows r.ticket r.serving r.count r.owner r.whereabouts id v.seen stage
    knows s r id v stage at is = subst (Knows r.ticket r.serving r.count r.owner r.whereabouts id v.seen) is (r.each id v at)

    -- a step of a seat that is not the holder leaves the slot
    slot_stays : (s : St S) (r : TakesTurns loads terms s) (whereabouts : Whereabouts S) (id : ℕ) (v w : View) (words : List ℕ) (holder : ℕ) → get_elem? s.views id ≡ some v → v.stage ≢ Holds r.serving → v.stage ≢ Added r.serving → holder ≡ r.owner r.serving →
        Slot loads s r.serving r.count (r.owner r.serving) (terms.loads + r.serving) whereabouts → Slot loads (record { words = words; homes = s.homes; views = set s.views id w }) r.serving r.count holder (terms.loads + r.serving) whereabouts
    slot_stays s r (resting x) id v w words holder at n m same h = h
    slot_stays s r out id v w words holder at n m same h = (
      record {
        empty = h.0.empty;
        left = h.0.left;
        seen = h.0.seen;
        holder = ap (get_elem? (set s.views id w)) same ∙ set_else s.views id (r.owner r.serving) w (λ e. n (sym (same_stage s.views (r.owner r.serving) id _ _ h.0.holder at e))) ∙ h.0.holder;
      },
      h.1,
    )
    slot_stays s r back id v w words holder at n m same h = (
      record {
        empty = h.0.empty;
        left = h.0.left;
        seen = h.0.seen;
        holder = ap (get_elem? (set s.views id w)) same ∙ set_else s.views id (r.owner r.serving) w (λ e. m (sym (same_stage s.views (r.owner r.serving) id _ _ h.0.holder at e))) ∙ h.0.holder;
      },
      h.1,
    )

    -- the number that is served was drawn, where its holder has the state
    served_drawn : (s : St S) (r : TakesTurns loads terms s) (j left seen n : ℕ) → (get_elem? s.views j ≡ some (view left seen (Holds n))) ⊎ (get_elem? s.views j ≡ some (view left seen (Added n))) → n < r.ticket
    served_drawn s r j left seen n (inl a) = (r.each j (view left seen (Holds n)) a).1.1
    served_drawn s r j left seen n (inr a) = (r.each j (view left seen (Added n)) a).1.1

    put_later : (s : St S) (r : TakesTurns loads terms s) (id : ℕ) (whereabouts : Whereabouts S) → Slot loads s r.serving r.count (r.owner r.serving) (terms.loads + r.serving) whereabouts → IsResting whereabouts ⊎ (put r.owner r.ticket id r.serving ≡ r.owner r.serving)
    put_later s r id (resting x) h = inl tt
    put_later s r id out h = let lt = served_drawn s r _ _ _ _ (inl h.0.holder) in inr (put_else r.owner r.ticket id r.serving (λ e. omega arith))
    put_later s r id back h = let lt = served_drawn s r _ _ _ _ (inr h.0.holder) in inr (put_else r.owner r.ticket id r.serving (λ e. omega arith))

    slot_resting : (s t : St S) (serving count holder holder2 most : ℕ) (whereabouts : Whereabouts S) → s.homes ≡ t.homes → IsResting whereabouts → Slot loads s serving count holder most whereabouts → Slot loads t serving count holder2 most whereabouts
    slot_resting s t serving count holder holder2 most (resting x) same is h = (sym same ∙ h.0, h.1, h.2)
    slot_resting s t serving count holder holder2 most out same is h = absurd is
    slot_resting s t serving count holder holder2 most back same is h = absurd is

    pub draws : (slots id : ℕ) (me : Sat S) → me.0.stage ≡ Idle → 0 < me.0.left → Allows (TakesTurns loads terms) slots id me 0 (λ n. (n + 1) % 2 ^ 64) (drawn (step slots 0 1 0 none) me)
    draws slots id me idle left s r deep at fits =
        let n : ℕ = get_or s.words 0 0 in let t : ℕ = r.ticket in
        let is : n ≡ t = ap (λ (l : List ℕ). get_or l 0 0) r.words in
        let w : View = view (me.0.left - 1) me.0.seen (Waits n) in
        let sum = allowances_set s.views id me.0 w at in let whole = r.sum in let bound = r.bound in
        let out_before = tickets_set s.views id me.0 w at in let none_before : tickets_of me.0.stage ≡ 0 = ap tickets_of idle in let wait = r.waiting in
        let next : (n + 1) % 18446744073709551616 ≡ t + 1 = omega arith in
        let words : List ℕ = set s.words 0 ((n + 1) % 18446744073709551616) in (
          w,
          keeps,
          tt,
          record {
            ticket = t + 1;
            serving = r.serving;
            count = r.count;
            owner = put r.owner t id;
            whereabouts = r.whereabouts;
            words = ap (λ (l : List ℕ). set l 0 ((n + 1) % 18446744073709551616)) r.words ∙ ap (λ (z : ℕ). z ∷ r.serving ∷ r.count ∷ []) next;
            sum = omega arith;
            bound = r.bound;
            waiting = omega arith;
            once = λ k low high.
                dite (ℕ_discrete k t)
                (λ (e : k ≡ t). (w, ap (get_elem? (set s.views id w)) (ap (put r.owner t id) e ∙ put_here r.owner t id) ∙ here s.views id me.0 w at, ap Some (is ∙ sym e)))
                (λ (other : k ≢ t). subst (λ j. HasDrawn (set s.views id w) j k) (sym (put_else r.owner t id k other))
                (drawn_set s.views id me.0 w (r.owner k) k at (λ z. absurd (no_ticket me.0.stage k idle z)) (r.once k low (omega arith))));
            each = seats_stay (λ j v. Knows (t + 1) r.serving r.count (put r.owner t id) r.whereabouts j v.seen v.stage) s.views id w
                (knows s r id me.0 Idle at idle, omega arith, omega arith, ap (put r.owner t id) is ∙ put_here r.owner t id)
                (λ j d other a. later_ticket t r.serving r.count r.owner r.whereabouts id j d.seen d.stage (r.each j d a));
            slot = ⊎_elim (λ (h : IsResting r.whereabouts). slot_resting s (record { words = words; homes = s.homes; views = set s.views id w }) r.serving r.count (r.owner r.serving) (put r.owner t id r.serving) (terms.loads + r.serving) r.whereabouts refl h r.slot)
                (λ (e : put r.owner t id r.serving ≡ r.owner r.serving). slot_stays s r r.whereabouts id me.0 w words (put r.owner t id r.serving) at
                (λ z. let x : Idle ≡ Holds r.serving = sym idle ∙ z in cc) (λ z. let x : Idle ≡ Added r.serving = sym idle ∙ z in cc) e r.slot)
                (put_later s r id r.whereabouts r.slot);
          },
          refl,
        )

    -- whose turn it is, and who has not got the state: it rests
    rests : (s : St S) (r : TakesTurns loads terms s) (id n : ℕ) (v : View) (whereabouts : Whereabouts S) → get_elem? s.views id ≡ some v → v.stage ≡ Waits n → r.owner r.serving ≡ id → Slot loads s r.serving r.count (r.owner r.serving) (terms.loads + r.serving) whereabouts → IsResting whereabouts
    rests s r id n v (resting x) at is mine h = tt
    rests s r id n v out at is mine h = let z : Holds r.serving ≡ Waits n = same_stage s.views (r.owner r.serving) id _ _ h.0.holder at mine ∙ is in cc
    rests s r id n v back at is mine h = let z : Added r.serving ≡ Waits n = same_stage s.views (r.owner r.serving) id _ _ h.0.holder at mine ∙ is in cc

    no_turn : (id : ℕ) (me : Sat S) (s : St S) (r : TakesTurns loads terms s) → get_elem? s.views id ≡ some me.0 → TakesTurns loads terms (stepped s 1 (get_or s.words 1 0) id me.1 me.0 keeps)
    no_turn id me s r at = subst (λ (x : List ℕ × List View). TakesTurns loads terms record { words = x.0; homes = s.homes; views = x.1 }) (λ i. (sym (set-get_or s.words 1 0) i, sym (set_again s.views id me.0 at) i)) r

    -- the allowances of all passes fit a word, so that of each does
    pub fits_word : (slots id : ℕ) (me : Sat S) → Allows (TakesTurns loads terms) slots id me 1 (λ n. n) (fitted (step slots 1 0 0 none) me)
    fits_word slots id me s r deep at fits =
        let sum = allowances_set s.views id me.0 (view 0 me.0.seen me.0.stage) at in
        let whole = r.sum in
        let bound = r.bound in
        (me.0, keeps, tt, no_turn id me s r at, (refl, omega arith))

    pub looks : (slots id n : ℕ) (me : Sat S) → me.0.stage ≡ Waits n → Allows (TakesTurns loads terms) slots id me 1 (λ n. n) (looked (step slots 1 0 0 none) me)
    looks slots id n me is s r deep at fits =
        let m : ℕ = get_or s.words 1 0 in
        let number : ticket_or_first me.0.stage ≡ n = ap ticket_or_first is in
        let serves : m ≡ r.serving = ap (λ (l : List ℕ). get_or l 1 0) r.words in
        let h = knows s r id me.0 (Waits n) at is in let lt = h.2 in
        let w : View = view me.0.left me.0.seen (Turn m) in
        let sum = allowances_set s.views id me.0 w at in let whole = r.sum in
        let out_before = tickets_set s.views id me.0 w at in let one_before : tickets_of me.0.stage ≡ 1 = ap tickets_of is in let wait = r.waiting in
        dite (ℕ_discrete m n)
        (λ (e : m ≡ n). let mine : r.owner r.serving ≡ id = ap r.owner (sym serves ∙ e) ∙ h.3 in (
          w,
          keeps,
          tt,
          record {
            ticket = r.ticket;
            serving = r.serving;
            count = r.count;
            owner = r.owner;
            whereabouts = r.whereabouts;
            words = set-get_or s.words 1 0 ∙ r.words;
            sum = omega arith;
            bound = r.bound;
            waiting = omega arith;
            once = λ k low high. drawn_set s.views id me.0 w (r.owner k) k at (λ z. ap Some e ∙ sym (ap ticket_of is) ∙ z) (r.once k low high);
            each = seats_stay (λ j v. Knows r.ticket r.serving r.count r.owner r.whereabouts j v.seen v.stage) s.views id w
                (h.0, (serves, omega arith, ap r.owner e ∙ h.3), rests s r id n me.0 r.whereabouts at is mine r.slot) (λ j d other a. r.each j d a);
            slot = slot_stays s r r.whereabouts id me.0 w (set s.words 1 m) (r.owner r.serving) at
                (λ z. let x : Waits n ≡ Holds r.serving = sym is ∙ z in cc) (λ z. let x : Waits n ≡ Added r.serving = sym is ∙ z in cc) refl r.slot;
          },
          ((λ _. refl), λ other. absurd (other (e ∙ sym number))),
        ))
        (λ (other : m ≢ n). (me.0, keeps, tt, no_turn id me s r at, ((λ e. absurd (other (e ∙ number))), λ _. refl)))

    -- a step of the pass that has the turn, to another whereabouts and count
    turn_step : (s : St S) (r : TakesTurns loads terms s) (id : ℕ) (v w : View) (k x : ℕ) (whereabouts : Whereabouts S) (homes : List (maybe.Option (Option S))) → get_elem? s.views id ≡ some v → w.left ≡ v.left → ticket_of w.stage ≡ ticket_of v.stage → tickets_of w.stage ≡ tickets_of v.stage → r.owner r.serving ≡ id → r.count ≤ k → x ≡ k →
        Knows r.ticket r.serving k r.owner whereabouts id w.seen w.stage → Slot loads (record { words = set s.words 2 x; homes = homes; views = set s.views id w }) r.serving k (r.owner r.serving) (terms.loads + r.serving) whereabouts →
        TakesTurns loads terms (record { words = set s.words 2 x; homes = homes; views = set s.views id w })
    turn_step s r id v w k x whereabouts homes at same ticket number mine le is known slot =
        let sum = allowances_set s.views id v w at in let whole = r.sum in
        let out_before = tickets_set s.views id v w at in let wait = r.waiting in record {
          ticket = r.ticket;
          serving = r.serving;
          count = k;
          owner = r.owner;
          whereabouts = whereabouts;
          words = ap (λ (l : List ℕ). set l 2 x) r.words ∙ ap (λ (z : ℕ). r.ticket ∷ r.serving ∷ z ∷ []) is;
          sum = omega arith;
          bound = r.bound;
          waiting = omega arith;
          once = λ n low high. drawn_set s.views id v w (r.owner n) n at (λ z. ticket ∙ z) (r.once n low high);
          each = seats_stay (λ j d. Knows r.ticket r.serving k r.owner whereabouts j d.seen d.stage) s.views id w known
              (λ j d other a. later_phase r.ticket r.serving r.count k r.owner r.whereabouts whereabouts id j d.seen d.stage le mine other (r.each j d a));
          slot = slot;
        }

    take_from : (s : St S) (r : TakesTurns loads terms s) (slots id n : ℕ) (me : Sat S) (whereabouts : Whereabouts S) → me.0.stage ≡ Turn n → get_elem? s.views id ≡ some me.0 → OwnsTurn r.ticket r.serving r.count r.owner r.whereabouts id n → me.0.seen ≤ r.count → IsResting whereabouts →
        Slot loads s r.serving r.count (r.owner r.serving) (terms.loads + r.serving) whereabouts → get_or s.words 2 0 < 18446744073709551616 →
        (w : View) × (a : Act (Option S)) × Valid s.homes me.1 a × TakesTurns loads terms (stepped s 2 ((get_or s.words 2 0 + 0) % 18446744073709551616) id me.1 w a)
        × taken loads (step slots 2 0 0 none) me (get_or s.words 2 0) (w, carried_after me.1 a)
    take_from s r slots id n me (resting x) is at turn le rest_is h fits =
        let m : ℕ = get_or s.words 2 0 in
        let same : m ≡ r.count = ap (λ (l : List ℕ). get_or l 2 0) r.words in
        let number : ticket_or_first me.0.stage ≡ n = ap ticket_or_first is in
        let mine : r.owner r.serving ≡ id = ap r.owner (sym turn.0) ∙ turn.2 in
        let w : View = view me.0.left m (Holds (ticket_or_first me.0.stage)) in
        let lt = turn.1 in (
          w,
          takes 0 (Some x),
          ap (λ (l : List (maybe.Option (Option S))). get_elem? l 0) h.0,
          turn_step s r id me.0 w r.count ((m + 0) % 18446744073709551616) out (set s.homes 0 none) at refl (ap Some number ∙ sym (ap ticket_of is)) (sym (ap tickets_of is)) mine (omega arith) (omega arith)
              (same, (number ∙ turn.0, omega arith, ap r.owner number ∙ turn.2), tt) (
                record {
                  empty = ap (λ (l : List (maybe.Option (Option S))). set l 0 none) h.0;
                  left = me.0.left;
                  seen = m;
                  holder = ap (get_elem? (set s.views id w)) mine ∙ here s.views id me.0 w at ∙ ap (λ (z : ℕ). some (view me.0.left m (Holds z))) (number ∙ turn.0);
                },
                h.2,
              ),
          (omega arith, refl, x, refl, h.1 ∙ sym same),
        )
    take_from s r slots id n me out is at turn le rest_is h fits = absurd rest_is
    take_from s r slots id n me back is at turn le rest_is h fits = absurd rest_is

    pub takes_state : (slots id n : ℕ) (me : Sat S) → me.0.stage ≡ Turn n → Allows (TakesTurns loads terms) slots id me 2 (λ n. (n + 0) % 2 ^ 64) (taken loads (step slots 2 0 0 none) me)
    takes_state slots id n me is s r deep at fits =
        let h = knows s r id me.0 (Turn n) at is in take_from s r slots id n me r.whereabouts is at h.1 h.0 h.2 r.slot fits

    add_in : (s : St S) (r : TakesTurns loads terms s) (id n k : ℕ) (me : Sat S) (whereabouts : Whereabouts S) → me.0.stage ≡ Holds n → get_elem? s.views id ≡ some me.0 → OwnsTurn r.ticket r.serving r.count r.owner r.whereabouts id n → me.0.seen ≡ r.count → k ≤ 1 → IsOut whereabouts →
        Slot loads s r.serving r.count (r.owner r.serving) (terms.loads + r.serving) whereabouts →
        TakesTurns loads terms (stepped s 2 ((get_or s.words 2 0 + k) % 18446744073709551616) id me.1 (view me.0.left (me.0.seen + k) (Added (ticket_or_first me.0.stage))) keeps)
    add_in s r id n k me (resting x) is at turn known le is_out h = absurd is_out
    add_in s r id n k me out is at turn known le is_out h =
        let m : ℕ = get_or s.words 2 0 in
        let same : m ≡ r.count = ap (λ (l : List ℕ). get_or l 2 0) r.words in
        let number : ticket_or_first me.0.stage ≡ n = ap ticket_or_first is in
        let mine : r.owner r.serving ≡ id = ap r.owner (sym turn.0) ∙ turn.2 in
        let w : View = view me.0.left (me.0.seen + k) (Added (ticket_or_first me.0.stage)) in
        let most = h.1 in let lt = turn.1 in let serves = turn.0 in let sum = r.sum in let bound = r.bound in
        turn_step s r id me.0 w (r.count + k) ((m + k) % 18446744073709551616) back s.homes at refl (ap Some number ∙ sym (ap ticket_of is)) (sym (ap tickets_of is)) mine (omega arith) (omega arith)
        (ap (λ (z : ℕ). z + k) known, (number ∙ turn.0, omega arith, ap r.owner number ∙ turn.2), tt) (
          record {
            empty = h.0.empty;
            left = me.0.left;
            seen = me.0.seen + k;
            holder = ap (get_elem? (set s.views id w)) mine ∙ here s.views id me.0 w at ∙ ap (λ (z : ℕ). some (view me.0.left (me.0.seen + k) (Added z))) (number ∙ turn.0);
          },
          omega arith,
        )
    add_in s r id n k me back is at turn known le is_out h = absurd is_out

    -- while the state is out the count is at most what the sections before can have loaded
    out_most : (s : St S) (serving count holder most : ℕ) (whereabouts : Whereabouts S) → IsOut whereabouts → Slot loads s serving count holder most whereabouts → count ≤ most
    out_most s serving count holder most (resting x) is_out h = absurd is_out
    out_most s serving count holder most out is_out h = h.1
    out_most s serving count holder most back is_out h = absurd is_out

    pub adds : (slots id n k : ℕ) (me : Sat S) → me.0.stage ≡ Holds n → k ≤ 1 → Allows (TakesTurns loads terms) slots id me 2 (λ n. (n + k) % 2 ^ 64) (added (step slots 2 k 0 none) me)
    adds slots id n k me is le s r deep at fits =
        let h = knows s r id me.0 (Holds n) at is in (
          view me.0.left (me.0.seen + k) (Added (ticket_or_first me.0.stage)),
          keeps,
          tt,
          add_in s r id n k me r.whereabouts is at h.1 h.0 le h.2 r.slot,
          (
            refl,
            (let most = out_most s r.serving r.count (r.owner r.serving) (terms.loads + r.serving) r.whereabouts h.2 r.slot in
                let known = h.0 in let serves = h.1.0 in let lt = h.1.1 in let sum = r.sum in let bound = r.bound in omega arith),
          ),
        )

    put_in : (hs : List (maybe.Option (Option S))) (x : S) (c : List (ℕ × Option S)) → hs ≡ none ∷ [] → c ≡ (0, Some x) ∷ [] → put_back hs c ≡ some (Some x) ∷ []
    put_in hs x c a b = ap (λ (z : List (maybe.Option (Option S)) × List (ℕ × Option S)). put_back z.0 z.1) (λ i. (a i, b i))

    pass_in : (s : St S) (r : TakesTurns loads terms s) (id n : ℕ) (me : Sat S) (whereabouts : Whereabouts S) → me.0.stage ≡ Added n → get_elem? s.views id ≡ some me.0 → OwnsTurn r.ticket r.serving r.count r.owner r.whereabouts id n → me.0.seen ≡ r.count → Bears loads me.0.seen me.1 → IsBack whereabouts →
        Slot loads s r.serving r.count (r.owner r.serving) (terms.loads + r.serving) whereabouts →
        TakesTurns loads terms (stepped s 1 ((get_or s.words 1 0 + 1) % 18446744073709551616) id me.1 (view me.0.left me.0.seen Idle) gives)
    pass_in s r id n me (resting x) is at turn known bears is_back h = absurd is_back
    pass_in s r id n me out is at turn known bears is_back h = absurd is_back
    pass_in s r id n me back is at turn known bears is_back h =
        let m : ℕ = get_or s.words 1 0 in
        let serves : m ≡ r.serving = ap (λ (l : List ℕ). get_or l 1 0) r.words in
        let w : View = view me.0.left me.0.seen Idle in
        let sum = allowances_set s.views id me.0 w at in let whole = r.sum in let bound = r.bound in let lt = turn.1 in let is_turn = turn.0 in let most = h.1 in
        let out_before = tickets_set s.views id me.0 w at in let one_before : tickets_of me.0.stage ≡ 1 = ap tickets_of is in let wait = r.waiting in
        let next : (m + 1) % 18446744073709551616 ≡ r.serving + 1 = omega arith in
        let mine : r.owner r.serving ≡ id = ap r.owner (sym turn.0) ∙ turn.2 in
        record {
          ticket = r.ticket;
          serving = r.serving + 1;
          count = r.count;
          owner = r.owner;
          whereabouts = resting bears.0;
          words = ap (λ (l : List ℕ). set l 1 ((m + 1) % 18446744073709551616)) r.words ∙ ap (λ (z : ℕ). r.ticket ∷ z ∷ r.count ∷ []) next;
          sum = omega arith;
          bound = r.bound;
          waiting = omega arith;
          once = λ k low high. drawn_set s.views id me.0 w (r.owner k) k at (λ z. let x : n ≡ k = ap number_in (sym (ap ticket_of is) ∙ z) in absurd (omega arith)) (r.once k (omega arith) high);
          each = seats_stay (λ j v. Knows r.ticket (r.serving + 1) r.count r.owner (resting bears.0) j v.seen v.stage) s.views id w (omega arith)
              (λ j d other a. later_turn r.ticket r.serving r.count r.owner r.whereabouts (resting bears.0) id j d.seen d.stage mine other (r.each j d a));
          slot = (put_in s.homes bears.0 me.1 h.0.empty bears.1, bears.2 ∙ known, omega arith);
        }

    pub passes : (slots id n : ℕ) (me : Sat S) → me.0.stage ≡ Added n → Bears loads me.0.seen me.1 → Allows (TakesTurns loads terms) slots id me 1 (λ n. (n + 1) % 2 ^ 64) (passed (step slots 1 1 0 none) me)
    passes slots id n me is bears s r deep at fits =
        let h = knows s r id me.0 (Added n) at is in (
          view me.0.left me.0.seen Idle,
          gives,
          tt,
          pass_in s r id n me r.whereabouts is at h.1 h.0 bears h.2 r.slot,
          refl,
        )

    -- the slot stays where each view that is not idle stays
    slot_moves : (s t : St S) (serving count j most : ℕ) (whereabouts : Whereabouts S) → s.homes ≡ t.homes → ((d : View) → get_elem? s.views j ≡ some d → d.stage ≢ Idle → get_elem? t.views j ≡ some d) →
        Slot loads s serving count j most whereabouts → Slot loads t serving count j most whereabouts
    slot_moves s t serving count j most (resting x) same stays h = (sym same ∙ h.0, h.1, h.2)
    slot_moves s t serving count j most out same stays h = (record { empty = sym same ∙ h.0.empty; left = h.0.left; seen = h.0.seen; holder = stays _ h.0.holder (λ e. let x : Holds serving ≡ Idle = e in cc) }, h.1)
    slot_moves s t serving count j most back same stays h = (record { empty = sym same ∙ h.0.empty; left = h.0.left; seen = h.0.seen; holder = stays _ h.0.holder (λ e. let x : Added serving ≡ Idle = e in cc) }, h.1)

    -- the views alone change
    reviewed : (s : St S) (r : TakesTurns loads terms s) (views : List View) → allowances views ≡ allowances s.views → tickets views ≡ tickets s.views →
        ((j n : ℕ) → HasDrawn s.views j n → HasDrawn views j n) → ((j : ℕ) (v : View) → get_elem? views j ≡ some v → Knows r.ticket r.serving r.count r.owner r.whereabouts j v.seen v.stage) →
        ((d : View) → get_elem? s.views (r.owner r.serving) ≡ some d → d.stage ≢ Idle → get_elem? views (r.owner r.serving) ≡ some d) → TakesTurns loads terms (record { words = s.words; homes = s.homes; views = views })
    reviewed s r views sum out_before drawn each stays = record {
      ticket = r.ticket;
      serving = r.serving;
      count = r.count;
      owner = r.owner;
      whereabouts = r.whereabouts;
      words = r.words;
      sum = ap (λ (z : ℕ). z + r.ticket) sum ∙ r.sum;
      bound = r.bound;
      waiting = ap (λ (z : ℕ). r.serving + z) out_before ∙ r.waiting;
      once = λ n low high. drawn (r.owner n) n (r.once n low high);
      each = each;
      slot = slot_moves s (record { words = s.words; homes = s.homes; views = views }) r.serving r.count (r.owner r.serving) (terms.loads + r.serving) r.whereabouts refl stays r.slot;
    }

    not_idle : (vs : List View) (i j : ℕ) (v d : View) → get_elem? vs i ≡ some v → v.stage ≡ Idle → get_elem? vs j ≡ some d → d.stage ≢ Idle → j ≢ i
    not_idle vs i j v d a idle b busy e = busy (same_stage vs j i d v b a e ∙ idle)

    pub splits : (id share : ℕ) (v : View) → v.stage ≡ Idle → share ≤ v.left → Splits (TakesTurns loads terms) id v (keeps_share share v) (gets_share share v)
    splits id share v idle le s r at =
        let left = keeps_share share v in let right = gets_share share v in
        let K : ℕ → View → Type 0 = λ j d. Knows r.ticket r.serving r.count r.owner r.whereabouts j d.seen d.stage in
        let known = knows s r id v Idle at idle in
        let sum = allowances_set s.views id v left at in let more = total_snoc (λ (d : View). d.left) (set s.views id left) right in
        let out_before = tickets_set s.views id v left at in let none_more = total_snoc (λ (d : View). tickets_of d.stage) (set s.views id left) right in
        reviewed s r (set s.views id left ++ right ∷ []) (omega arith) (omega arith)
        (λ j n h. drawn_longer (set s.views id left) (right ∷ []) j n (drawn_set s.views id v left j n at (λ z. z) h))
        (λ j d e. ⊎_elim (λ (a : get_elem? (set s.views id left) j ≡ some d). seats_stay K s.views id left (subst (λ (x : Stage). Knows r.ticket r.serving r.count r.owner r.whereabouts id v.seen x) (sym idle) known) (λ i x other b. r.each i x b) j d a)
        (λ (a : right ≡ d). subst (K j) a known) (at_snoc (set s.views id left) right d j e))
        (λ d a busy. at_longer (set s.views id left) (right ∷ []) (r.owner r.serving) d (set_else s.views id (r.owner r.serving) left (not_idle s.views id (r.owner r.serving) v d at idle a busy) ∙ a))

    pub joins : (id other : ℕ) (v w : View) → v.stage ≡ Idle → w.stage ≡ Idle → Joins (TakesTurns loads terms) id v other w (joined v w) nobody
    joins id other v w idle idle2 s r at apart at2 =
        let both = joined v w in
        let K : ℕ → View → Type 0 = λ j d. Knows r.ticket r.serving r.count r.owner r.whereabouts j d.seen d.stage in
        let there : get_elem? s.views other ≡ some w = sym (set_else s.views id other both apart) ∙ at2 in
        let known = knows s r id v Idle at idle in let known2 = knows s r other w Idle there idle2 in
        let sum = allowances_set s.views id v both at in let more = allowances_set (set s.views id both) other w nobody at2 in
        let most : greater v.seen w.seen ≤ r.count = greater_le v.seen w.seen r.count known known2 (nat_le v.seen w.seen) in
        let out_before = tickets_set s.views id v both at in let out_then = tickets_set (set s.views id both) other w nobody at2 in let none_before : tickets_of w.stage ≡ 0 = ap tickets_of idle2 in
        reviewed s r (set (set s.views id both) other nobody) (omega arith) (omega arith)
        (λ j n h. drawn_set (set s.views id both) other w nobody j n at2 (λ z. absurd (no_ticket w.stage n idle2 z)) (drawn_set s.views id v both j n at (λ z. z) h))
        (seats_stay K (set s.views id both) other nobody (omega arith)
        (λ j d out_of b. seats_stay K s.views id both (subst (λ (x : Stage). Knows r.ticket r.serving r.count r.owner r.whereabouts id (greater v.seen w.seen) x) (sym idle) most) (λ i x _ c. r.each i x c) j d b))
        (λ d a busy. set_else (set s.views id both) other (r.owner r.serving) nobody (not_idle s.views other (r.owner r.serving) w d there idle2 a busy)
        ∙ set_else s.views id (r.owner r.serving) both (not_idle s.views id (r.owner r.serving) v d at idle a busy) ∙ a)

    pub opens : (x : S) (words : List ℕ) (slots : List (Option S)) → words ≡ 0 ∷ 0 ∷ terms.loads ∷ [] → slots ≡ Some x ∷ [] → loads x ≡ terms.loads → terms.loads + terms.allowance < 18446744073709551616 → TakesTurns loads terms (opening words slots (first terms))
    opens x words slots a b n bound = record {
      ticket = 0;
      serving = 0;
      count = terms.loads;
      owner = λ _. 0;
      whereabouts = resting x;
      words = a;
      sum = omega arith;
      waiting = refl;
      once = λ n low high. absurd (omega arith);
      bound = bound;
      each = only;
      slot = (ap (λ (l : List (Option S)). map some l) b, n, omega arith);
    }
      where
        only : (j : ℕ) (v : View) → get_elem? (first terms ∷ []) j ≡ some v → Knows 0 0 terms.loads (λ _. 0) (resting x) j v.seen v.stage
        only zero v e = subst (λ (d : View). Knows 0 0 terms.loads (λ _. 0) (resting x) 0 d.seen d.stage) (some-injective (first terms) v e) (let y : terms.loads ≤ terms.loads = omega arith in y)
        only (suc j) v e = absurd (some-ne-none v (sym e))
