-- The rule of the lock, and what each step tells.
use Rattle.std.specs.Prelude.{◌≡◌, ◌≢◌, ℕ, ◌+◌, ◌-◌, ◌<◌, ◌≤◌, List, [], ◌∷◌, Option, Some, None, nat_le, if◌then◌else◌}
use mathlib.Core.Option.{some, none}
use lib.ListN.{get_elem?}
use Rattle.atomic_table.specs.Table.{State, Me, Step, rest}
use Rattle.atomic_table.specs.Seated.{TableId}
use Rattle.cfg_gate.specs.declared.rule.Stage.{Stage}
use Rattle.cfg_gate.specs.declared.rule.Stage.TheVariants.{Idle, Waits, Turn, Holds, Added}
use Rattle.cfg_gate.specs.declared.rule.View.{View}
use Rattle.cfg_gate.specs.declared.rule.Terms.{Terms}

abbrev pub view : ℕ → ℕ → Stage → View
view left seen stage = record { left = left; seen = seen; stage = stage }

abbrev pub first : Terms → View
first t = view t.allowance t.loads Idle

-- the ticket of a caller that drew one
abbrev pub ticket_of : Stage → Option ℕ
ticket_of Idle = None
ticket_of (Waits n) = Some n
ticket_of (Turn n) = Some n
ticket_of (Holds n) = Some n
ticket_of (Added n) = Some n

abbrev pub ticket_or_first : Stage → ℕ
ticket_or_first Idle = 0
ticket_or_first (Waits n) = n
ticket_or_first (Turn n) = n
ticket_or_first (Holds n) = n
ticket_or_first (Added n) = n

-- how many tickets it has, 0 or 1
abbrev pub tickets_of : Stage → ℕ
tickets_of Idle = 0
tickets_of (Waits n) = 1
tickets_of (Turn n) = 1
tickets_of (Holds n) = 1
tickets_of (Added n) = 1

-- it has the turn: it found its ticket served, and has not passed on
abbrev pub HasTurn : Stage → Type 0
HasTurn Idle = ⊥
HasTurn (Waits n) = ⊥
HasTurn (Turn n) = Unit {0}
HasTurn (Holds n) = Unit {0}
HasTurn (Added n) = Unit {0}

-- a number of each view, added up
abbrev pub total : (View → ℕ) → List View → ℕ
total f [] = 0
total f (v ∷ vs) = f v + total f vs

abbrev pub allowances : List View → ℕ
allowances = total (λ v. v.left)

abbrev pub tickets : List View → ℕ
tickets = total (λ v. tickets_of v.stage)

-- The seat j has drawn this ticket.
abbrev pub HasDrawn : List View → ℕ → ℕ → Type 0
HasDrawn views j n = (v : View) × (get_elem? views j ≡ some v) × (ticket_of v.stage ≡ Some n)

-- where the state is: in the slot, out with the caller that has the turn, or out with its section's loads counted
pub data Whereabouts (S : Type 0) : Type 0 where
  resting : (state : S) → Whereabouts S
  out : Whereabouts S
  back : Whereabouts S

abbrev pub Sat : Type 0 → Type 0
Sat S = Me (Option S) View

abbrev pub At : Type 0 → Type 0
At S = Step (Option S)

abbrev pub St : Type 0 → Type 0
St S = State (Option S) View

module _ {S : Type 0} where
  abbrev pub IsResting : Whereabouts S → Type 0
  IsResting (resting x) = Unit {0}
  IsResting out = ⊥
  IsResting back = ⊥

  abbrev pub IsOut : Whereabouts S → Type 0
  IsOut (resting x) = ⊥
  IsOut out = Unit {0}
  IsOut back = ⊥

  abbrev pub IsBack : Whereabouts S → Type 0
  IsBack (resting x) = ⊥
  IsBack out = ⊥
  IsBack back = Unit {0}

  -- What a seat knows, by its view. The owner of a ticket is the seat that drew it, so that no two have one.
  module _ (ticket serving count : ℕ) (owner : ℕ → ℕ) (whereabouts : Whereabouts S) where
    abbrev pub OwnsTurn : ℕ → ℕ → Type 0
    OwnsTurn j n = (n ≡ serving) × (n < ticket) × (owner n ≡ j)

    abbrev pub Knows : ℕ → ℕ → Stage → Type 0
    Knows j seen Idle = seen ≤ count
    Knows j seen (Waits n) = (seen ≤ count) × (serving ≤ n) × (n < ticket) × (owner n ≡ j)
    Knows j seen (Turn n) = (seen ≤ count) × OwnsTurn j n × IsResting whereabouts
    Knows j seen (Holds n) = (seen ≡ count) × OwnsTurn j n × IsOut whereabouts
    Knows j seen (Added n) = (seen ≡ count) × OwnsTurn j n × IsBack whereabouts

  module _ (loads : S → ℕ) where
    -- The slot is empty, and the seat has the turn.
    pub record IsHeld (s : St S) (j : ℕ) (stage : Stage) : Type 0 where
      pub empty : s.homes ≡ none ∷ []
      pub left : ℕ
      pub seen : ℕ
      pub holder : get_elem? s.views j ≡ some (view left seen stage)

    -- what is in the slot, and how high the count may be, after so many loads at most before this turn
    abbrev pub Slot : St S → ℕ → ℕ → ℕ → ℕ → Whereabouts S → Type 0
    Slot s serving count holder most (resting x) = (s.homes ≡ some (Some x) ∷ []) × (loads x ≡ count) × (count ≤ most)
    Slot s serving count holder most out = IsHeld s holder (Holds serving) × (count ≤ most)
    Slot s serving count holder most back = IsHeld s holder (Added serving) × (count ≤ most + 1)

    pub record TakesTurns (terms : Terms) (s : St S) : Type 0 where
      pub ticket : ℕ
      pub serving : ℕ
      pub count : ℕ
      pub owner : ℕ → ℕ
      pub whereabouts : Whereabouts S
      pub words : s.words ≡ ticket ∷ serving ∷ count ∷ []
      -- No word wraps: the allowances that are left and the tickets that were drawn are the first allowance.
      pub sum : allowances s.views + ticket ≡ terms.allowance
      pub bound : terms.loads + terms.allowance < 18446744073709551616
      -- The tickets from the one that is served on are out, each once.
      pub waiting : serving + tickets s.views ≡ ticket
      pub once : (n : ℕ) → serving ≤ n → n < ticket → HasDrawn s.views (owner n) n
      pub each : (j : ℕ) (v : View) → get_elem? s.views j ≡ some v → Knows ticket serving count owner whereabouts j v.seen v.stage
      pub slot : Slot s serving count (owner serving) (terms.loads + serving) whereabouts

    -- the state is out with the caller, and has so many loads
    abbrev pub Bears : ℕ → List (ℕ × Option S) → Type 0
    Bears n c = (x : S) × (c ≡ (0, Some x) ∷ []) × (loads x ≡ n)

    -- in its turn a caller has the state, whose loads are the count, which is at least what it had seen
    abbrev pub taken : At S → Sat S → ℕ → Sat S → Type 0
    taken st m r m' = (m.0.seen ≤ r) × (m'.0 ≡ view m.0.left r (Holds (ticket_or_first m.0.stage))) × (x : S) × (m'.1 ≡ (0, Some x) ∷ m.1) × (loads x ≡ r)

  abbrev pub drawn : At S → Sat S → ℕ → Sat S → Type 0
  drawn st m n m' = m' ≡ (view (m.0.left - 1) m.0.seen (Waits n), m.1)

  abbrev pub looked : At S → Sat S → ℕ → Sat S → Type 0
  looked st m r m' =
      (r ≡ ticket_or_first m.0.stage → m' ≡ (view m.0.left m.0.seen (Turn r), m.1))
      × (r ≢ ticket_or_first m.0.stage → m' ≡ m)

  -- nothing changed, and the allowance fits a word
  abbrev pub fitted : At S → Sat S → ℕ → Sat S → Type 0
  fitted st m r m' = (m' ≡ m) × (m.0.left < 18446744073709551616)

  -- the loads of the section were counted, and the count fits a word
  abbrev pub added : At S → Sat S → ℕ → Sat S → Type 0
  added st m r m' = (m' ≡ (view m.0.left (m.0.seen + st.first) (Added (ticket_or_first m.0.stage)), m.1)) × (m.0.seen + st.first < 18446744073709551616)

  -- the turn was passed on, and the state given back
  abbrev pub passed : At S → Sat S → ℕ → Sat S → Type 0
  passed st m r m' = m' ≡ (view m.0.left m.0.seen Idle, rest m.1)

abbrev pub IsSized : TableId → Type 0
IsSized z = (z.words ≡ 3) × (z.slots ≡ 1)

-- a share of a caller's allowance goes to another caller, that has seen as much
abbrev pub keeps_share : ℕ → View → View
keeps_share share v = view (v.left - share) v.seen v.stage

abbrev pub gets_share : ℕ → View → View
gets_share share v = view share v.seen Idle

abbrev pub greater : ℕ → ℕ → ℕ
greater a b = if nat_le a b then b else a

-- the greatest of a number and others
abbrev pub greatest : ℕ → List ℕ → ℕ
greatest n [] = n
greatest n (m ∷ ms) = greatest (greater n m) ms

-- two callers become one
abbrev pub joined : View → View → View
joined v w = view (v.left + w.left) (greater v.seen w.seen) v.stage

abbrev pub nobody : View
nobody = view 0 0 Idle
