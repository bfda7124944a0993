-- Faults of one stretch after another.
use Rattle.std.proofs.Common.{◌≡◌, ℕ, ◌+◌, List, [], ◌∷◌, ◌++◌, sym, subst, arith, append_assoc, append-nil}
use Rattle.cfg_world.specs.Fits.{Pair}
use Rattle.cfg_world.specs.Faults.{Faults, Device, Files, Transport, Commands, LookUps, Rises, Counted, failures_in}
use Rattle.cfg_world.specs.Asked.{Same, StandsOn}

pub Same-refl : (a : List Pair → Type 0) → Same a a
Same-refl a = record { to = λ l h. h; from = λ l h. h }

pub Same-trans : {a b c : List Pair → Type 0} → Same a b → Same b c → Same a c
Same-trans p q = record { to = λ l h. q.to l (p.to l h); from = λ l h. p.from l (q.from l h) }

pub StandsOn-none : (s : List Pair → Type 0) → StandsOn s s []
StandsOn-none s entries h = subst s (sym (append-nil entries)) h

pub StandsOn-then : (a b c : List Pair → Type 0) (p q : List Pair) → StandsOn a b p → StandsOn b c q → StandsOn a c (p ++ q)
StandsOn-then a b c p q one other entries h = subst c (append_assoc entries p q) (other (entries ++ p) (one entries h))

-- a full count is a count of 64 bits
still : (n : ℕ) → Rises 0 n n
still n = record { later = omega arith; counted = omega arith }

pub Rises-trans : (m n a b c : ℕ) → Rises m a b → Rises n b c → Rises (m + n) a c
Rises-trans m n a b c p q = record { later = omega arith; counted = omega (arith, p.counted, q.counted, q.later) }

pub failures_in-append : (d : Device) (p q : List Pair) → failures_in d (p ++ q) ≡ failures_in d p + failures_in d q
failures_in-append d [] q = omega arith
failures_in-append d (e ∷ p) q = omega (arith, failures_in-append d p q)

pub Counted-none : (f : Faults) → Counted [] f f
Counted-none f = record { files = still f.files; transport = still f.transport; commands = still f.commands; lookups = still f.lookups }

rises_then : (d : Device) (p q : List Pair) (a b c : ℕ) → Rises (failures_in d p) a b → Rises (failures_in d q) b c → Rises (failures_in d (p ++ q)) a c
rises_then d p q a b c x y = subst (λ n. Rises n a c) (sym (failures_in-append d p q)) (Rises-trans (failures_in d p) (failures_in d q) a b c x y)

pub Counted-then : {p q : List Pair} {a b c : Faults} → Counted p a b → Counted q b c → Counted (p ++ q) a c
Counted-then {p} {q} {a} {b} {c} x y = record {
  files = rises_then Files p q a.files b.files c.files x.files y.files;
  transport = rises_then Transport p q a.transport b.transport c.transport x.transport y.transport;
  commands = rises_then Commands p q a.commands b.commands c.commands x.commands y.commands;
  lookups = rises_then LookUps p q a.lookups b.lookups c.lookups x.lookups y.lookups;
}
