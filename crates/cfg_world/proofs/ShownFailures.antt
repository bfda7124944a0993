-- The failures that a journal shows are counted.
use Rattle.std.proofs.Common.{◌≡◌, List, ◌++◌, sym, subst, arith}
use Rattle.cfg_world.specs.Fits.{Pair}
use Rattle.cfg_world.specs.Faults.{Device, Files, Transport, Commands, LookUps, Rises, Counted, failures_in}
use Rattle.cfg_world.specs.Replayed.{shown_failures}
use Rattle.cfg_world.proofs.Counts.{failures_in-append}

rises_by : (d : Device) (journal part : List Pair) → Rises (failures_in d part) (failures_in d journal) (failures_in d (journal ++ part))
rises_by d journal part = record { later = omega (arith, failures_in-append d journal part); counted = omega (arith, failures_in-append d journal part) }

pub shown_more : (journal part next : List Pair) → next ≡ journal ++ part → Counted part (shown_failures journal) (shown_failures next)
shown_more journal part next e = subst (λ n. Counted part (shown_failures journal) (shown_failures n)) (sym e) (record {
  files = rises_by Files journal part;
  transport = rises_by Transport journal part;
  commands = rises_by Commands journal part;
  lookups = rises_by LookUps journal part;
})
