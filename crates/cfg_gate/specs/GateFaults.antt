-- The texts of a gate's faults.
use Rattle.std.specs.Prelude.{List, ℕ, codes}
use Rattle.cfg_gate.specs.declared.answer.GateFault.{GateFault}
use Rattle.cfg_gate.specs.declared.answer.GateFault.TheVariants.{Spent, OutOfMemory}

abbrev pub fault_text : GateFault → List ℕ
fault_text Spent = codes "the allowance is spent"
fault_text OutOfMemory = codes "out of memory"
