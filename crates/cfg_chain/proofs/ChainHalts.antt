-- A member of a chain stopped: at an open question, or out of memory.
use Rattle.std.proofs.Common.{ℕ, ◌<◌, List, Result, get_or, drop, length}
use Rattle.cfg_types.specs.declared.errors.ProviderAttempt.{ProviderAttempt}
use Rattle.cfg_world.specs.declared.asking.Asking.{Ghosts}
use Rattle.cfg_world.specs.declared.asking.Stop.{Stop}
use Rattle.cfg_world.specs.declared.asking.Stop.TheVariants.{Open, OutOfMemory}
use Rattle.cfg_kept.specs.Chains.{Chain, chain}
use Rattle.cfg_kept.specs.Holds.{Holdings, HoldsHalts}
use Rattle.cfg_kept.specs.KeptInquiry.{KeptInquiry}
use Rattle.cfg_kept.proofs.ChainSteps.{chain_waits, chain_breaks}
use Rattle.cfg_kept.proofs.HoldingSteps.{HoldsLeads}

pub chain_halts : {M V E W : Type 0} {w : Ghosts W} {old mid : W} {before between : Holdings} {tree : KeptInquiry (Result V E)}
    (c : Chain M V E) (members : List M) (i : ℕ) (d : M) (attempts : List (ProviderAttempt E)) (new : W) (later : Holdings) (stop : Stop) →
    HoldsLeads w tree old before mid between (chain c (drop i members) attempts) → i < length members → HoldsHalts w (c.tree (get_or members i d)) mid between new later stop → HoldsHalts w tree old before new later stop
chain_halts c members i d attempts new later Open leads lt h = chain_waits c members i d attempts leads lt h
chain_halts c members i d attempts new later OutOfMemory leads lt h = chain_breaks c members i d attempts leads lt h
