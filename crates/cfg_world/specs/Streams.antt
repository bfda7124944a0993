-- The text of a stream's fault.
use Rattle.std.specs.Prelude.{ℕ, List, codes}
use Rattle.cfg_world.specs.declared.streams.StreamFault.{StreamFault}
use Rattle.cfg_world.specs.declared.streams.StreamFault.TheVariants as fault

-- why a source gave nothing, or a sink took nothing
abbrev pub stream_fault_text : StreamFault → List ℕ
stream_fault_text fault.Failed = codes "the stream failed"
stream_fault_text fault.OutOfMemory = codes "out of memory"
