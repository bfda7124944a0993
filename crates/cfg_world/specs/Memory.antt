-- Sources and sinks in memory.
use Rattle.std.specs.Prelude.{ℕ, ◌+◌, min, Bool, List, drop, nat_eq}
use Rattle.std.specs.List.{list_any}
use Rattle.cfg_world.specs.declared.streams.memory.MemorySource.{MemorySource}
use Rattle.cfg_world.specs.declared.streams.memory.MemorySink.{MemorySink}
use Rattle.cfg_world.specs.Faults.{full_count}

-- the numbers of the calls that fail, how many bytes a call gives or takes at most, and how many
-- calls there were
pub record Pieces : Type 0 where
  pub failing : List ℕ
  pub most : ℕ
  pub calls : ℕ

-- the number of the next call, counted from 1; a number that is full stands still
abbrev pub next_call : Pieces → ℕ
next_call p = min (p.calls + 1) full_count

-- one call more
abbrev pub called : Pieces → Pieces
called p = record p { calls = next_call p }

-- the next call is one of those that fail
abbrev pub fails_next : Pieces → Bool
fails_next p = list_any (λ n. nat_eq n (next_call p)) p.failing

-- the bytes that are left
abbrev pub source_left : MemorySource → List ℕ
source_left s = drop s.at s.bytes.items

-- how a source gives its bytes, and how often it was called
abbrev pub source_pieces : MemorySource → Pieces
source_pieces s = record { failing = s.failing.items; most = s.piece; calls = s.calls }

-- how often it has failed
abbrev pub source_faults : MemorySource → ℕ
source_faults s = s.faults

-- the bytes that were taken
abbrev pub sink_written : MemorySink → List ℕ
sink_written s = s.bytes.items

-- how a sink takes bytes, and how often it was called
abbrev pub sink_pieces : MemorySink → Pieces
sink_pieces s = record { failing = s.failing.items; most = s.piece; calls = s.calls }

-- how often it has failed
abbrev pub sink_faults : MemorySink → ℕ
sink_faults s = s.faults
