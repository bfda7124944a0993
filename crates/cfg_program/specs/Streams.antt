-- What is seen of sources and sinks.
use Rattle.std.specs.Prelude.{◌≡◌, ℕ, List, ◌++◌, Option}
use Rattle.std.specs.Io.KnownBytes.{Appends}
use Rattle.cfg_world.specs.declared.streams.Source.{Ghosts as SourceGhosts}
use Rattle.cfg_world.specs.declared.streams.Sink.{Ghosts as SinkGhosts}

-- a prefix of the bytes was written
abbrev pub GrowsByPrefix : Option (List ℕ) → Option (List ℕ) → List ℕ → Type 0
GrowsByPrefix before after bytes = (prefix : List ℕ) × (rest : List ℕ) × (bytes ≡ prefix ++ rest) × Appends before after prefix

-- what was seen of a source, before and after
pub record SourceSeen : Type 0 where
  pub left : Option (List ℕ)
  pub left_after : Option (List ℕ)
  pub faults : ℕ
  pub faults_after : ℕ

abbrev pub source_seen : {S : Type 0} → SourceGhosts S → S → S → SourceSeen
source_seen s before after = record { left = s.left before; left_after = s.left after; faults = s.faults before; faults_after = s.faults after }

-- what was seen of a sink
pub record SinkSeen : Type 0 where
  pub written : Option (List ℕ)
  pub written_after : Option (List ℕ)
  pub faults : ℕ
  pub faults_after : ℕ

abbrev pub sink_seen : {K : Type 0} → SinkGhosts K → K → K → SinkSeen
sink_seen k before after = record { written = k.written before; written_after = k.written after; faults = k.faults before; faults_after = k.faults after }
