-- The standard library's readers and writers as sources and sinks.
use Rattle.std.specs.Prelude.{ℕ}
use Rattle.cfg_world.specs.declared.streams.adapters.ReaderSource.{ReaderSource}
use Rattle.cfg_world.specs.declared.streams.adapters.WriterSink.{WriterSink}

-- the reader that a source reads from
abbrev pub reader_of : {R : Type 0} → ReaderSource R → R
reader_of s = s.reader

-- how often it has failed
abbrev pub reader_faults : {R : Type 0} → ReaderSource R → ℕ
reader_faults s = s.faults

-- the writer that a sink writes to
abbrev pub writer_of : {W : Type 0} → WriterSink W → W
writer_of s = s.writer

-- how often it has failed, or taken nothing of something
abbrev pub writer_faults : {W : Type 0} → WriterSink W → ℕ
writer_faults s = s.faults
