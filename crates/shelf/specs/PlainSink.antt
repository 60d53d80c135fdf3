-- What contracts see of the sink over a writer.
use Rattle.std.specs.Prelude.{ℕ}
use Rattle.shelf.specs.declared.plain_sink.PlainSink.{PlainSink}

-- how many faults came so far
abbrev pub fault_count : {W : Type 0} → PlainSink W → ℕ
fault_count sink = sink.faults

-- the writer
abbrev pub writer_of : {W : Type 0} → PlainSink W → W
writer_of sink = sink.out
