-- Sinks in memory that grow: the bytes taken, and the count of puts that failed.
use Rattle.std.specs.Prelude.{ℕ, List, [], Some}
use Rattle.outside_io.specs.Views.{SinkView}

-- A sink: its bytes and its fault count.
pub record GrowingSinkValue : Type 0 where
  pub bytes : List ℕ
  pub faults : ℕ

-- The view of a sink: all its bytes, and its fault count.
abbrev pub growing_view : GrowingSinkValue → SinkView
growing_view sink = record { taken = Some sink.bytes; faults = sink.faults }

-- The sink without bytes and faults.
abbrev pub empty_growing_sink : GrowingSinkValue
empty_growing_sink = record { bytes = []; faults = 0 }
