-- Sinks in memory: the bytes taken, the room for them, the numbers of the puts that shall fail, and
-- the counts of puts and faults.
use Rattle.std.specs.Prelude.{◌≡◌, ℕ, ◌+◌, Bool, true, false, ◌||◌, List, [], ◌∷◌, ◌++◌, length, Some, Result, Ok, Err, nat_lt}
use Rattle.outside_io.specs.declared.store.Failed.{Failed}
use Rattle.outside_io.specs.Counts.{next_count}
use Rattle.outside_io.specs.MemStores.{is_next_call_listed}
use Rattle.outside_io.specs.Views.{SinkView}

-- A sink: the bytes and their room, the numbers of the puts that shall fail, and the counts of puts
-- and faults.
pub record MemSinkValue : Type 0 where
  pub bytes : List ℕ
  pub room : ℕ
  pub failing : List ℕ
  pub calls : ℕ
  pub faults : ℕ

-- The view of a sink: all its bytes, and its fault count.
abbrev pub sink_view : MemSinkValue → SinkView
sink_view sink = record { taken = Some sink.bytes; faults = sink.faults }

-- The sink without bytes, faults and puts that shall fail.
abbrev pub empty_sink : ℕ → MemSinkValue
empty_sink room = record { bytes = []; room = room; failing = []; calls = 0; faults = 0 }

-- The sink after a number was added to those of the puts that shall fail.
abbrev pub put_failure_added : MemSinkValue → ℕ → MemSinkValue
put_failure_added sink call = record sink { failing = sink.failing ++ call ∷ [] }

-- The test whether the next put fails: its number is listed, or the bytes exceed the room.
abbrev pub put_fails : MemSinkValue → List ℕ → Bool
put_fails sink bytes =
    is_next_call_listed sink.failing sink.calls
    || nat_lt sink.room (length sink.bytes + length bytes)

-- The results of a put. A failed put adds nothing.
abbrev pub MemPuts : {T : Type 0} → MemSinkValue → MemSinkValue → List ℕ → Result T Failed → Type 0
MemPuts old new bytes (Ok _) =
    (put_fails old bytes ≡ false)
    × (new ≡ record old { bytes = old.bytes ++ bytes; calls = next_count old.calls })
MemPuts old new bytes (Err _) =
    (put_fails old bytes ≡ true)
    × (new ≡ record old { calls = next_count old.calls; faults = next_count old.faults })
