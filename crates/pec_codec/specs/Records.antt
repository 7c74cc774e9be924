-- The records of a PEC block: moves of two coordinates, stops, and the end. An incomplete record at
-- the end of the bytes is none.
use Rattle.std.specs.Prelude.{ℕ, zero, suc, ◌+◌, ◌-◌, Bool, true, false, ◌&&◌, ◌||◌, List, [], ◌∷◌, drop, Option, Some, None, ◌==◌, if◌then◌else◌}
use Rattle.design_model.specs.declared.point.Point.{Point}
use Rattle.record_formats.specs.declared.event.Event.{Event}
use Rattle.record_formats.specs.declared.event.Event.TheVariants as event
use Rattle.record_formats.specs.declared.record_reader.NextRecord.{NextRecord}
use Rattle.record_formats.specs.declared.record_reader.NextRecord.TheVariants as cut
use Rattle.record_formats.specs.Records.{Records, over, refused, next}
use Rattle.pec_codec.specs.declared.coordinate.Coordinate.{Coordinate}
use Rattle.pec_codec.specs.Coordinates.{leading_coordinate}

-- The move of two coordinates.
abbrev pub pec_move_of : Coordinate → Coordinate → Point
pec_move_of x y = record { x = x.number; y = y.number }

-- The event of a move: a mark in either coordinate counts, and the mark of a jump is tested before
-- that of a trim.
abbrev pub event_of_pair : Coordinate → Coordinate → Event
event_of_pair x y =
    if x.jumps || y.jumps then event.Jump (pec_move_of x y)
    else (if x.trims || y.trims then event.TrimmedJump (pec_move_of x y)
    else event.Stitch (pec_move_of x y))

-- The record of two coordinates, where the second is complete.
abbrev pub pair_record_in : Coordinate → Option Coordinate → NextRecord
pair_record_in x None = cut.Incomplete false
pair_record_in x (Some y) = cut.Record (event_of_pair x y) (x.size + y.size)

-- The record of a move at the beginning of bytes, where both coordinates are complete.
abbrev pub move_record_in : Option Coordinate → List ℕ → NextRecord
move_record_in None bytes = cut.Incomplete false
move_record_in (Some x) bytes = pair_record_in x (leading_coordinate (drop x.size bytes))

-- The record of a stop at the beginning of bytes. The third byte may be any.
abbrev pub stop_record_in : List ℕ → NextRecord
stop_record_in (first ∷ second ∷ third ∷ rest) = cut.Record event.Stop 3
stop_record_in _ = cut.Incomplete false

-- True where bytes begin with the two bytes of a stop.
abbrev pub starts_with_stop : List ℕ → Bool
starts_with_stop (first ∷ second ∷ rest) = first == 254 && second == 176
starts_with_stop _ = false

-- True where bytes begin with the byte of the end.
abbrev pub starts_with_end : List ℕ → Bool
starts_with_end [] = false
starts_with_end (first ∷ rest) = first == 255

-- The record at the beginning of bytes.
abbrev pub next_record_in : List ℕ → NextRecord
next_record_in bytes =
    if starts_with_end bytes then cut.End
    else (if starts_with_stop bytes then stop_record_in bytes
    else move_record_in (leading_coordinate bytes) bytes)

-- The number of bytes of a record after its first.
abbrev pub length_after_first : NextRecord → ℕ
length_after_first cut.End = 0
length_after_first (cut.Incomplete ended) = 0
length_after_first (cut.Refused f) = 0
length_after_first (cut.Record event size) = size - 1

-- A record at an offset, and the records after it.
abbrev pub with_next_record : NextRecord → ℕ → Records → Records
with_next_record cut.End at rest = over true
with_next_record (cut.Incomplete ended) at rest = over ended
with_next_record (cut.Refused f) at rest = refused f
with_next_record (cut.Record event size) at rest = next at event rest

-- The records from an offset on, where the first `behind` bytes belong to the record before.
abbrev pub records_after_skip : ℕ → ℕ → List ℕ → Records
records_after_skip behind at [] = over false
records_after_skip (suc behind) at (byte ∷ rest) = records_after_skip behind (at + 1) rest
records_after_skip zero at (byte ∷ rest) =
    let cut = next_record_in (byte ∷ rest) in
    with_next_record cut at (records_after_skip (length_after_first cut) (at + 1) rest)

-- The records from an offset on.
abbrev pub pec_records : ℕ → List ℕ → Records
pec_records at bytes = records_after_skip 0 at bytes
