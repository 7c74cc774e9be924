-- The result of reading a DST file: the records after its header. A fold over the records counts
-- the jump records in the unbroken run before each, up to three.
use Rattle.std.specs.Prelude.{ℕ, ◌+◌, min, true, false, nat_eq, List, [], ◌∷◌, take, drop, Result, ◌==◌, codes, if◌then◌else◌}
use Rattle.std.specs.List.{starts_with}
use Rattle.design_model.specs.declared.command.Command.{Command}
use Rattle.design_model.specs.declared.design.TheConstants.{MAX_LABEL}
use Rattle.design_model.specs.declared.point.Point.{Point}
use Rattle.record_formats.specs.declared.event.Event.{Event}
use Rattle.record_formats.specs.declared.event.Event.TheVariants as event
use Rattle.format_traits.specs.declared.fault.ReadFault.{ReadFault}
use Rattle.format_traits.specs.declared.fault.ReadFault.TheVariants as fault
use Rattle.format_traits.specs.declared.loaded.Loaded.{Loaded}
use Rattle.format_traits.specs.LabelFields.{label_in}
use Rattle.record_formats.specs.Layouts.{Layout, layout_decoded, layout_reads}
use Rattle.record_formats.specs.Records.{Records, moves_of_records, over, refused, next}
use Rattle.dst_codec.specs.declared.header.TheConstants.{HEADER_LENGTH}
use Rattle.dst_codec.specs.declared.record_kind.RecordKind.{RecordKind}
use Rattle.dst_codec.specs.declared.record_kind.RecordKind.TheVariants as kind
use Rattle.dst_codec.specs.Bits.{dst_move_of, kind_of}

-- The event of a jump record after `run` others in an unbroken run: the third is read as a trim and
-- the jump.
abbrev pub jump_event_after : ℕ → Point → Event
jump_event_after run m = if run == 2 then event.TrimmedJump m else event.Jump m

-- A record of a kind, with its offset, the run before it, its move and the records after it.
abbrev pub record_of_kind : RecordKind → ℕ → ℕ → Point → Records → Records
record_of_kind kind.Stitch at run m rest = next at (event.Stitch m) rest
record_of_kind kind.Jump at run m rest = next at (jump_event_after run m) rest
record_of_kind kind.Stop at run m rest = next at (event.StopBy m) rest
record_of_kind kind.Sequin at run m rest = refused (fault.Sequin at)
record_of_kind kind.End at run m rest = over true

-- The run of jump records after a record of that kind.
abbrev pub run_after_kind : RecordKind → ℕ → ℕ
run_after_kind kind.Stitch run = 0
run_after_kind kind.Jump run = min (run + 1) 3
run_after_kind kind.Stop run = 0
run_after_kind kind.Sequin run = 0
run_after_kind kind.End run = 0

-- The records from an offset on, after a run of jump records. One or two bytes at the end are no
-- record.
abbrev pub dst_records_from : ℕ → ℕ → List ℕ → Records
dst_records_from run at (a ∷ b ∷ c ∷ rest) =
    record_of_kind (kind_of c) at run (dst_move_of a b c)
    (dst_records_from (run_after_kind (kind_of c) run) (at + 3) rest)
dst_records_from run at _ = over false

-- The records after a file's header.
abbrev pub dst_records_in : List ℕ → Records
dst_records_in bytes = dst_records_from 0 HEADER_LENGTH (drop HEADER_LENGTH bytes)

-- The label of a header that begins with `LA:`; else no label.
abbrev pub dst_label_of : List ℕ → List ℕ
dst_label_of bytes =
    if starts_with nat_eq bytes (codes "LA:") then label_in (take MAX_LABEL (drop 3 bytes)) else []

-- The layout of a DST file: a header with the label, and the records after it.
abbrev pub dst_layout : Layout
dst_layout = record {
  header = HEADER_LENGTH;
  label = dst_label_of;
  threads = λ bytes. [];
  records = dst_records_from 0;
}

-- The result of reading a DST file.
abbrev pub dst_reads : List ℕ → Result Loaded ReadFault
dst_reads bytes = layout_reads dst_layout 0 bytes

-- The commands of the records that are complete in the bytes of a DST file.
abbrev pub dst_shown : List ℕ → List Command
dst_shown bytes = layout_decoded dst_layout 0 bytes

-- The moves of a DST file's records, before its end or its first refusal.
abbrev pub dst_moves : List ℕ → List Point
dst_moves bytes = moves_of_records (dst_records_in bytes)
