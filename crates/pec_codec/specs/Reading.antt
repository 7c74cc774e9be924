-- The result of reading the PEC block at an offset of a file.
use Rattle.std.specs.Prelude.{ℕ, ◌+◌, List, [], length, drop, nat_lt, Result, Err, if◌then◌else◌}
use Rattle.design_model.specs.declared.command.Command.{Command}
use Rattle.design_model.specs.declared.point.Point.{Point}
use Rattle.format_traits.specs.declared.fault.ReadFault.{ReadFault}
use Rattle.format_traits.specs.declared.fault.ReadFault.TheVariants as fault
use Rattle.format_traits.specs.declared.loaded.Loaded.{Loaded}
use Rattle.record_formats.specs.Layouts.{Layout, layout_decoded, layout_reads}
use Rattle.record_formats.specs.Records.{Records, moves_of_records}
use Rattle.pec_codec.specs.declared.block.TheConstants.{HEADER_LENGTH}
use Rattle.pec_codec.specs.Header.{pec_label_of, threads_in}
use Rattle.pec_codec.specs.Records.{pec_records}

-- The layout of a PEC block: a header with the label and the threads, and the records after it.
abbrev pub pec_block_layout : Layout
pec_block_layout = record {
  header = HEADER_LENGTH;
  label = pec_label_of;
  threads = threads_in;
  records = pec_records;
}

-- The result of reading the block at an offset. A file that ends before the offset is too short.
-- Refusals report offsets of the file.
abbrev pub pec_block_reads : ℕ → List ℕ → Result Loaded ReadFault
pec_block_reads at bytes =
    if nat_lt (length bytes) at then Err (fault.Short (length bytes))
    else layout_reads pec_block_layout at (drop at bytes)

-- The commands of the block's records that are complete in the bytes.
abbrev pub pec_block_shown : ℕ → List ℕ → List Command
pec_block_shown at bytes = if nat_lt (length bytes) at then [] else layout_decoded pec_block_layout
    at (drop at bytes)

-- The records of the block at an offset.
abbrev pub pec_block_records : ℕ → List ℕ → Records
pec_block_records at bytes = pec_records (at + HEADER_LENGTH) (drop (at + HEADER_LENGTH) bytes)

-- The moves of the block's records, before its end or its first refusal.
abbrev pub pec_block_moves : ℕ → List ℕ → List Point
pec_block_moves at bytes = moves_of_records (pec_block_records at bytes)
