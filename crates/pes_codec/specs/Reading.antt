-- The results of reading PEC and PES files: those of the block in the file.
use Rattle.std.specs.Prelude.{ℕ, List, [], length, nat_lt, Result, Err, if◌then◌else◌}
use Rattle.design_model.specs.declared.command.Command.{Command}
use Rattle.design_model.specs.declared.point.Point.{Point}
use Rattle.format_traits.specs.declared.fault.ReadFault.{ReadFault}
use Rattle.format_traits.specs.declared.loaded.Loaded.{Loaded}
use Rattle.record_formats.specs.Layouts.{layout_decoded, layout_reads}
use Rattle.pec_codec.specs.Reading.{pec_block_layout, pec_block_moves}
use Rattle.pes_codec.specs.declared.file_kind.FileKind.{FileKind}
use Rattle.pes_codec.specs.Fronts.{from_front, front_layout_of}

-- The result of reading a file.
abbrev pub file_reads : FileKind → List ℕ → Result Loaded ReadFault
file_reads kind bytes = from_front Err (layout_reads pec_block_layout) (front_layout_of kind) bytes

-- The commands of a file's records that are complete in the bytes.
abbrev pub file_shown : FileKind → List ℕ → List Command
file_shown kind bytes = from_front (λ _. []) (layout_decoded pec_block_layout)
    (front_layout_of kind) bytes

-- The moves of a file's records, before its end or its first refusal.
abbrev pub file_moves : FileKind → List ℕ → List Point
file_moves kind bytes = let front = front_layout_of kind in
    if front.known bytes
    then (if nat_lt (length bytes) front.length then []
    else pec_block_moves (front.block bytes) bytes) else []
