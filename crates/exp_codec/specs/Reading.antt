-- The result of reading an EXP file: its units. The file has no header, no label and no threads.
use Rattle.std.specs.Prelude.{ℕ, List, [], Result}
use Rattle.design_model.specs.declared.command.Command.{Command}
use Rattle.design_model.specs.declared.point.Point.{Point}
use Rattle.format_traits.specs.declared.fault.ReadFault.{ReadFault}
use Rattle.format_traits.specs.declared.loaded.Loaded.{Loaded}
use Rattle.record_formats.specs.Layouts.{Layout, layout_decoded, layout_reads}
use Rattle.record_formats.specs.Records.{moves_of_records}
use Rattle.exp_codec.specs.Units.{units_from}

-- The layout of an EXP file: units without a header.
abbrev pub exp_layout : Layout
exp_layout = record { header = 0; label = λ bytes. []; threads = λ bytes. []; records = units_from }

-- The result of reading an EXP file.
abbrev pub exp_reads : List ℕ → Result Loaded ReadFault
exp_reads bytes = layout_reads exp_layout 0 bytes

-- The commands of the units that are complete in the bytes of an EXP file.
abbrev pub exp_shown : List ℕ → List Command
exp_shown bytes = layout_decoded exp_layout 0 bytes

-- The moves of an EXP file's units, before its end or its first refusal.
abbrev pub exp_moves : List ℕ → List Point
exp_moves bytes = moves_of_records (units_from 0 bytes)
