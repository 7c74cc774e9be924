-- A format of records after a header: the result and the commands of the bytes from an offset on.
use Rattle.std.specs.Prelude.{ℕ, ◌+◌, List, [], length, drop, nat_lt, Result, Err, if◌then◌else◌}
use Rattle.design_model.specs.declared.command.Command.{Command}
use Rattle.format_traits.specs.declared.fault.ReadFault.{ReadFault}
use Rattle.format_traits.specs.declared.fault.ReadFault.TheVariants as fault
use Rattle.format_traits.specs.declared.loaded.Loaded.{Loaded}
use Rattle.record_formats.specs.Readings.{loaded_with}
use Rattle.record_formats.specs.Records.{Records, file_commands, decoded_commands}
use Rattle.format_traits.specs.DecoderStates.{DecoderState}

-- The layout of a format: the header's length, the label and the threads that the header contains,
-- and the records from an offset of the file on.
pub record Layout : Type 0 where
  pub header : ℕ
  pub label : List ℕ → List ℕ
  pub threads : List ℕ → List ℕ
  pub records : ℕ → List ℕ → Records

-- The result of reading the bytes from the offset `at` on, by a layout.
abbrev pub layout_reads : Layout → ℕ → List ℕ → Result Loaded ReadFault
layout_reads layout at bytes =
    if nat_lt (length bytes) layout.header then Err (fault.Short (at + length bytes))
    else loaded_with (layout.label bytes) (layout.threads bytes)
    (file_commands (layout.records (at + layout.header) (drop layout.header bytes)))

-- The commands of the records that are complete in the bytes, before the end and before the first
-- refusal.
abbrev pub layout_decoded : Layout → ℕ → List ℕ → List Command
layout_decoded layout at bytes =
    if nat_lt (length bytes) layout.header then []
    else decoded_commands (layout.records (at + layout.header) (drop layout.header bytes))

-- The decoder state at the start of a file of this layout: the result and the commands as functions
-- of the bytes.
abbrev pub layout_state : Layout → DecoderState
layout_state layout = record { rest = layout_reads layout; decoded = layout_decoded layout }
