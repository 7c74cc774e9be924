-- The state of a decoder of records: the design so far, the hoop's position and the stage, as
-- functions of the remaining bytes.
use Rattle.std.specs.Prelude.{ℕ, true, List, [], ◌++◌, length, Result, Ok, Err}
use Rattle.design_model.specs.declared.command.Command.{Command}
use Rattle.design_model.specs.declared.point.Point.{Point}
use Rattle.design_model.specs.Designs.{DesignValue}
use Rattle.format_traits.specs.declared.fault.ReadFault.{ReadFault}
use Rattle.format_traits.specs.declared.fault.ReadFault.TheVariants as fault
use Rattle.format_traits.specs.declared.loaded.Loaded.{Loaded}
use Rattle.record_formats.specs.declared.record_stage.RecordStage.{RecordStage}
use Rattle.record_formats.specs.declared.record_stage.RecordStage.TheVariants as stage
use Rattle.record_formats.specs.Layouts.{Layout, layout_decoded, layout_reads}
use Rattle.record_formats.specs.Readings.{with_commands_before, loaded_with}
use Rattle.record_formats.specs.Records.{Records, decoded_commands_from, file_commands_from}
use Rattle.format_traits.specs.DecoderStates.{DecodedSoFar, DecoderState}

-- The result of the remaining records after a design that was read up to a position.
abbrev pub rest_after_design : DesignValue → Point → Records → Result Loaded ReadFault
rest_after_design d place records = loaded_with d.label d.threads
    (with_commands_before d.commands (file_commands_from (length d.commands) place records))

-- The commands of a design that was read up to a position, and those of the remaining records.
abbrev pub decoded_after_design : DesignValue → Point → Records → List Command
decoded_after_design d place records = d.commands ++ decoded_commands_from (length d.commands) place
    records

-- The result of the file at a stage, as a function of the remaining bytes.
abbrev pub record_rest_at : Layout → (ℕ → List ℕ → Records) → DesignValue → Point → RecordStage → ℕ
    → List ℕ
    → Result Loaded ReadFault
record_rest_at layout records d place (stage.Header end) at bytes = layout_reads layout at bytes
record_rest_at layout records d place (stage.Records ended) at bytes = rest_after_design d place
    (records at bytes)
record_rest_at layout records d place stage.Over at bytes = Ok (record { design = d; ended = true })
record_rest_at layout records d place (stage.Refused f) at bytes = Err f

-- The commands of the file at a stage, as a function of the remaining bytes.
abbrev pub record_decoded_at : Layout → (ℕ → List ℕ → Records) → DesignValue → Point → RecordStage
    → ℕ → List ℕ
    → List Command
record_decoded_at layout records d place (stage.Header end) at bytes = layout_decoded layout at
    bytes
record_decoded_at layout records d place (stage.Records ended) at bytes = decoded_after_design d
    place (records at bytes)
record_decoded_at layout records d place stage.Over at bytes = d.commands
record_decoded_at layout records d place (stage.Refused f) at bytes = d.commands

-- The decoder state at a stage: the result and the commands as functions of the remaining bytes.
abbrev pub record_state_at : Layout → (ℕ → List ℕ → Records) → DesignValue → Point → RecordStage
    → DecoderState
record_state_at layout records d place stage = record {
  rest = record_rest_at layout records d place stage;
  decoded = record_decoded_at layout records d place stage;
}

-- The result of the file if it ends at this stage.
abbrev pub record_answer_at : DesignValue → RecordStage → Result Loaded ReadFault
record_answer_at d (stage.Header end) = Err (fault.Short end)
record_answer_at d (stage.Records ended) = Ok (record { design = d; ended = ended })
record_answer_at d stage.Over = Ok (record { design = d; ended = true })
record_answer_at d (stage.Refused f) = Err f

-- The commands that were decoded up to this stage.
abbrev pub record_commands_so_far : DesignValue → RecordStage → List Command
record_commands_so_far d (stage.Header end) = []
record_commands_so_far d (stage.Records ended) = d.commands
record_commands_so_far d stage.Over = d.commands
record_commands_so_far d (stage.Refused f) = d.commands

-- The result and the commands if the file ends at this stage.
abbrev pub record_so_far_at : DesignValue → RecordStage → DecodedSoFar
record_so_far_at d stage = record {
  answer = record_answer_at d stage;
  commands = record_commands_so_far d stage;
}
