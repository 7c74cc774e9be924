-- The state of a decoder of lists at each stage, as functions of the remaining bytes. `at` is the
-- offset of the remaining bytes, which are split at each byte 10.
use Rattle.std.specs.Prelude.{◌≡◌, ℕ, ◌+◌, ◌≤◌, Bool, true, false, List, [], ◌∷◌, Option, None, Some, length, drop}
use Rattle.design_model.specs.Designs.{empty_design}
use Rattle.format_traits.specs.declared.fault.ReadFault.{ReadFault}
use Rattle.format_traits.specs.declared.fault.ReadFault.TheVariants as read
use Rattle.format_traits.specs.Refusals.{initial_encoder_state}
use Rattle.format_traits.specs.DecoderStates.{ContinuesAs, DecodedSoFar, DecoderState}
use Rattle.stitch_text.specs.declared.list_draft.ListDraft.{ListDraft}
use Rattle.stitch_text.specs.declared.list_line.TheConstants.{MAX_LINE}
use Rattle.stitch_text.specs.declared.list_stage.ListStage.{ListStage}
use Rattle.stitch_text.specs.declared.list_stage.ListStage.TheVariants as stage
use Rattle.stitch_text.specs.Readings.{ParsedList, parsed_acts, parsed_from_block, ended_list, parsed_from_label, loaded_unless_fault, loaded_of_parsed, with_next_line, refused_list, parsed_from_signature}
use Rattle.text_parts.specs.Parts.{parts_between}

-- The list that is parsed from a stage on, by the remaining parts.
abbrev pub parsed_parts : ListDraft → ListStage → ℕ → List (List ℕ) → ParsedList
parsed_parts draft stage.First at parts = parsed_from_signature at draft.design parts
parsed_parts draft stage.Label at parts = parsed_from_label at draft.design parts
parsed_parts draft stage.Block at parts = parsed_from_block at draft.design parts
parsed_parts draft stage.Acts at parts = parsed_acts at draft parts
parsed_parts draft (stage.Long f) at parts =
    with_next_line at draft.design parts (λ bytes rest. refused_list draft.design f)
parsed_parts draft stage.Ended at parts = ended_list at draft.design parts
parsed_parts draft (stage.Refused f) at parts = refused_list draft.design f

-- The decoder state at a stage: the result and the commands as functions of the remaining bytes.
abbrev pub list_state_at : ListDraft → ListStage → DecoderState
list_state_at draft stage = record {
  rest = λ at bytes. loaded_of_parsed (parsed_parts draft stage at (parts_between 10 bytes));
  decoded = λ at bytes. (parsed_parts draft stage at (parts_between 10 bytes)).design.commands;
}

-- The draft of a list of which nothing was read.
abbrev pub blank_draft : ListDraft
blank_draft = record { design = empty_design; state = initial_encoder_state }

-- The decoder state at the start of a list.
abbrev pub list_start_state : DecoderState
list_start_state = list_state_at blank_draft stage.First

-- The refusal of a list that ends at an offset and at this stage, if any.
abbrev pub fault_at_end : ℕ → ListStage → Option ReadFault
fault_at_end end stage.Ended = None
fault_at_end end (stage.Refused f) = Some f
fault_at_end end other = Some (read.Short end)

-- The result and the commands if the list ends at this offset and stage.
abbrev pub list_so_far_at : ListDraft → ℕ → ListStage → DecodedSoFar
list_so_far_at draft end stage = record {
  answer = loaded_unless_fault draft.design (fault_at_end end stage);
  commands = draft.design.commands;
}

-- The most bytes of a line that are kept until it ends: no valid line is longer.
abbrev pub max_waiting_in : ListStage → ℕ
max_waiting_in (stage.Long f) = 0
max_waiting_in stage.Ended = 0
max_waiting_in (stage.Refused f) = 0
max_waiting_in other = MAX_LINE

-- The stage after more bytes than a valid line has, in the line at an offset.
abbrev pub stage_after_long_line : ℕ → ListStage → ListStage
stage_after_long_line at stage.First = stage.Long (read.Signature at)
stage_after_long_line at (stage.Long f) = stage.Long f
stage_after_long_line at stage.Ended = stage.Refused (read.Control at)
stage_after_long_line at (stage.Refused f) = stage.Refused f
stage_after_long_line at other = stage.Long (read.Control at)

-- A draft that has at most a label.
pub record IsUnbegunDraft (draft : ListDraft) : Type 0 where
  pub state : draft.state ≡ initial_encoder_state
  pub threads : draft.design.threads ≡ []
  pub commands : draft.design.commands ≡ []

-- True at the stages of the first three lines.
abbrev pub is_before_acts : ListStage → Bool
is_before_acts stage.First = true
is_before_acts stage.Label = true
is_before_acts stage.Block = true
is_before_acts other = false

-- True at the stage of the lines of acts.
abbrev pub is_at_acts : ListStage → Bool
is_at_acts stage.Acts = true
is_at_acts other = false

-- A complete line at an offset was taken. `old` and `new` are the parsed lists before and after, as
-- functions of the remaining parts.
pub record TakesLine (old new : ℕ → List (List ℕ)
    → ParsedList) (at : ℕ) (line : List ℕ) : Type 0 where
  pub on : (next : List ℕ) (more : List (List ℕ))
      → old at (line ∷ next ∷ more) ≡ new (at + length line + 1) (next ∷ more)

-- All complete lines were taken: `size` of the bytes at an offset.
pub record TakesLines (old new : DecoderState) (at : ℕ) (bytes : List ℕ) (size : ℕ) : Type 0 where
  pub there : size ≤ length bytes
  pub on : ContinuesAs old new at (at + size) bytes (drop size bytes)
  pub left : parts_between 10 (drop size bytes) ≡ drop size bytes ∷ []
