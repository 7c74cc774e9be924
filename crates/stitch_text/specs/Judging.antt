-- Judging of a line by the acts before it: a reader refuses an act exactly where a writer would.
-- `at` is the offset of the line.
use Rattle.std.specs.Prelude.{◌≡◌, ℕ, ◌&&◌, Bool, true, false, List, [], ◌∷◌, Option, Some, None, Result, Ok, Err, if◌then◌else◌}
use Rattle.design_model.specs.declared.act.Act.{Act}
use Rattle.design_model.specs.declared.act.Act.TheVariants as act
use Rattle.design_model.specs.declared.command.Command.{Command}
use Rattle.design_model.specs.declared.command.Command.TheVariants.{Stitch, Jump, Trim, Stop}
use Rattle.design_model.specs.declared.point.TheConstants.{NEEDLE_LIMIT}
use Rattle.design_model.specs.Acts.{numbered}
use Rattle.design_model.specs.Designs.{with_thread}
use Rattle.design_model.specs.Points.{is_point_within}
use Rattle.format_traits.specs.declared.fault.ReadFault.{ReadFault}
use Rattle.format_traits.specs.declared.fault.ReadFault.TheVariants as read
use Rattle.format_traits.specs.declared.fault.WriteFault.{WriteFault}
use Rattle.format_traits.specs.declared.fault.WriteFault.TheVariants as write
use Rattle.format_traits.specs.declared.encoder_state.EncoderState.{EncoderState}
use Rattle.design_model.specs.LongerDesigns.{with_commands}
use Rattle.format_traits.specs.Refusals.{refusal_of_act, encoder_state_after}
use Rattle.stitch_text.specs.declared.list_draft.ListDraft.{ListDraft}
use Rattle.stitch_text.specs.declared.list_line.ListLine.{ListLine}
use Rattle.stitch_text.specs.declared.list_line.ListLine.TheVariants as line
use Rattle.stitch_text.specs.declared.stitch_list.TheConstants.{LIMIT}
use Rattle.stitch_text.specs.StitchLists.{list_write_limits}

-- The commands of an act.
abbrev pub list_commands_of : Act → List Command
list_commands_of (act.Needle p false) = Stitch p ∷ []
list_commands_of (act.Needle p true) = Jump p ∷ Stitch p ∷ []
list_commands_of act.Trim = Trim ∷ []
list_commands_of act.Stop = Stop ∷ []

-- True for an act that requires a thread that is not loose: a float and a trim.
abbrev pub needs_held_thread : Act → Bool
needs_held_thread (act.Needle p float) = float
needs_held_thread act.Trim = true
needs_held_thread act.Stop = false

-- A writer's refusal of an act, as a reader reports it.
abbrev pub as_read_fault : ℕ → Option WriteFault → Option ReadFault
as_read_fault at None = None
as_read_fault at (Some (write.TooLong number)) = Some (read.TooMany at)
as_read_fault at (Some other) = Some (read.Control at)

-- The refusal of the act in the line at an offset. Command numbers are not reported.
abbrev pub fault_of_act : ℕ → EncoderState → Act → Option ReadFault
fault_of_act at before a = if before.loose && needs_held_thread a then Some (read.Control at)
    else as_read_fault at (refusal_of_act list_write_limits before (numbered 0 a))

-- A draft with one act more.
abbrev pub with_act : ListDraft → Act → ListDraft
with_act draft a = record {
  design = with_commands draft.design (list_commands_of a);
  state = encoder_state_after LIMIT draft.state a;
}

-- A draft with the thread of the block that begins.
abbrev pub with_block_thread : ℕ → ListDraft → ListDraft
with_block_thread thread draft = record draft { design = with_thread draft.design thread }

-- The new draft, or the refusal where there is one.
abbrev pub unless_fault : Option ReadFault → ListDraft → Result ListDraft ReadFault
unless_fault None new = Ok new
unless_fault (Some f) new = Err f

-- A draft with one act more, or the refusal of the act.
abbrev pub draft_with_checked_act : ℕ → ListDraft → Act → Result ListDraft ReadFault
draft_with_checked_act at draft a = unless_fault (fault_of_act at draft.state a) (with_act draft a)

-- A draft after a line, or the refusal of the line.
abbrev pub draft_after_line : ℕ → ListDraft → Option ListLine → Result ListDraft ReadFault
draft_after_line at draft (Some (line.Block thread)) =
    unless_fault (fault_of_act at draft.state act.Stop)
    (with_block_thread thread (with_act draft act.Stop))
draft_after_line at draft (Some (line.Needle p float)) =
    if is_point_within NEEDLE_LIMIT p then draft_with_checked_act at draft (act.Needle p float)
    else Err (read.Range at)
draft_after_line at draft (Some line.Trim) = draft_with_checked_act at draft act.Trim
draft_after_line at draft (Some line.Far) = Err (read.Range at)
draft_after_line at draft other = Err (read.Control at)

-- Meaning of each answer of judging a line: the line is accepted, or refused and the draft
-- unchanged.
abbrev pub JudgesLine : ℕ → ListDraft → Option ListLine → Option ReadFault → ListDraft → Type 0
JudgesLine at old parsed None new = draft_after_line at old parsed ≡ Ok new
JudgesLine at old parsed (Some f) new = (draft_after_line at old parsed ≡ Err f) × (new ≡ old)
