-- The result of reading a text as a stitch list. The lines are judged in order, each by those
-- before it, and the first invalid line is reported by its offset. `at` is the offset of the
-- remaining bytes, which are split at each byte 10.
use Rattle.std.specs.Prelude.{ℕ, ◌+◌, Bool, true, false, List, [], ◌∷◌, ◌++◌, Option, Some, None, Result, Ok, Err, bytes_eq, length, if◌then◌else◌}
use Rattle.design_model.specs.declared.act.Act.{Act}
use Rattle.design_model.specs.declared.act.Act.TheVariants as act
use Rattle.design_model.specs.declared.command.Command.{Command}
use Rattle.design_model.specs.declared.point.Point.{Point}
use Rattle.design_model.specs.Acts.{acts_of, acts_without_numbers}
use Rattle.design_model.specs.Designs.{DesignValue, empty_design, with_label, with_thread}
use Rattle.design_model.specs.ActPositions.{needle_position_after, leaves_thread_loose}
use Rattle.design_model.specs.Points.{move_between, origin}
use Rattle.format_traits.specs.declared.fault.ReadFault.{ReadFault}
use Rattle.format_traits.specs.declared.fault.ReadFault.TheVariants as read
use Rattle.format_traits.specs.declared.loaded.Loaded.{Loaded}
use Rattle.format_traits.specs.Refusals.{initial_encoder_state}
use Rattle.stitch_text.specs.declared.list_draft.ListDraft.{ListDraft}
use Rattle.stitch_text.specs.declared.list_line.ListLine.{ListLine}
use Rattle.stitch_text.specs.declared.list_line.ListLine.TheVariants as line
use Rattle.stitch_text.specs.Judging.{draft_after_line}
use Rattle.stitch_text.specs.ListLines.{parsed_label, parsed_list_line}
use Rattle.stitch_text.specs.StitchLists.{signature_line}
use Rattle.text_parts.specs.Parts.{parts_between}

-- A parsed list: the design so far, and the refusal where there is one.
pub record ParsedList : Type 0 where
  pub design : DesignValue
  pub fault : Option ReadFault

-- A parsed list that is refused after the design so far.
abbrev pub refused_list : DesignValue → ReadFault → ParsedList
refused_list d f = record { design = d; fault = Some f }

-- The parsed list after its last line: nothing may follow.
abbrev pub ended_list : ℕ → DesignValue → List (List ℕ) → ParsedList
ended_list at d ([] ∷ []) = record { design = d; fault = None }
ended_list at d parts = refused_list d (read.Control at)

-- A parsed list that continues after a line that was judged, unless the line was refused.
abbrev pub continued_with : ListDraft → Result ListDraft ReadFault → (ListDraft → ParsedList)
    → ParsedList
continued_with draft (Ok new) more = more new
continued_with draft (Err f) more = refused_list draft.design f

-- True for the last line of a list.
abbrev pub is_end_line : Option ListLine → Bool
is_end_line (Some line.End) = true
is_end_line other = false

-- A parsed list from one line on: the line is the last one, or it is judged.
abbrev pub parsed_end_or_line : ℕ → ListDraft → Option ListLine → ParsedList
    → (ListDraft → ParsedList) → ParsedList
parsed_end_or_line at draft parsed over more =
    if is_end_line parsed then over
    else continued_with draft (draft_after_line at draft parsed) more

-- The parsed list from the lines of acts on, after the third line.
abbrev pub parsed_acts : ℕ → ListDraft → List (List ℕ) → ParsedList
parsed_acts at draft [] = refused_list draft.design (read.Short at)
parsed_acts at draft (rest ∷ []) = refused_list draft.design (read.Short (at + length rest))
parsed_acts at draft (bytes ∷ next ∷ more) =
    parsed_end_or_line at draft (parsed_list_line bytes)
    (ended_list (at + length bytes + 1) draft.design (next ∷ more))
    (λ new. parsed_acts (at + length bytes + 1) new (next ∷ more))

-- A parsed list that `f` computes from the next line and the rest; refused if the line has no end.
abbrev pub with_next_line : ℕ → DesignValue → List (List ℕ) → (List ℕ → List (List ℕ) → ParsedList)
    → ParsedList
with_next_line at d [] f = refused_list d (read.Short at)
with_next_line at d (rest ∷ []) f = refused_list d (read.Short (at + length rest))
with_next_line at d (bytes ∷ next ∷ more) f = f bytes (next ∷ more)

-- The draft of a label and of the thread of the first block.
abbrev pub begun_draft : DesignValue → ℕ → ListDraft
begun_draft d thread = record { design = with_thread d thread; state = initial_encoder_state }

-- The thread of a line that begins a block.
abbrev pub parsed_thread : Option ListLine → Option ℕ
parsed_thread (Some (line.Block thread)) = Some thread
parsed_thread other = None

-- The parsed list after the third line, which must have the thread of the first block.
abbrev pub after_block_line : ℕ → DesignValue → List ℕ → Option ℕ → List (List ℕ) → ParsedList
after_block_line at d bytes (Some thread) rest = parsed_acts (at + length bytes + 1)
    (begun_draft d thread) rest
after_block_line at d bytes None rest = refused_list d (read.Control at)

-- The parsed list from the third line on.
abbrev pub parsed_from_block : ℕ → DesignValue → List (List ℕ) → ParsedList
parsed_from_block at d parts = with_next_line at d parts
    (λ bytes rest. after_block_line at d bytes (parsed_thread (parsed_list_line bytes)) rest)

-- The parsed list after the second line, which must have a label.
abbrev pub after_label_line : ℕ → DesignValue → List ℕ → Option (List ℕ) → List (List ℕ)
    → ParsedList
after_label_line at d bytes (Some label) rest =
    parsed_from_block (at + length bytes + 1) (with_label d label) rest
after_label_line at d bytes None rest = refused_list d (read.Control at)

-- The parsed list from the second line on.
abbrev pub parsed_from_label : ℕ → DesignValue → List (List ℕ) → ParsedList
parsed_from_label at d parts =
    with_next_line at d parts (λ bytes rest. after_label_line at d bytes (parsed_label bytes) rest)

-- The parsed list after the first line, which must be the signature.
abbrev pub after_signature_line : ℕ → DesignValue → Bool → List ℕ → List (List ℕ) → ParsedList
after_signature_line at d true bytes rest = parsed_from_label (at + length bytes + 1) d rest
after_signature_line at d false bytes rest = refused_list d (read.Signature at)

-- The parsed list from the first line on.
abbrev pub parsed_from_signature : ℕ → DesignValue → List (List ℕ) → ParsedList
parsed_from_signature at d parts = with_next_line at d parts
    (λ bytes rest. after_signature_line at d (bytes_eq bytes signature_line) bytes rest)

-- The parsed list of a text.
abbrev pub parsed_text : List ℕ → ParsedList
parsed_text text = parsed_from_signature 0 empty_design (parts_between 10 text)

-- The loaded design, or the refusal where there is one. A list that is accepted has an end.
abbrev pub loaded_unless_fault : DesignValue → Option ReadFault → Result Loaded ReadFault
loaded_unless_fault d None = Ok (record { design = d; ended = true })
loaded_unless_fault d (Some f) = Err f

-- The result of a parsed list.
abbrev pub loaded_of_parsed : ParsedList → Result Loaded ReadFault
loaded_of_parsed parsed = loaded_unless_fault parsed.design parsed.fault

-- The result of reading a text.
abbrev pub list_reads : List ℕ → Result Loaded ReadFault
list_reads text = loaded_of_parsed (parsed_text text)

-- The commands of the complete lines of a text, before its end or its first refusal.
abbrev pub list_shown : List ℕ → List Command
list_shown text = (parsed_text text).design.commands

-- The move of a needle that is neither loose nor a float, as a list; empty for any other act.
abbrev pub stitch_move_of : Bool → Point → Act → List Point
stitch_move_of false place (act.Needle p false) = move_between place p ∷ []
stitch_move_of loose place other = []

-- The moves of needles that are neither loose nor floats, in order, from a position on.
abbrev pub stitch_moves_of : Bool → Point → List Act → List Point
stitch_moves_of loose place [] = []
stitch_moves_of loose place (a ∷ rest) = stitch_move_of loose place a
    ++ stitch_moves_of (leaves_thread_loose a) (needle_position_after place a) rest

-- The moves of a text's needles, before its end or its first refusal.
abbrev pub list_moves : List ℕ → List Point
list_moves text = stitch_moves_of true origin
    (acts_without_numbers (acts_of (parsed_text text).design))
