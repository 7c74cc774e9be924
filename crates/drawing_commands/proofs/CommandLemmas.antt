-- What is proved of each command: its plan decides, and the outputs of its products are the files that it writes.
use Rattle.std.proofs.Common.{List, [], ◌∷◌, ℕ, Bool, true, false, Option, Ok, Err, Result}
use Rattle.drawing_commands.proofs.Names.{DrawingValue, stitch_drawing_after, BadEdit, edit_kept, edited_plan, plan_of_text, edits_applied, look_read, DrawingOrder, editing, space_kept, space_made, IsSoundPlan, accepts_sound, ends, named, parses_sound, program_sound, refuses_sound, SpacedDrawing, drawing_outputs_of, drawing_plan_of, IsEdited, IsLook, looking, spacing, telling, IsSpaceProduct, freeing, free_kept, free_made, IsFreeProduct, lines_joined, JoinedLines, nearing, near_kept, IsNearProduct, MetDrawing, IsMeetProduct, meet_kept, meet_made, met_of, meeting}
use Rattle.drawing_commands.specs.declared.text_reading.TextRead.{TextRead}
use Rattle.drawing_commands.specs.TextPlans.{text_plan}
use Rattle.drawing_commands.specs.TextsRead.{text_read}
use Rattle.drawing_comments.specs.declared.text_comments.TextComments.{TextComments}
use Rattle.drawing_text.specs.DrawingLines.{lines_read}
use Rattle.line_graph.specs.declared.draw_kind.DrawKind.{DrawKind}
use Rattle.line_graph.specs.JoinedDrawings.{is_joined}
use Rattle.met_drawings.specs.declared.meet_fault.MeetFault.{MeetFault}
use Rattle.program_texts.specs.MistakenWords.{MistakenWord}
use Rattle.program_texts.specs.CompanionUsage.{usage_with}
use Rattle.drawing_commands.specs.Usage.{drawing_program_name, drawing_usage_text}
use Rattle.drawing_commands.specs.VersionOne.{plan_if_joined, plan_if_kept}
use Rattle.outside_io.specs.Views.{SinkView, StoreView}
use Rattle.program_shell.specs.ExactPlans.{IsSoundProgram}
use Rattle.program_shell.specs.FinishedRuns.{FinishesRun}
use Rattle.program_shell.specs.ProgramRuns.{RunEnds}
use Rattle.program_shell.specs.Plans.{Plan}
use Rattle.program_shell.specs.RunViews.{Views, views_of}
use Rattle.program_shell.specs.StepOutcomes.{RunsRequest}
use Rattle.program_shell.specs.declared.failure.Failure.{Failure}
use Rattle.program_shell.specs.declared.product.Product.{Product}
use Rattle.program_shell.specs.declared.status.Status.{Status}
use Rattle.spaced_lines.specs.SpacedDrawings.{space_of}

-- A plan that refuses a drawing whose lines would be cut is sound where the next one is.
kept_sound : (outputs : List (List ℕ)) (name : List ℕ) (d : DrawingValue) (next : Plan) → IsSoundPlan outputs next
    → IsSoundPlan outputs (plan_if_kept name d next)
kept_sound outputs name d next sound = by_test (is_joined d)
  where
    by_test : (t : Bool) → IsSoundPlan outputs (plan_if_joined name next t)
    by_test true = sound
    by_test false = refuses_sound outputs _

-- A plan that reads a text is sound where the one for each text is.
text_sound : (output name : List ℕ) (next : TextRead → Plan) → ((text : TextRead) → IsSoundPlan (output ∷ []) (next text))
    → IsSoundPlan (output ∷ []) (text_plan name next)
text_sound output name next sound = parses_sound (output ∷ []) name text_read (plan_of_text name next)
    (λ text. kept_sound (output ∷ []) name text.lines.drawing (next text) (sound text)) (λ fault. refuses_sound (output ∷ []) _)

-- The plan of each order is sound.
order_sound : (order : DrawingOrder) → IsSoundPlan (drawing_outputs_of order) (drawing_plan_of order)
order_sound (looking order) = parses_sound [] order.file lines_read (look_read order)
    (λ read. accepts_sound [] (IsLook order.gap read.drawing read.drawn) (λ product is. named product _ is.made))
    (λ fault. refuses_sound [] _)
order_sound (meeting order) = text_sound order.output order.input (meet_kept order)
    (λ text. made text.comments text.lines.drawing
    (met_of order.rule text.lines.drawn.drawing text.lines.drawing.starts text.lines.drawing.ends))
  where
    made : (c : TextComments) (d : DrawingValue) (said : Result MetDrawing MeetFault)
        → IsSoundPlan (order.output ∷ []) (meet_made order c d said)
    made c d (Ok met) = accepts_sound (order.output ∷ []) (IsMeetProduct order.report order.output c d met)
        (λ product is. named product _ is.written.made)
    made c d (Err fault) = refuses_sound (order.output ∷ []) _
order_sound (spacing order) = text_sound order.output order.input (space_kept order)
    (λ text. made text.comments text.lines.drawn.drawing
    (space_of order.limits text.lines.drawn.drawing text.lines.drawing.starts text.lines.drawing.ends))
  where
    made : (c : TextComments) (d : DrawingValue) (said : Result SpacedDrawing DrawKind)
        → IsSoundPlan (order.output ∷ []) (space_made order c d said)
    made c d (Ok spaced) = accepts_sound (order.output ∷ []) (IsSpaceProduct order.output c d spaced)
        (λ product is. named product _ is.written.made)
    made c d (Err kind) = refuses_sound (order.output ∷ []) _
order_sound (freeing order) = text_sound order.output order.input (free_kept order) (λ text. made text.comments
    (lines_joined text.lines.drawn.drawing text.lines.drawing.starts text.lines.drawing.ends))
  where
    made : (c : TextComments) (said : Result JoinedLines DrawKind) → IsSoundPlan (order.output ∷ []) (free_made order c said)
    made c (Ok lines) = accepts_sound (order.output ∷ []) (IsFreeProduct order.output c lines.drawn lines.joined)
        (λ product is. named product _ is.written.made)
    made c (Err kind) = refuses_sound (order.output ∷ []) _
order_sound (nearing order) = text_sound order.output order.input (near_kept order)
    (λ text. accepts_sound (order.output ∷ []) (IsNearProduct order.output text) (λ product is. named product _ is.written.made))
order_sound (editing order) = text_sound order.output order.input (edit_kept order)
    (λ text. made text (edits_applied 1 order.edits text.lines.drawing))
  where
    made : (text : TextRead) (said : Result DrawingValue BadEdit) → IsSoundPlan (order.output ∷ []) (edited_plan order text said)
    made text (Ok d) = accepts_sound (order.output ∷ []) (IsEdited order.output order.edits text d)
        (λ product is. named product _ is.written.made)
    made text (Err bad) = refuses_sound (order.output ∷ []) _
order_sound (telling text) = accepts_sound [] _ (λ product is. named product _ is)

-- The program is sound.
pub drawing_sound : (mistake : Option MistakenWord) → IsSoundProgram (stitch_drawing_after mistake)
drawing_sound mistake = program_sound (stitch_drawing_after mistake) order_sound

-- A run that is finished with the result of its request, and with the usage text after a mistake, ends as specified.
pub drawing_ends : (mistake : Option MistakenWord) (requested : Option DrawingOrder) (store mid : StoreView)
    (out err : SinkView) (after : Views) (s : Status) (result : Result Product Failure)
    → ((m : Option MistakenWord) → RunsRequest (stitch_drawing_after m) requested store mid result)
    → FinishesRun drawing_program_name (usage_with drawing_program_name drawing_usage_text mistake) result (views_of mid out err) after s
    → RunEnds (stitch_drawing_after mistake) requested (views_of store out err) after s
drawing_ends mistake requested store mid out err after s result runs finishes =
    ends (stitch_drawing_after mistake) (drawing_sound mistake) requested store mid out err after s result (runs mistake) finishes
