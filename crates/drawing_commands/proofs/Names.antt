-- Names from elsewhere that several files of these proofs use.
pub use Rattle.std.proofs.lemmas.List.{at_drop_more}
pub use Rattle.std.specs.Prelude.{is_some, unwrap_or}
pub use Rattle.command_words.proofs.CallerLemmas.{first_parsed, later_parsed}
pub use Rattle.command_words.specs.Arguments.{with_first_edit}
pub use Rattle.drawing_commands.specs.Commands.{drawing_mistake, drawing_order_of, drawing_outputs_of, drawing_plan_of}
pub use Rattle.drawing_commands.specs.Commands.{stitch_drawing_after}
pub use Rattle.drawing_commands.specs.DrawingEditWords.{drawing_edits_of, parsed_drawing_edit, parsed_drawing_edits}
pub use Rattle.drawing_commands.specs.DrawingEditing.{IsEdited, at_edit, bad_edit_is_out_of_memory, bad_edit_text, drawing_edit_order}
pub use Rattle.drawing_commands.specs.DrawingEditing.{edit_fault_text, edit_kept, edited_plan, edits_applied}
pub use Rattle.drawing_commands.specs.EditComments.{comments_of_edits, drawing_ordered_alone, drawing_with_order}
pub use Rattle.drawing_commands.specs.EditComments.{orders_from, orders_pieces}
pub use Rattle.drawing_commands.specs.FreeOrders.{IsFreeProduct, free_kept, free_made, free_order}
pub use Rattle.drawing_commands.specs.NearFiles.{IsNearProduct, near_file_order, near_kept}
pub use Rattle.drawing_commands.specs.Looks.{IsLook, look_order, look_read}
pub use Rattle.drawing_commands.specs.MeetOrders.{IsMeetProduct, meet_kept, meet_made, snap_order}
pub use Rattle.drawing_commands.specs.Requests.{DrawingOrder, editing, freeing, looking, meeting, nearing, spacing, telling}
pub use Rattle.drawing_commands.specs.SpaceOrders.{IsSpaceProduct, space_kept, space_made, space_order}
pub use Rattle.drawing_commands.specs.TextPlans.{plan_of_text}
pub use Rattle.drawing_commands.specs.declared.bad_edit.BadEdit.{BadEdit}
pub use Rattle.drawing_edits.specs.declared.drawing_edit.DrawingEdit.{DrawingEdit}
pub use Rattle.line_graph.specs.Drawings.{DrawingValue}
pub use Rattle.line_graph.specs.EndOrders.{AreInBlockOrder, HasOrderedEnds}
pub use Rattle.line_graph.specs.GrowingDrawings.{and_then, draw_is_out_of_memory, point_count}
pub use Rattle.met_drawings.specs.MetDrawings.{meet_is_out_of_memory, met_of}
pub use Rattle.met_drawings.specs.declared.meeting.MetDrawing.{MetDrawing}
pub use Rattle.drawing_text.specs.DrawingText.{drawing_of}
pub use Rattle.line_sections.specs.declared.spot.Spot.{Spot}
pub use Rattle.program_shell.proofs.CallerLemmas.{IsSoundPlan, accepts_sound, can_finish, ends, fault_refused, named, parses_sound}
pub use Rattle.program_shell.proofs.CallerLemmas.{program_sound, refuses_sound, settles_taken}
pub use Rattle.free_ends.specs.FreedDrawings.{lines_joined}
pub use Rattle.free_ends.specs.declared.joined_lines.JoinedLines.{JoinedLines}
pub use Rattle.spaced_lines.specs.declared.spaced_drawing.SpacedDrawing.{SpacedDrawing}
