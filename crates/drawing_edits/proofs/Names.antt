-- Names from elsewhere that several files of these proofs use.
pub use Rattle.std.proofs.lemmas.Bool.{and_parts, ltb-false, ltb-true, or_left, or_right}
pub use Rattle.std.proofs.lemmas.Bool.Decides.{Decides-eqb, nat_tests}
pub use Rattle.std.proofs.lemmas.List.{drop-map, get_or-map, length-append, length-map, map-append, take-map}
pub use Rattle.std.proofs.lemmas.List.Elements.{All-append, All-cons, All-contains, All-contains_itself, All-filter, All-head, All-map}
pub use Rattle.std.proofs.lemmas.List.Elements.{All-nil, All-tail, All-weaker, Contains-append_left, Contains-append_right, filter-append}
pub use Rattle.std.proofs.lemmas.List.Elements.{filter_passes}
pub use Rattle.std.proofs.lemmas.List.FromFn.{fill_by_all, get_or-range_with_len, length-range_with_len}
pub use Rattle.std.proofs.lemmas.List.Sorted.{IsNonDecreasingBy-insert, IsPermutation-append, IsPermutation-append_comm}
pub use Rattle.std.proofs.lemmas.List.Sorted.{IsPermutation-filter_both, IsPermutation-map, IsPermutation-refl, IsPermutation-trans}
pub use Rattle.std.proofs.lemmas.List.Sums.{fails_before_first, list_all-from_AllPass, passes_at_first, prefix_len-le-length, sum_by-append}
pub use Rattle.std.proofs.lemmas.List.Sums.{sum_by-cons}
pub use Rattle.std.proofs.lemmas.Option.{get_or_from_slice_get, slice_get-get_or, slice_get-map, slice_get_within}
pub use Rattle.std.proofs.lemmas.Result.{IfOk-at_ok, IfOk-weaker}
pub use Rattle.std.specs.List.{concat, flat_map, insert, list_all, list_any, position_or_len, range_with_len}
pub use Rattle.std.specs.List.Sorted.{IsNonDecreasing, IsStrictlyIncreasing}
pub use Rattle.design_edits.specs.Motions.{motion_map}
pub use Rattle.design_model.specs.Points.{is_point_within, is_same_point, origin}
pub use Rattle.design_model.specs.declared.point.Point.{Point}
pub use Rattle.drawing_edits.specs.EditFaults.{edit_answer, edit_is_out_of_memory}
pub use Rattle.drawing_edits.specs.KeptEnds.{EditsKeepEndsByBlock, HasEndsOf, IsPlacedEnd, PlacedEndsAreKept, RedrawnHasEnds}
pub use Rattle.drawing_edits.specs.MovedDrawings.{IsNeedleExtent, centred_drawing, middle_of, mirrored_drawing, moved_drawing}
pub use Rattle.drawing_edits.specs.MovedDrawings.{shifted_drawing, turned_drawing, with_moved_line, with_moved_spot}
pub use Rattle.drawing_edits.specs.PieceOrders.{IsPieceOf, OrdersKeepLines, PiecesComeBefore, are_in_one_piece, drawn_from, found_piece}
pub use Rattle.drawing_edits.specs.PieceOrders.{is_first_of_piece, line_numbered, lines_in_order, lines_outside, lines_with_piece}
pub use Rattle.drawing_edits.specs.PieceOrders.{numbered_piece, order_with_piece, ordered_lines, piece_of_line, piece_put_before}
pub use Rattle.drawing_edits.specs.PieceOrders.{pieces_in_order, spot_of_line}
pub use Rattle.drawing_edits.specs.PlacedEnds.{end_placed, line_cut_at, lines_listing, only_block, with_end_at, with_spot}
pub use Rattle.drawing_edits.specs.RedrawnDrawings.{drawn_lines, line_added_if, redrawn, redrawn_lines, with_blocks, with_lines_of}
pub use Rattle.drawing_edits.specs.RedrawnDrawings.{with_starts_and_ends, with_walk_ends}
pub use Rattle.drawing_edits.specs.ValidRedraws.{LinesInOrderAreDrawn, LinesWithinLimitsAreDrawn, ValidDrawingsAreRedrawn}
pub use Rattle.drawing_edits.specs.declared.edit_fault.EditFault.{EditFault}
pub use Rattle.line_graph.proofs.DrawingLemmas.{after_both, finished_none, joined_none, none_repeats, spot_comes}
pub use Rattle.line_graph.specs.Drawings.{DrawingValue, IsLine, KeepsDrawingLimits, block_of, endpoints, first_point}
pub use Rattle.line_graph.specs.Drawings.{optional_line_block, optional_line_points, points_of}
pub use Rattle.line_graph.specs.EndOrders.{AreInBlockOrder, HasOrderedEnds}
pub use Rattle.line_graph.specs.GrowingDrawings.{all_in_needle_range, and_then, block_added, empty_drawing, finished_drawing}
pub use Rattle.line_graph.specs.GrowingDrawings.{has_repeated_point, is_last_empty, line_added, point_count, step_count, steps_with_line}
pub use Rattle.line_graph.specs.GrowingDrawings.{with_new_block, with_new_line}
pub use Rattle.line_graph.specs.JoinedDrawings.{JoinedDrawingsStay, joined_drawing}
pub use Rattle.line_graph.specs.WalkEnds.{AreInDifferentPieces, HasNoEnds, are_connected_spots, has_end_at_spot, is_junction}
pub use Rattle.line_graph.specs.WalkEnds.{representative, spot_added, walk_end_added}
pub use Rattle.line_graph.specs.declared.draw_kind.DrawKind.{DrawKind}
pub use Rattle.line_graph.specs.declared.limits.TheConstants.{MAX_BLOCKS, MAX_COST, MAX_LINES, MAX_POINTS}
pub use Rattle.line_graph.specs.Pieces.{AreConnected, ArePieces, first_line}
pub use Rattle.line_sections.specs.Lines.{LineValue, points_of_lines}
pub use Rattle.line_sections.specs.declared.spot.Spot.{Spot}
pub use Rattle.design_model.proofs.ListLemmas.{all_concat, concat_has, differs, filter_has, filter_skips, filter_takes, map_has}
pub use Rattle.design_model.proofs.ListLemmas.{number_found, range_rises, same_number}
pub use Rattle.step_splitter.specs.Chains.{IsNeedlePoint, last_point_or}
