-- Names from elsewhere that several files of these proofs use.
pub use Rattle.std.proofs.lemmas.Bool.Decides.{Decides-int_eq, nat_tests}
pub use Rattle.std.proofs.lemmas.Int.{ints}
pub use Rattle.std.proofs.lemmas.List.{drop-map, get_or-map, length-append, length-drop, length-map, length-reverse, map-append}
pub use Rattle.std.proofs.lemmas.List.{reverse-append}
pub use Rattle.std.proofs.lemmas.Option.{slice_get-map}
pub use Rattle.std.specs.Int.{div_ceil}
pub use Rattle.std.specs.List.{AllZip, concat, flat_map, fold, list_all, list_any, position_or_len, range_with_len}
pub use Rattle.std.specs.Ordering.{int_eq}
pub use Rattle.std.specs.Prelude.{option_map, slice_get}
pub use Rattle.design_edits.specs.Moves.{mirror_point, quarter_point, shift_point, shifted, turn_point, with_mapped_point}
pub use Rattle.design_model.specs.Points.{is_same_point, move_between, move_size}
pub use Rattle.design_model.specs.declared.point.Point.{Point}
pub use Rattle.drawing_edits.specs.MovedDrawings.{moved_drawing, shifted_drawing, turned_drawing, with_moved_line, with_moved_spot}
pub use Rattle.line_graph.specs.Drawings.{DrawingValue, KeepsDrawingLimits, block_of, endpoints, first_point, last_point}
pub use Rattle.line_graph.specs.Drawings.{optional_line_block, optional_line_points, points_of}
pub use Rattle.line_graph.specs.LineNeedles.{cost_of_line, needles_of_line}
pub use Rattle.line_graph.specs.Needles.{needle_points, segment_points}
pub use Rattle.edit_laws.specs.CostLaws.{KeepsCosts, MirrorKeepsCosts, TurnKeepsCosts}
pub use Rattle.line_graph.specs.DrawnWalks.{IsThreadOver, KeepsGivenEnds, Leads, given_point, is_junction_of}
pub use Rattle.line_graph.specs.PieceGraphs.{junction_number, junctions_of, with_point, with_points}
pub use Rattle.line_graph.specs.Pieces.{AreConnected, ArePieces, IsPathOfLines, LinesTouch, first_line, shares_point, touches}
pub use Rattle.line_graph.specs.Runs.{Run, block_of_passes, run_of, sewn_acts_after}
pub use Rattle.line_graph.specs.Walks.{needles_of_pass, needles_of_walk}
pub use Rattle.line_graph.specs.declared.pass.Pass.{Pass}
pub use Rattle.line_sections.specs.Lines.{LineValue, points_of_lines}
pub use Rattle.line_sections.specs.declared.spot.Spot.{Spot}
pub use Rattle.design_model.proofs.ListLemmas.{back-there, same_test}
pub use Rattle.step_splitter.specs.Steps.{coordinate_on_segment, floor_quotient, point_on_segment, split_points, steps_of}
