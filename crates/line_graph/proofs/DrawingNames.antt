-- Names from elsewhere that several files of these proofs use.
pub use Rattle.std.proofs.lemmas.Bool.{and_parts, eqb-false, false_from_ne_true, or_from, or_parts, or_right}
pub use Rattle.std.proofs.lemmas.Bool.Decides.{nat_tests}
pub use Rattle.std.proofs.lemmas.List.{append-nil, append_assoc, drop_more, get_or-map, length-map, map-append}
pub use Rattle.std.proofs.lemmas.List.Concat.{flat_map-append, flat_map-cons}
pub use Rattle.std.proofs.lemmas.List.Elements.{All-append, All-cons, All-get_or, All-head, All-map, All-nil, All-push, All-tail}
pub use Rattle.std.proofs.lemmas.List.Elements.{All-weaker, Contains-append_cases, Contains-append_left, Contains-append_right}
pub use Rattle.std.proofs.lemmas.List.Folds.{flat_map-map, list_any-append, list_any_none}
pub use Rattle.std.proofs.lemmas.List.Sums.{AllPass-from_list_all, get_or-le-sum_by, sum_by-append, sum_by-cons, sum_by-take-le}
pub use Rattle.std.proofs.lemmas.List.Sums.{sum_by_more}
pub use Rattle.std.proofs.lemmas.Option.{get_or_from_slice_get, slice_get-get_or, slice_get_within}
pub use Rattle.std.specs.Char.{is_ascii_graphic}
pub use Rattle.std.specs.List.{flat_map, list_all, list_any}
pub use Rattle.std.specs.List.Sorted.{IsNonDecreasing}
pub use Rattle.design_model.specs.Points.{is_point_within, is_same_point}
pub use Rattle.design_model.specs.declared.point.Point.{Point}
pub use Rattle.line_graph.specs.DrawingMakerInvariants.{AreBlocks, IsMakerState}
pub use Rattle.line_graph.specs.Drawings.{DrawingValue, HasNoRepeat, IsLine, KeepsDrawingLimits, endpoints, first_point, last_point}
pub use Rattle.line_graph.specs.Drawings.{optional_line_points, points_of}
pub use Rattle.line_graph.specs.GrowingDrawings.{all_in_needle_range, and_then, block_added, empty_drawing, finished_drawing}
pub use Rattle.line_graph.specs.GrowingDrawings.{has_repeated_point, is_drawing_label, is_last_empty, is_used, line_added, point_count}
pub use Rattle.line_graph.specs.GrowingDrawings.{repeats_after, step_count, steps_with_line, with_new_block, with_new_line}
pub use Rattle.line_graph.specs.GrowingLimits.{BlocksKeepGrowing, EmptyDrawingsGrow, FinishedDrawingsAreValid, IsGrowingDrawing}
pub use Rattle.line_graph.specs.GrowingLimits.{IsValidJoinedDrawing, JoinedDrawingsAreValid, LabelsKeepGrowing, LinesKeepGrowing}
pub use Rattle.line_graph.specs.GrowingLimits.{StepsKeepGrowing, WalkEndsKeepValid}
pub use Rattle.line_graph.specs.JoinedDrawings.{JoinedDrawingsStay, is_joined, joined_drawing}
pub use Rattle.line_graph.specs.LineNeedles.{AreClose, AreNeedlesOf, LeadAlong, cost_of_line, needles_of_line}
pub use Rattle.line_graph.specs.Needles.{needle_points, segment_points, segment_steps, steps_of_line}
pub use Rattle.line_graph.specs.WalkEnds.{AreInDifferentPieces, HasNoEnds, HasValidEnds, IsValidDrawing, are_connected_spots, end_added}
pub use Rattle.line_graph.specs.WalkEnds.{is_junction, spot_added, start_added, walk_end_added}
pub use Rattle.line_graph.specs.declared.draw_kind.DrawKind.{DrawKind}
pub use Rattle.line_sections.specs.Lines.{LineValue}
pub use Rattle.line_sections.specs.Sections.{SectionsAreWhole, SectionsHaveSegments, SectionsKeepSegments, WholeLinesStay, all_sections}
pub use Rattle.line_sections.specs.Sections.{are_whole_lines, is_shared_point, line_sections, lines_through, sections_of, segments_from}
pub use Rattle.line_sections.specs.Sections.{segments_of}
pub use Rattle.line_sections.specs.declared.spot.Spot.{Spot}
pub use Rattle.step_splitter.specs.Chains.{AreCloseAfter, HasNoRepeatAfter, IsNeedlePoint, LeadsBySteps, SplitPointsLead, last_point_or}
pub use Rattle.step_splitter.specs.Steps.{point_on_segment, split_points, steps_of}
