-- Names from elsewhere that several files of these proofs use.
pub use Rattle.std.proofs.Math.Path.{ap₂, fun_ext}
pub use Rattle.std.proofs.lemmas.Bool.{eqb-true, leb-true, or_left, or_right}
pub use Rattle.std.proofs.lemmas.Bool.Decides.{nat_tests}
pub use Rattle.std.proofs.lemmas.List.{drop_all, drop_more, length-append, length-map, map-append}
pub use Rattle.std.proofs.lemmas.List.Elements.{All-cons, All-head, All-map, All-nil, All-tail, All-weaker}
pub use Rattle.std.proofs.lemmas.List.Folds.{list_all-append, list_any-append}
pub use Rattle.std.proofs.lemmas.List.Sums.{sum_by-append, sum_by-cons}
pub use Rattle.std.specs.HashSet.{contains}
pub use Rattle.std.specs.List.{concat, count_by, flat_map, list_all, list_any, sum_by}
pub use Rattle.design_model.proofs.CallerLemmas.{same_back, same_is}
pub use Rattle.design_model.specs.Points.{is_same_point}
pub use Rattle.design_model.specs.declared.point.Point.{Point}
pub use Rattle.line_graph.specs.Drawings.{DrawingValue, IsLine, endpoints}
pub use Rattle.line_graph.specs.GrowingDrawings.{and_then, point_count}
pub use Rattle.line_graph.specs.Needles.{segment_steps, steps_of_line}
pub use Rattle.line_graph.specs.WalkEnds.{are_connected_spots, end_spots, has_end_at_spot, is_junction, merged_representative}
pub use Rattle.line_graph.specs.WalkEnds.{representative, spot_added}
pub use Rattle.drawing_review.specs.Frames.{grid_point}
pub use Rattle.drawing_review.specs.Meetings.{is_near}
pub use Rattle.line_sections.specs.Lines.{LineValue}
pub use Rattle.line_sections.specs.Sections.{all_sections, but_last, has_points, inner_points, is_shared_point, line_sections}
pub use Rattle.line_sections.specs.Sections.{lines_through, listed_in, sections_from, sections_of, sections_with_first}
pub use Rattle.line_sections.specs.Spots.{is_same_spot}
pub use Rattle.line_sections.specs.declared.spot.Spot.{Spot}
pub use Rattle.design_model.proofs.ListLemmas.{all_right, and_false, either_way, first_true, second_true}
pub use Rattle.spaced_lines.specs.SpacedAnswers.{SpacedLinesKeepLimits, SpacingRefusesNone}
pub use Rattle.spaced_lines.specs.SpacedDrawings.{space_of, spaced_and_joined, with_lines_spaced}
pub use Rattle.spaced_lines.specs.BestChoices.{IsWithin, best_from, best_over, best_with, bests_of, better_with, is_better}
pub use Rattle.spaced_lines.specs.BestChoices.{kept_by, no_stitch, room_after, room_of}
pub use Rattle.spaced_lines.specs.Choices.{IsBestChoice, IsChoice, IsStretch, square_sum, stitch_count}
pub use Rattle.spaced_lines.specs.SpacedLines.{is_spot_of, spaced_line, spaced_lines, spaced_points}
pub use Rattle.spaced_lines.specs.SpacingLaws.{EachPointSavesAStep, KeptPointsAreBest, PiecesStay, ReversedLinesAreAsGood}
pub use Rattle.spaced_lines.specs.SpacingLaws.{SectionsKeepEnds, SharedPointsAreJunctions, SpacedLinesAreLines}
pub use Rattle.spaced_lines.specs.SpacingRules.{comes_near_all, distance_between, does_none_stay, is_stitch_for, leeway_of}
pub use Rattle.spaced_lines.specs.SpacingRules.{may_leave_out, rule_of}
pub use Rattle.spaced_lines.specs.declared.best.Best.{Best}
pub use Rattle.spaced_lines.specs.declared.spacing_rule.SpacingLimits.{SpacingLimits}
pub use Rattle.spaced_lines.specs.declared.spacing_rule.SpacingRule.{SpacingRule}
pub use Rattle.spaced_lines.specs.declared.spacing_rule.TheConstants.{MAX_LEFT_OUT}
pub use Rattle.step_splitter.specs.Chains.{HasNoRepeatAfter, IsNeedlePoint, SplitPointsLead, last_point_or}
