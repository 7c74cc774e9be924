-- Names from elsewhere that several files of these proofs use.
pub use Rattle.std.proofs.lemmas.Bool.{and_parts, both_ways, eqb-false, ltb-true, or_cases, or_left, or_parts, or_right}
pub use Rattle.std.proofs.lemmas.Bool.Decides.{nat_tests}
pub use Rattle.std.proofs.lemmas.List.{append-nil, append_assoc, at_drop_more, get_or-set_other, get_or-set_same, get_or_default}
pub use Rattle.std.proofs.lemmas.List.{length-append, length-map, length-replicate, length-reverse, length-set, length-take, take_more}
pub use Rattle.std.proofs.lemmas.List.Concat.{flat_map-cons}
pub use Rattle.std.proofs.lemmas.List.Elements.{All-append, All-cons, All-contains, All-contains_itself, All-filter, All-head, All-map}
pub use Rattle.std.proofs.lemmas.List.Elements.{All-nil, All-push, All-tail, All-weaker, Contains-append_cases, Contains-append_left}
pub use Rattle.std.proofs.lemmas.List.Elements.{Contains-get_or, Contains-push, filter_passes}
pub use Rattle.std.proofs.lemmas.List.Kept.{AllPairs-from_increasing, IsStrictlyIncreasing-filter}
pub use Rattle.std.proofs.lemmas.List.Quantifiers.{all_pairs_push}
pub use Rattle.std.proofs.lemmas.List.Sums.{passes_at_first, position_or_len_is, sum_by-cons, sum_by-set}
pub use Rattle.std.proofs.lemmas.Option.{slice_get-get_or, slice_get_within}
pub use Rattle.std.specs.List.{AllZip, concat, flat_map, list_any, position_or_len, range_with_len}
pub use Rattle.std.specs.List.Sorted.{IsStrictlyIncreasing}
pub use Rattle.std.specs.Option.{option_or}
pub use Rattle.design_model.proofs.CallerLemmas.{same_back, same_is}
pub use Rattle.design_model.specs.Acts.{acts_from, acts_of, acts_without_numbers}
pub use Rattle.design_model.specs.Points.{is_point_within, is_same_point, move_between}
pub use Rattle.design_model.specs.declared.act.Act.{Act}
pub use Rattle.design_model.specs.declared.command.Command.TheVariants.{Stitch, Stop, Trim}
pub use Rattle.design_model.specs.declared.point.Point.{Point}
pub use Rattle.line_graph.proofs.DrawingLemmas.{close_on, cost_is, ends_are, line_there, same_found}
pub use Rattle.line_graph.specs.Drawings.{DrawingValue, IsLine, KeepsDrawingLimits, block_of, endpoints, first_point, last_point}
pub use Rattle.line_graph.specs.Drawings.{optional_line_block, optional_line_points, points_of}
pub use Rattle.line_graph.specs.LineNeedles.{AreClose, AreNeedlesOf, NeedlesLeadAlong, cost_of_line, needles_of_line}
pub use Rattle.line_graph.specs.Needles.{steps_of_line}
pub use Rattle.line_graph.specs.WalkEnds.{AreInDifferentPieces, are_connected_spots, end_spots, has_end_at_spot, is_junction}
pub use Rattle.line_graph.specs.WalkEnds.{merged_representative, representative, spot_added}
pub use Rattle.line_graph.specs.ConnectedSpots.{SpotsAreConnected}
pub use Rattle.line_graph.specs.DrawnWalks.{FittingWalksAreThreads, GivenPointsAreJunctions, IsThreadOver, KeepsGivenEnds, Leads}
pub use Rattle.line_graph.specs.DrawnWalks.{PiecesAreValid, given_point}
pub use Rattle.line_graph.specs.FirstLines.{AddsLink, AreLinkedBelow, AreLinks, IsLineEnd, IsLinkedAt, RecordsFirstLine, SharesEnd}
pub use Rattle.line_graph.specs.LineLabels.{AreAtMostIndex, AreConnectedToLabels, AreLabelsOfLinks, AreOwnIndexes, LabelsAgree}
pub use Rattle.line_graph.specs.LineLabels.{LinkedAreConnected, LowersLabels, LowersOneLabel}
pub use Rattle.line_graph.specs.NextLines.{AreNextFrom, IsFirstLabelled, lines_labelled_from}
pub use Rattle.line_graph.specs.PieceGraphs.{PieceValue, closing_edge, degree, degrees_from, edge_between, first_junction_among, is_odd}
pub use Rattle.line_graph.specs.PieceGraphs.{junction_number, junctions_of, odd_junctions, one_if, piece_graph, with_point, with_points}
pub use Rattle.line_graph.specs.PieceLabels.{AddsEdge, ArePieceLabels, IsPiece, has_label, is_own_label, lines_labelled, pieces_by_label}
pub use Rattle.line_graph.specs.PieceWalks.{BeginsWith, IsLeastWalk, after_edge, after_pass, all_greater, are_same_junction, covers}
pub use Rattle.line_graph.specs.PieceWalks.{edge_cost, edge_of, edge_sum, edge_value, is_fitting_walk, is_line_passed}
pub use Rattle.line_graph.specs.PieceWalks.{is_strictly_increasing, is_walk_start_to_end, pass_end, pass_start, pass_start_on, pass_sum}
pub use Rattle.line_graph.specs.PieceWalks.{passes, piece_cost, required_end, required_start, walk_cost, walk_end_from, walk_start}
pub use Rattle.line_graph.specs.Pieces.{AreConnected, ArePieces, IsPathOfLines, LinesTouch, first_line, shares_point, touches}
pub use Rattle.line_graph.specs.PiecesOfDrawings.{ArePiecesOf, graph_of, lines_of_pieces}
pub use Rattle.line_graph.specs.Runs.{AreNear, AreWritable, HasNeedle, Run, RunsAreSewn, Sews, block_of_passes, commands_after}
pub use Rattle.line_graph.specs.Runs.{design_of_runs, runs_of, sewn_acts, sewn_acts_after, sewn_design, stops_after}
pub use Rattle.line_graph.specs.SewnWalks.{FittingWalksAreSewable, GoesAlong, IsSewable, PiecesKeepLimits}
pub use Rattle.line_graph.specs.UniquePieces.{PiecesAreUnique}
pub use Rattle.line_graph.specs.ValidPieces.{IsConnectedGraph, IsValidPiece, NoEdgeLeaves, all_below, all_costs_positive, ends_below}
pub use Rattle.line_graph.specs.ValidPieces.{is_below}
pub use Rattle.line_graph.specs.Walks.{needles_of_pass, needles_of_walk}
pub use Rattle.line_graph.specs.declared.edge.Edge.{Edge}
pub use Rattle.line_graph.specs.declared.line_labels.LineLink.{LineLink}
pub use Rattle.line_graph.specs.declared.pass.Pass.{Pass}
pub use Rattle.line_graph.specs.declared.piece.Piece.{Piece}
pub use Rattle.line_sections.proofs.CallerLemmas.{same_spot, spot_found}
pub use Rattle.line_sections.specs.Lines.{LineValue}
pub use Rattle.line_sections.specs.Spots.{is_same_spot}
pub use Rattle.line_sections.specs.declared.spot.Spot.{Spot}
pub use Rattle.design_model.proofs.ListLemmas.{all_concat, concat_has, differs_back, eq_self, filter_has, filter_skips, filter_takes}
pub use Rattle.design_model.proofs.ListLemmas.{less_test, map_has, number_found, pairs_tail, range_rises, same_number, same_test}
pub use Rattle.design_model.proofs.ListLemmas.{some_same, sum_over, unequal}
pub use Rattle.step_splitter.specs.Chains.{AreCloseAfter, IsNeedlePoint, SplitPointsLead, last_point_or}
