-- Names from elsewhere that several files of these proofs use.
pub use Rattle.std.proofs.lemmas.Bool.{and_from, and_parts, cases_eq}
pub use Rattle.std.proofs.lemmas.Bool.Decides.{nat_tests}
pub use Rattle.std.proofs.lemmas.Grind.{get_or_default_zero}
pub use Rattle.std.proofs.lemmas.List.{get_or_append_left, get_or_push, map-append}
pub use Rattle.std.proofs.lemmas.List.Sums.{sum_by-cons, sum_by-set}
pub use Rattle.std.proofs.lemmas.Option.{slice_get-get_or, slice_get_within}
pub use Rattle.euler_tour.specs.Cursors.{AreCursors, IsCursor, SkipsEnd}
pub use Rattle.euler_tour.specs.LineEnds.{AreBefore, AreLast, IsLast, junction_across, junction_at, pass_from, pass_to}
pub use Rattle.euler_tour.specs.PartialTours.{AreTourTables, BeginsTour, HasTourTables, IsEmptyTour, IsExhausted, IsPartialTour}
pub use Rattle.euler_tour.specs.PartialTours.{IsTourInvariant, IsTourStep, first_edge_end, first_edge_start, or_first_start, tour_end}
pub use Rattle.euler_tour.specs.PartialTours.{tour_rank, tour_start}
pub use Rattle.euler_tour.specs.RemainingLines.{decremented_at, edge_ends_at, one_of, pass_counts, remaining_ends, remaining_sum}
pub use Rattle.euler_tour.specs.Tours.{CanPass, IsTour, copies_cost, pass_count, pass_ends}
pub use Rattle.line_graph.proofs.CallerLemmas.{begins_on, edge_found, edge_there, first_is, first_less, is_even, lost, not_even, rest_rises}
pub use Rattle.line_graph.proofs.CallerLemmas.{walk_append}
pub use Rattle.line_graph.specs.PieceGraphs.{PieceValue, closing_edge, degree, given_start, is_odd, one_if}
pub use Rattle.line_graph.specs.PieceWalks.{BeginsWith, after_edge, after_pass, covers, edge_cost, edge_of, edge_sum, edge_value}
pub use Rattle.line_graph.specs.PieceWalks.{is_line_passed, is_strictly_increasing, is_walk_start_to_end, pass_end, pass_start}
pub use Rattle.line_graph.specs.PieceWalks.{pass_start_on, pass_sum, passes, walk_end_from}
pub use Rattle.line_graph.specs.Pieces.{first_line}
pub use Rattle.line_graph.specs.PiecesOfDrawings.{graph_of}
pub use Rattle.line_graph.specs.ValidPieces.{IsConnectedGraph, IsValidPiece, all_below, ends_below}
pub use Rattle.line_graph.specs.declared.edge.Edge.{Edge}
pub use Rattle.line_graph.specs.declared.pass.Pass.{Pass}
pub use Rattle.design_model.proofs.ListLemmas.{differs, differs_back, half, half_more, one_before, same_number, same_test, some_same}
