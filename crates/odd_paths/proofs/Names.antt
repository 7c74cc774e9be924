-- Names from elsewhere that several files of these proofs use.
pub use Rattle.std.proofs.lemmas.Bool.{and_parts, both_ways, cases_Bool, cases_eq, cases_lt, eq-eqb, eqb-true, lt-ltb, ltb-false, ltb-true}
pub use Rattle.std.proofs.lemmas.Bool.{or_parts}
pub use Rattle.std.proofs.lemmas.Bool.Decides.{nat_tests}
pub use Rattle.std.proofs.lemmas.List.{append-nil, get_or-replicate, get_or_past, length-map, length-replicate, length-set, map-set}
pub use Rattle.std.proofs.lemmas.List.{replicate-append-replicate, reverse-append, take-append-drop}
pub use Rattle.std.proofs.lemmas.List.Elements.{All-cons, All-drop, All-filter, All-from_get_or, All-nil}
pub use Rattle.std.proofs.lemmas.List.FromFn.{get_or-range_with_len, length-range_with_len}
pub use Rattle.std.proofs.lemmas.List.Sums.{count_by-le-length, length-filter, sum_by-set}
pub use Rattle.std.proofs.lemmas.Option.{slice_get-get_or, slice_get_within}
pub use Rattle.std.specs.List.{filter, range_with_len}
pub use Rattle.std.specs.Prelude.{cond, if◌then◌else◌, nat_le, nat_lt, slice_index, slice_set}
pub use Rattle.line_graph.specs.declared.limits.TheConstants.{MAX_COST, MAX_LINES}
pub use Rattle.line_graph.proofs.CallerLemmas.{above_at, degree_closed, degrees_few, ends_of_back, or_below, stays_lost}
pub use Rattle.line_graph.specs.PieceGraphs.{PieceValue, closing_edge, degree, degrees_from, edges_with_closing, given_end, given_start}
pub use Rattle.line_graph.specs.PieceGraphs.{is_odd, is_odd_junction, odd_junctions, one_if}
pub use Rattle.line_graph.specs.PieceWalks.{after_edge, all_greater, edge_cost, edge_of, edge_sum, edge_value, is_strictly_increasing}
pub use Rattle.line_graph.specs.PieceWalks.{pass_sum, piece_cost, walk_cost, walk_end_from}
pub use Rattle.line_graph.specs.PiecesOfDrawings.{graph_of}
pub use Rattle.line_graph.specs.ValidPieces.{IsValidPiece, NoEdgeLeaves, all_costs_positive, ends_below}
pub use Rattle.line_graph.specs.declared.edge.Edge.{Edge}
pub use Rattle.line_graph.specs.declared.pass.Pass.{Pass}
pub use Rattle.design_model.proofs.ListLemmas.{front_written, one_of, over_zero, same_test, some_same, sum_over}
pub use Rattle.odd_paths.specs.CostTheorems.{AreDistances, LeastCostsAreDistances}
pub use Rattle.odd_paths.specs.EdgeWalks.{AreLeastRows, Connects, EndsAreBelow, IsEdgeWalk, IsGraph, IsLeastEdgeCost, IsLeastRow}
pub use Rattle.odd_paths.specs.EdgeWalks.{edge_walk_cost}
pub use Rattle.odd_paths.specs.Lanes.{AddsColumns, AddsRows, AreLeastColumns, HaveStarts, IsCapped, KeepsCosts, lane_column, lists_of}
pub use Rattle.odd_paths.specs.Lanes.{relaxed_cost, terminal_columns, weight}
pub use Rattle.odd_paths.specs.LastEdges.{IsLeastEdgeWalk, IsRowFrom, is_last_edge, last_edge_from}
pub use Rattle.odd_paths.specs.LeastRows.{AreRows, AreTerminals, IsLeastCost, IsPath, RowsValue, WalkLeads, cost_at, cost_in, length_in}
pub use Rattle.odd_paths.specs.LeastRows.{lines_at_indexes, row_length, terminal_of}
pub use Rattle.odd_paths.specs.OddDegrees.{odds_from, singleton_if}
pub use Rattle.odd_paths.specs.Sweeps.{AreWalkCosts, IsCost, IsFullyRelaxed, IsRelaxedAt, KeepsWalkCosts, changes, is_lower, lowered_row}
pub use Rattle.odd_paths.specs.Sweeps.{relaxed, relaxes, swept}
pub use Rattle.odd_paths.specs.declared.lanes.TheConstants.{LANES}
pub use Rattle.odd_paths.specs.declared.sweeps.TheConstants.{NO_WALK}
