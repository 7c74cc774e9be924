-- Names from elsewhere that several files of these proofs use.
pub use Rattle.std.proofs.lemmas.Bool.{and_parts, both_ways, cases_Bool, cases_eq, cases_lt, eq-eqb, eqb-true, lt-ltb, ltb-true, or_left}
pub use Rattle.std.proofs.lemmas.Bool.{or_parts, or_right}
pub use Rattle.std.proofs.lemmas.Bool.Decides.{nat_tests}
pub use Rattle.std.proofs.lemmas.List.Sums.{sum_by-cons}
pub use Rattle.std.proofs.lemmas.Option.{slice_get_within}
pub use Rattle.std.specs.List.{range_with_len}
pub use Rattle.design_model.proofs.ListLemmas.{eq_self, one_of, some_same, unequal}
pub use Rattle.line_graph.proofs.CallerLemmas.{lost, walk_append}
pub use Rattle.line_graph.specs.PieceGraphs.{PieceValue, degree, is_odd, odd_junctions, one_if}
pub use Rattle.line_graph.specs.PieceWalks.{after_edge, after_pass, all_greater, covers, edge_cost, edge_of, edge_sum, edge_value}
pub use Rattle.line_graph.specs.PieceWalks.{is_fitting_walk, is_line_passed, is_strictly_increasing, pass_end, pass_start, pass_sum}
pub use Rattle.line_graph.specs.PieceWalks.{piece_cost, walk_cost, walk_end_from}
pub use Rattle.line_graph.specs.ValidPieces.{IsConnectedGraph, IsValidPiece, NoEdgeLeaves, ends_below}
pub use Rattle.line_graph.specs.declared.edge.Edge.{Edge}
pub use Rattle.line_graph.specs.declared.pass.Pass.{Pass}
pub use Rattle.blossom_match.specs.Matchings.{IsOptimalMatching, IsPerfectMatching, pair_ends_at, pairs_cost}
pub use Rattle.blossom_match.specs.declared.matching.Moat.{Moat}
pub use Rattle.blossom_match.specs.declared.matching.Pair.{Pair}
pub use Rattle.odd_sets.specs.TableValue.{TableValue}
pub use Rattle.odd_sets.specs.Tables.{HasTriangleInequality, IsTable, entry}
pub use Rattle.std.proofs.lemmas.Bool.{le-ltb, ltb-false}
pub use Rattle.std.proofs.lemmas.List.Elements.{All-filter, All-get_or, filter_passes}
pub use Rattle.std.proofs.lemmas.List.FromFn.{get_or-range_with_len, length-range_with_len}
pub use Rattle.design_model.proofs.ListLemmas.{filter_has}
pub use Rattle.free_ends.specs.BestWalkEnds.{AreBestEnds, AreOddEnds, HasFreeEnds, IsCoveringWalk, piece_with_ends}
pub use Rattle.free_ends.specs.EndDistances.{HasEndDistances, HasFilledRow, end_distance, is_filled_entry}
pub use Rattle.free_ends.specs.Mates.{ends_at_places, ends_by, mate_of}
pub use Rattle.free_ends.specs.declared.end_choice.BestEnds.{BestEnds}
pub use Rattle.free_ends.specs.declared.end_choice.WalkEnds.{WalkEnds}
pub use Rattle.free_ends.specs.declared.free_distances.TheConstants.{FREE_DISTANCE}
pub use Rattle.line_graph.specs.PieceGraphs.{is_odd_junction}
pub use Rattle.odd_paths.proofs.CallerLemmas.{odds_are_terminals}
pub use Rattle.odd_paths.specs.CostTheorems.{AreDistances}
pub use Rattle.odd_paths.specs.LeastRows.{AreRows, AreTerminals, IsLeastCost, RowsValue, WalkLeads, cost_at, terminal_of}
pub use Rattle.odd_sets.proofs.CallerLemmas.{entry-comm}
pub use Rattle.blossom_match.specs.LeastMatchings.{NoneCostsLess}
pub use Rattle.std.proofs.lemmas.List.{get_or_default}
pub use Rattle.blossom_match.proofs.CallerLemmas.{ends_below as place_below}
pub use Rattle.line_graph.specs.PiecesOfDrawings.{graph_of}
pub use Rattle.odd_paths.specs.CostTheorems.{LeastCostsAreDistances}
pub use Rattle.free_ends.specs.BestWalkEnds.{IsBestChoice, IsLeastClosedCost}
pub use Rattle.line_graph.specs.PieceWalks.{are_same_junction, walk_start}
