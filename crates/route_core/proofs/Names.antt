-- Names from elsewhere that several files of these proofs use.
pub use Rattle.std.proofs.lemmas.Bool.{and_parts}
pub use Rattle.std.proofs.lemmas.Bool.Decides.{nat_tests}
pub use Rattle.std.proofs.lemmas.List.{append-nil, length-map, length-replicate}
pub use Rattle.std.proofs.lemmas.List.Elements.{All-cons, All-contains, All-from_get_or, All-get_or, All-head, All-map, All-nil, All-tail}
pub use Rattle.std.proofs.lemmas.List.Sums.{get_or-le-sum_by, sum_by-cons}
pub use Rattle.std.specs.List.{AllZip, concat, range_with_len}
pub use Rattle.blossom_match.specs.Matchings.{IsOddMoat, IsOptimalMatching, IsPerfectMatching, moat_load, pair_ends_at, pairs_cost}
pub use Rattle.blossom_match.specs.Matchings.{width_of}
pub use Rattle.blossom_match.specs.declared.matching.Moat.{Moat}
pub use Rattle.blossom_match.specs.declared.matching.Pair.{Pair}
pub use Rattle.double_run.specs.DoubleWalks.{IsDouble, without_ends}
pub use Rattle.line_graph.specs.Drawings.{DrawingValue, KeepsDrawingLimits}
pub use Rattle.line_graph.specs.declared.limits.TheConstants.{MAX_COST, MAX_LINES}
pub use Rattle.euler_tour.specs.Tours.{CanPass, IsTour, copies_cost, pass_count, pass_ends}
pub use Rattle.line_graph.proofs.CallerLemmas.{above_at, commands_count, goes_from, lost, or_below, walk_append}
pub use Rattle.line_graph.specs.PieceGraphs.{PieceValue, closing_edge, degree, edges_with_closing, given_end, given_start, is_odd}
pub use Rattle.line_graph.specs.PieceGraphs.{is_odd_junction, one_if, piece_graph}
pub use Rattle.line_graph.specs.PieceWalks.{BeginsWith, after_edge, after_pass, covers, edge_cost, edge_of, edge_value, is_fitting_walk}
pub use Rattle.line_graph.specs.PieceWalks.{is_strictly_increasing, is_walk_start_to_end, pass_end, pass_start, pass_sum, piece_cost}
pub use Rattle.line_graph.specs.PieceWalks.{required_end, required_start, walk_cost, walk_end_from}
pub use Rattle.line_graph.specs.Pieces.{ArePieces, first_line}
pub use Rattle.line_graph.specs.PiecesOfDrawings.{ArePiecesOf, graph_of, lines_of_pieces}
pub use Rattle.line_graph.specs.Runs.{AreNear, AreWritable, Run, commands_after, run_of, runs_of, sewn_design}
pub use Rattle.line_graph.specs.SewnWalks.{ArePiecesWithin, FittingWalksAreSewable, GoesAlong, IsSewable, PiecesKeepLimits}
pub use Rattle.line_graph.specs.ValidPieces.{IsValidPiece, all_below, all_costs_positive, is_below}
pub use Rattle.line_graph.specs.declared.edge.Edge.{Edge}
pub use Rattle.line_graph.specs.declared.pass.Pass.{Pass}
pub use Rattle.line_graph.specs.declared.piece.Piece.{Piece}
pub use Rattle.design_model.proofs.ListLemmas.{below_left, below_right, eq_self, same_number, sum_over, unequal}
pub use Rattle.odd_cuts.specs.Certificates.{HasCanonicalText, walks_of}
pub use Rattle.odd_cuts.specs.PackingBounds.{BoundsTotal, ProvesLeast}
pub use Rattle.odd_cuts.specs.Packings.{IsOddCut, IsPacking, IsPlainCut}
pub use Rattle.odd_cuts.specs.declared.certificate.PieceCert.{PieceCert}
pub use Rattle.odd_cuts.specs.declared.cut.Cut.{Cut}
pub use Rattle.odd_paths.proofs.CallerLemmas.{is_wide, odds_are_terminals}
pub use Rattle.odd_paths.specs.LeastRows.{AreRows, AreTerminals, IsLeastCost, IsPath, RowsValue, cost_at, cost_in, lines_at_indexes}
pub use Rattle.odd_paths.specs.LeastRows.{terminal_of}
pub use Rattle.odd_sets.specs.TableValue.{TableValue}
pub use Rattle.odd_sets.specs.Tables.{HasTriangleInequality, IsTable, entry}
pub use Rattle.route_core.specs.Copies.{AddsCopies, AddsPairs, IsPairOf, copies_sum, edge_end_count, incremented_at, index_sum, pair_costs}
pub use Rattle.route_core.specs.Copies.{pair_ends, total_copies}
pub use Rattle.route_core.specs.Distances.{HasFilledEntries, IsTableOf, is_filled_entry}
pub use Rattle.route_core.specs.Doubles.{IsDoubleCert, IsDoubled}
pub use Rattle.route_core.specs.OddPairs.{AreOddPairs, AreOddRows, IsWalkBy}
pub use Rattle.route_core.specs.PieceCertificates.{CertifiesLeastWalk}
pub use Rattle.route_core.specs.Routes.{IsLeastPieceRoute}
pub use Rattle.route_core.specs.declared.routed.Routed.{Routed}
pub use Rattle.route_verdict.specs.SewingSteps.{AllDrawn, AreDrawn}
