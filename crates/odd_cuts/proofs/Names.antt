-- Names from elsewhere that several files of these proofs use.
pub use Rattle.std.proofs.lemmas.Bool.{and_from, and_parts, cases_eq}
pub use Rattle.std.proofs.lemmas.Bool.Decides.{nat_tests}
pub use Rattle.std.proofs.lemmas.List.{at_drop_more, get_or-set_other, get_or-set_same, length-set}
pub use Rattle.std.proofs.lemmas.List.Elements.{All-cons, All-head, All-nil, All-tail, All-weaker}
pub use Rattle.std.proofs.lemmas.Option.{get_or_from_slice_get, slice_get-get_or, slice_get_past, slice_get_within}
pub use Rattle.std.specs.List.{count_by, fold, range_with_len}
pub use Rattle.std.specs.Option.{option_or}
pub use Rattle.design_model.specs.declared.point.Point.{Point}
pub use Rattle.line_graph.specs.declared.limits.TheConstants.{MAX_LINES}
pub use Rattle.line_graph.proofs.CallerLemmas.{degree_closed, degrees_few, ends_at, lost, stays_lost}
pub use Rattle.line_graph.specs.PieceGraphs.{PieceValue, closing_edge, degree, degrees_from, edge_between, edges_with_closing}
pub use Rattle.line_graph.specs.PieceGraphs.{first_junction_among, given_end, given_start, is_odd, junction_number, junctions_of, one_if}
pub use Rattle.line_graph.specs.PieceGraphs.{piece_graph}
pub use Rattle.line_graph.specs.PieceWalks.{after_edge, all_greater, are_same_junction, covers, edge_cost, edge_of, edge_sum, edge_value}
pub use Rattle.line_graph.specs.PieceWalks.{is_fitting_walk, is_line_passed, is_strictly_increasing, is_walk_start_to_end, pass_end}
pub use Rattle.line_graph.specs.PieceWalks.{pass_start, pass_start_on, pass_sum, passes, piece_cost, walk_cost, walk_end_from, walk_start}
pub use Rattle.line_graph.specs.PiecesOfDrawings.{graph_of}
pub use Rattle.line_graph.specs.ValidPieces.{IsValidPiece, NoEdgeLeaves, all_below, ends_below}
pub use Rattle.line_graph.specs.declared.edge.Edge.{Edge}
pub use Rattle.line_graph.specs.declared.pass.Pass.{Pass}
pub use Rattle.design_model.proofs.ListLemmas.{eq_self, test_none}
pub use Rattle.odd_cuts.specs.CheckTables.{AddsShares, AreAtMost, AreLoads, AreMemberFlags, odd_among, parities_from, share_of}
pub use Rattle.odd_cuts.specs.CheckTables.{table_load_faults}
pub use Rattle.odd_cuts.specs.CutFaults.{HaveNumberedMembers, cut_fault, cut_faults, cuts_fault, load_fault, load_faults, stranger_fault}
pub use Rattle.odd_cuts.specs.CutFaults.{total_fault}
pub use Rattle.odd_cuts.specs.Cuts.{crosses, has_member, load_on, total_weight}
pub use Rattle.odd_cuts.specs.Faults.{ReportsFault, first_fault}
pub use Rattle.odd_cuts.specs.PackingBounds.{BoundsTotal, BoundsWalks, ProvesLeast}
pub use Rattle.odd_cuts.specs.Packings.{IsOddCut, IsPacking, IsPlainCut, odd_held}
pub use Rattle.odd_cuts.specs.WalkFaults.{ChecksWalk, ends_fault, faults_at, faults_from, missing_fault, pass_fault, pass_faults}
pub use Rattle.odd_cuts.specs.WalkFaults.{walk_ends_fault, walk_fault}
pub use Rattle.odd_cuts.specs.declared.certificate.PieceCert.{PieceCert}
pub use Rattle.odd_cuts.specs.declared.cut.Cut.{Cut}
pub use Rattle.odd_cuts.specs.declared.faults.CutFault.{CutFault}
