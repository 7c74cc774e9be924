-- Names from elsewhere that several files of these proofs use.
pub use Rattle.std.proofs.lemmas.Bool.{and_from, and_parts, or_parts}
pub use Rattle.std.proofs.lemmas.Bool.Decides.{nat_tests}
pub use Rattle.std.proofs.lemmas.List.Elements.{All-cons, All-from_get_or, All-get_or, All-nil}
pub use Rattle.double_run.specs.DoubleWalks.{IsDouble, IsPassedBothWays, directed_passes, same_way, without_ends}
pub use Rattle.double_run.specs.TraversalSteps.{GoesOut, IsTraversalDone, IsTraversalStep, remaining_count, traversal_rank}
pub use Rattle.double_run.specs.Traversals.{HasTraversalTables, IsLegFrom, IsTraversal, IsTraversalInvariant, KeepsTraversal, WasPassed}
pub use Rattle.double_run.specs.Traversals.{edge_at, has_end_at, is_exhausted, is_on_stack, is_visited, leg_pass, leg_return}
pub use Rattle.double_run.specs.Traversals.{legs_are_below, passed_cost, return_walk, root_junction}
pub use Rattle.double_run.specs.declared.legs.DirectedLeg.{DirectedLeg}
pub use Rattle.euler_tour.proofs.CallerLemmas.{all_done, cursor_read, cursors_begin, cursors_skip, cursors_stay, end_low, ends_are_below}
pub use Rattle.euler_tour.proofs.CallerLemmas.{skipped_less}
pub use Rattle.euler_tour.specs.Cursors.{AreCursors, SkipsEnd}
pub use Rattle.line_graph.proofs.CallerLemmas.{begins_on, edge_found, edge_there, first_less, lost, rest_rises, walk_append}
pub use Rattle.line_graph.specs.PieceGraphs.{PieceValue, is_odd, one_if}
pub use Rattle.line_graph.specs.PieceWalks.{BeginsWith, after_edge, covers, edge_cost, edge_of, edge_sum, edge_value, is_fitting_walk}
pub use Rattle.line_graph.specs.PieceWalks.{is_line_passed, is_strictly_increasing, pass_end, pass_start, pass_sum, piece_cost, walk_cost}
pub use Rattle.line_graph.specs.PieceWalks.{walk_end_from, walk_start}
pub use Rattle.line_graph.specs.Pieces.{first_line}
pub use Rattle.line_graph.specs.PiecesOfDrawings.{graph_of}
pub use Rattle.line_graph.specs.ValidPieces.{IsValidPiece, ends_below}
pub use Rattle.line_graph.specs.declared.edge.Edge.{Edge}
pub use Rattle.line_graph.specs.declared.pass.Pass.{Pass}
pub use Rattle.design_model.proofs.ListLemmas.{differs, differs_back, eq_self, less_test, one_before, one_of, same_number, same_test}
pub use Rattle.design_model.proofs.ListLemmas.{some_same, suc_zero}
