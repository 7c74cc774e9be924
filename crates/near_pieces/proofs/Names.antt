-- Names from elsewhere that several files of these proofs use.
pub use Rattle.std.proofs.lemmas.Bool.{and_parts}
pub use Rattle.std.proofs.lemmas.Bool.Decides.{nat_tests}
pub use Rattle.std.proofs.lemmas.List.{append-nil, length-map}
pub use Rattle.std.proofs.lemmas.List.Edits.{length-remove}
pub use Rattle.std.proofs.lemmas.List.Elements.{All-append, All-drop, All-take}
pub use Rattle.std.proofs.lemmas.List.FromFn.{get_or-range_with_len, length-range_with_len}
pub use Rattle.std.proofs.lemmas.List.Sorted.{All-permutation, IsPermutation-more}
pub use Rattle.std.proofs.lemmas.List.Sorted.{IsPermutation-refl, IsPermutation-trans}
pub use Rattle.std.proofs.lemmas.List.Sorted.{length_permutation}
pub use Rattle.std.proofs.lemmas.Option.{get_or_from_slice_get, slice_get-get_or, slice_get_within}
pub use Rattle.std.specs.List.{prefix_len, range_with_len, remove}
pub use Rattle.design_model.specs.declared.point.Point.{Point}
pub use Rattle.line_graph.specs.declared.piece.Piece.{Piece}
pub use Rattle.line_graph.specs.Drawings.{DrawingValue}
pub use Rattle.line_graph.specs.EndOrders.{AreInBlockOrder, HasOrderedEnds}
pub use Rattle.line_sections.specs.declared.spot.Spot.{Spot}
pub use Rattle.line_sections.specs.Lines.{LineValue}
pub use Rattle.near_pieces.specs.declared.near_drawing.NearDrawing.{NearDrawing}
pub use Rattle.near_pieces.specs.declared.near_lines.NearLines.{NearLines}
pub use Rattle.near_pieces.specs.declared.node.Node.{Node}
pub use Rattle.near_pieces.specs.declared.ordering.VisitOrder.{VisitOrder}
pub use Rattle.near_pieces.specs.declared.visit.Visit.{Visit}
pub use Rattle.near_pieces.specs.NearDrawings.{HasTravel, IsFoundFrom, IsLesser, IsNear, are_in_order, rises_from}
pub use Rattle.near_pieces.specs.NearLines.{AreNearLines, AreNearOrders, if_there, lines_in, lines_in_run}
pub use Rattle.near_pieces.specs.NearLines.{lines_numbered, lines_of, needle_after_run, starts_in, starts_in_run}
pub use Rattle.near_pieces.specs.NearSteps.{IsRunPut, if_put, piece_put, run_put}
pub use Rattle.near_pieces.specs.Nodes.{AreInside, IsLeastAfter, IsMeasured, IsNode, IsNodeAfter, IsTriedUpTo, less_of}
pub use Rattle.near_pieces.specs.Nodes.{node_after}
pub use Rattle.near_pieces.specs.PiecePlaces.{needle_after, place_of, starts_of}
pub use Rattle.near_pieces.specs.PieceRuns.{block_runs, with_piece}
pub use Rattle.near_pieces.specs.VisitOrders.{IsNearOrder, IsOrderOf, given_order}
pub use Rattle.near_pieces.specs.Visits.{exit_from, travel_in, visit_at, way_to}
