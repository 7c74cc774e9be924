-- Names from elsewhere that several files of these proofs use.
pub use Rattle.std.proofs.lemmas.Bool.Decides.{nat_tests}
pub use Rattle.std.proofs.lemmas.List.{append_assoc, at_drop_more, length-append, length-drop, length-map}
pub use Rattle.std.proofs.lemmas.List.Elements.{All-cons, All-contains, All-head, All-nil, All-tail}
pub use Rattle.std.specs.List.{AllZip, concat, list_all}
pub use Rattle.design_model.specs.Acts.{acts_of, acts_without_numbers}
pub use Rattle.design_model.specs.Designs.{DesignValue}
pub use Rattle.design_model.specs.LongerDesigns.{with_commands}
pub use Rattle.design_model.specs.Points.{is_point_within, is_same_point}
pub use Rattle.design_model.specs.declared.act.Act.{Act}
pub use Rattle.design_model.specs.declared.command.Command.{Command}
pub use Rattle.design_model.specs.declared.command.Command.TheVariants.{Jump, Stitch, Stop, Trim}
pub use Rattle.design_model.specs.declared.point.Point.{Point}
pub use Rattle.line_graph.specs.Drawings.{DrawingValue, KeepsDrawingLimits}
pub use Rattle.line_graph.specs.LineNeedles.{cost_of_line}
pub use Rattle.line_graph.specs.DrawnWalks.{FittingWalksAreThreads, IsThreadOver, PiecesAreValid}
pub use Rattle.line_graph.specs.PieceGraphs.{PieceValue, edge_between, junctions_of, piece_graph}
pub use Rattle.line_graph.specs.PieceWalks.{IsLeastWalk, edge_cost, edge_sum, is_fitting_walk, piece_cost, walk_cost}
pub use Rattle.line_graph.specs.Pieces.{ArePieces}
pub use Rattle.line_graph.specs.PiecesOfDrawings.{ArePiecesOf, graph_of, lines_of_pieces}
pub use Rattle.line_graph.specs.Runs.{block_of_passes, commands_after, runs_of, sewn_acts, sewn_acts_after}
pub use Rattle.line_graph.specs.SewnWalks.{ArePiecesWithin, FittingWalksAreSewable, IsSewable, PiecesKeepLimits}
pub use Rattle.line_graph.specs.ValidPieces.{IsValidPiece}
pub use Rattle.line_graph.specs.Walks.{needles_of_pass, needles_of_walk}
pub use Rattle.line_graph.specs.declared.pass.Pass.{Pass}
pub use Rattle.line_graph.specs.declared.piece.Piece.{Piece}
pub use Rattle.design_model.proofs.ListLemmas.{number_found, same_number, test_none}
pub use Rattle.odd_cuts.proofs.CallerLemmas.{both_none, costs_more}
pub use Rattle.odd_cuts.specs.Certificates.{walks_of}
pub use Rattle.odd_cuts.specs.CutFaults.{cuts_fault}
pub use Rattle.odd_cuts.specs.DrawnCuts.{IsPackingOver, PackingsAreOverLines}
pub use Rattle.odd_cuts.specs.FaultTheorems.{CutFaultsAreExact, WalkFaultsAreExact}
pub use Rattle.odd_cuts.specs.Faults.{first_fault}
pub use Rattle.odd_cuts.specs.PackingBounds.{BoundsWalks, ProvesLeast}
pub use Rattle.odd_cuts.specs.WalkFaults.{walk_fault}
pub use Rattle.odd_cuts.specs.declared.certificate.PieceCert.{PieceCert}
pub use Rattle.odd_cuts.specs.declared.cut.Cut.{Cut}
pub use Rattle.route_verdict.specs.ActOrder.{are_equal_bools, first_differing_act, is_same_act}
pub use Rattle.route_verdict.specs.LeastRedwork.{IsLeastRedwork, IsLeastRoute, IsLeastThread}
pub use Rattle.route_verdict.specs.SewingSteps.{AllDrawn, AreDrawn, later_needles, run_commands}
pub use Rattle.route_verdict.specs.VerdictTheorems.{CorrectRoutesAreAccepted, YesIsLeastRedwork}
pub use Rattle.route_verdict.specs.Verdicts.{HasShortLists, IsCorrectPieceCert, IsCorrectRoute, IsVerdict, IsVerdictOver, acts_reason}
pub use Rattle.route_verdict.specs.Verdicts.{cost_above, count_reason, cuts_reason, difference_of, piece_reason, pieces_reason, reason_of}
pub use Rattle.route_verdict.specs.Verdicts.{retraced_reason, verdict_of, verdict_of_reason, walk_reason}
pub use Rattle.route_verdict.specs.declared.verdict.Verdict.{Verdict}
