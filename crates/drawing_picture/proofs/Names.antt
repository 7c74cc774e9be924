-- Names from elsewhere that several files of these proofs use.
pub use Rattle.std.proofs.lemmas.Bool.Decides.{nat_tests}
pub use Rattle.std.proofs.lemmas.List.{append_assoc, length-drop, length-map, length-reverse, length-take-le}
pub use Rattle.std.proofs.lemmas.List.Elements.{All-cons, All-contains, All-head, All-nil, All-tail}
pub use Rattle.std.proofs.lemmas.List.Sums.{sum_by-cons}
pub use Rattle.std.proofs.lemmas.Slice.Zip.{Zip-more, either_empty_from_Zip}
pub use Rattle.std.specs.Iterator.Adapters.{zip_first, zip_second}
pub use Rattle.std.specs.List.{AllZip, concat, filter, flat_map, range_with_len}
pub use Rattle.std.specs.Slice.Iter.{iter_rest}
pub use Rattle.design_model.specs.Designs.{DesignValue}
pub use Rattle.design_model.specs.declared.point.Point.{Point}
pub use Rattle.line_graph.specs.Drawings.{DrawingValue, KeepsDrawingLimits}
pub use Rattle.drawing_picture.specs.BandLaws.{BandsShowLoads, band_length}
pub use Rattle.drawing_picture.specs.BandTexts.{band_text, bands_of_lines, bands_of_pieces, colour_of_cut, way_points}
pub use Rattle.drawing_picture.specs.Bands.{Band, band_along, bands_from, half_steps_from, half_steps_of_line}
pub use Rattle.drawing_picture.specs.CheckedProofs.{AreSewn, IsFirstFault, IsShownProof, RightCertificatesAreSewn, certificate_reason}
pub use Rattle.drawing_picture.specs.CheckedProofs.{reason_before_acts}
pub use Rattle.drawing_picture.specs.DrawingCaptions.{junction_dot, spot_mark, thread_lines}
pub use Rattle.drawing_picture.specs.JunctionMarks.{marks_from, marks_of_piece, marks_of_pieces, odd_marks}
pub use Rattle.drawing_picture.specs.LinePaths.{line_paths}
pub use Rattle.drawing_picture.specs.ProofPictures.{proof_of_design, retraced_steps}
pub use Rattle.drawing_picture.specs.TestedMarks.{tested_marks}
pub use Rattle.drawing_picture.specs.declared.junction_marks.JunctionMark.{JunctionMark}
pub use Rattle.line_graph.proofs.CallerLemmas.{commands_count, degree_closed}
pub use Rattle.line_graph.specs.PieceGraphs.{PieceValue, degrees_from, given_end, given_start, is_odd_junction, one_if, piece_graph}
pub use Rattle.line_graph.specs.PiecesOfDrawings.{ArePiecesOf, graph_of, lines_of_pieces}
pub use Rattle.line_graph.specs.ValidPieces.{IsValidPiece}
pub use Rattle.line_graph.specs.declared.piece.Piece.{Piece}
pub use Rattle.line_sections.specs.Lines.{LineValue, points_of_lines}
pub use Rattle.odd_cuts.specs.Cuts.{crosses, has_member, load_on, total_weight}
pub use Rattle.odd_cuts.specs.declared.certificate.PieceCert.{PieceCert}
pub use Rattle.odd_cuts.specs.declared.cut.Cut.{Cut}
pub use Rattle.route_verdict.specs.Verdicts.{IsCorrectPieceCert, IsCorrectRoute, IsVerdict, acts_reason, count_reason, difference_of}
pub use Rattle.route_verdict.specs.Verdicts.{piece_reason, pieces_reason, verdict_of_reason}
pub use Rattle.step_splitter.specs.Chains.{IsNeedlePoint}
