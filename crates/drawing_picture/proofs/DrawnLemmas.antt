-- The picture of the pieces that are found is that of the drawing.
use Rattle.std.proofs.Common.{◌≡◌, ℕ, suc, List, [], ◌∷◌, Option, length, map, ap, ◌∙◌, refl}
use Rattle.drawing_picture.proofs.Names.{JunctionMark, marks_of_pieces, Piece, DrawingValue, PieceValue, ArePiecesOf, graph_of, lines_of_pieces, LineValue}
use Rattle.drawing_picture.specs.declared.drawn_picture.TheConstants.{MEETING_GAP}
use Rattle.drawing_picture.specs.declared.labels.Label.{Label}
use Rattle.drawing_picture.specs.DrawingPictures.{IsDrawingPicture, labelled_on_sides, picture_of_pieces}
use Rattle.drawing_picture.specs.Labels.{labels_of_all}
use Rattle.line_meetings.specs.declared.meeting.Meeting.{Meeting}
use Rattle.line_meetings.specs.Meetings.{meetings_of_lines}
use Rattle.picture_parts.specs.declared.sizes.PictureSize.{PictureSize}
use Rattle.drawing_picture.proofs.CertificateLemmas.{graphs_are}

counted : (pieces : List Piece) → length pieces ≡ length (map graph_of pieces)
counted [] = refl
counted (p ∷ pieces) = ap (λ (n : ℕ). suc n) (counted pieces)

pub picture_is : (d : DrawingValue) (lines : List LineValue) (size : Option PictureSize) (pieces : List Piece)
    (marks : List JunctionMark) (meetings : List Meeting) (labels : List Label) (text : List ℕ) → ArePiecesOf d pieces
    → marks ≡ marks_of_pieces (map graph_of pieces) → meetings ≡ meetings_of_lines MEETING_GAP lines
    → labels ≡ labels_of_all (map graph_of pieces) lines
    → text ≡ labelled_on_sides d size (length lines) (length pieces) marks meetings labels → IsDrawingPicture d lines size text
picture_is d lines size pieces marks meetings labels text are marks_are meetings_are labels_are is = record {
  pieces = lines_of_pieces pieces;
  pieces_are = are.are;
  shown = is ∙ ap (λ (ms : List JunctionMark). labelled_on_sides d size (length lines) (length pieces) ms meetings labels) marks_are
      ∙ ap (λ (n : ℕ). labelled_on_sides d size (length lines) n (marks_of_pieces (map graph_of pieces)) meetings labels) (counted pieces)
      ∙ ap (λ (ms : List Meeting). labelled_on_sides d size (length lines) (length (map graph_of pieces))
      (marks_of_pieces (map graph_of pieces)) ms labels) meetings_are
      ∙ ap (λ (ls : List Label). labelled_on_sides d size (length lines) (length (map graph_of pieces))
      (marks_of_pieces (map graph_of pieces)) (meetings_of_lines MEETING_GAP lines) ls) labels_are
      ∙ ap (λ (gs : List PieceValue). picture_of_pieces d size gs lines) (graphs_are d pieces are.each);
}
