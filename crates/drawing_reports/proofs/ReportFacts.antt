-- Worked reports of `look` and `free`.
use Rattle.std.proofs.Common.{◌≡◌, pos, false, [], ◌∷◌, ◌++◌, Some, None, codes, refl}
use Rattle.std.specs.Fmt.{digits}
use Rattle.design_model.specs.TextLines.{newline}
use Rattle.drawing_reports.proofs.LookFacts.{found, its_stitches, stroke}
use Rattle.drawing_reports.specs.FreeTexts.{ends_line, found_line, free_report, left_line}
use Rattle.drawing_reports.specs.LookTexts.{look_piece_line, look_report}
use Rattle.drawing_reports.specs.PlaceTexts.{named_meetings, place_count, place_lines}
use Rattle.drawing_reports.specs.declared.spacing.Spacing.{Spacing}
use Rattle.free_ends.specs.declared.piece_ends.PieceEnds.TheVariants as ends
use Rattle.line_graph.specs.PiecesOfDrawings.{graph_of}
use Rattle.line_graph.specs.declared.piece.Piece.{Piece}
use Rattle.line_meetings.specs.declared.meeting.MeetingKind.TheVariants as meeting

-- one short stitch of the first line
abbrev short : Spacing
short = record { block = 0; line = 0; stitches = 1; first = record { x = pos 0; y = pos 0 }; shortest = 300; longest = 300 }

-- places are meetings, and then lines with short stitches
pub known_places : (place_lines (found meeting.Crossing false ∷ found meeting.Repeat false ∷ []) (short ∷ [])
    ≡ codes "block 2 line 4 and line 7 at 40 -1: crossing" ++ (newline
    ++ (codes "block 2 line 4 and line 7 at 40 -1: repeated segment" ++ (newline
    ++ (codes "block 1 line 1: 1 stitch shorter than half a step, the first at 0 0, shortest 3, longest 3" ++ newline)))))
    × (place_count (found meeting.Crossing false ∷ found meeting.Repeat false ∷ []) (short ∷ []) ≡ 3)
unfolding digits named_meetings
known_places = (refl, refl)

-- the report has the size, each piece by its number, the places and the totals
pub known_look : (p q : Piece) → look_report None (p ∷ q ∷ []) (its_stitches ∷ its_stitches ∷ []) [] (short ∷ [])
    ≡ codes "size 0 0 pieces 2" ++ (newline
    ++ ((look_piece_line 0 (graph_of p) its_stitches ++ (look_piece_line 1 (graph_of q) its_stitches ++ []))
    ++ ((codes "block 1 line 1: 1 stitch shorter than half a step, the first at 0 0, shortest 3, longest 3" ++ newline)
    ++ (codes "pieces 2 places 1 thread 71 travel 246" ++ newline))))
unfolding digits named_meetings
known_look p q = refl

-- a piece that gets a start and an end, one that is left, one that has its ends, and one that needs none
pub known_free_lines : (found_line 6 stroke (ends.Best (record { ends = Some (record { start = 0; end = 1 }); cost = 2; closed = 4 }))
    ≡ codes "block 2 piece 7 start 0 0 end 50 9 penetrations 5 to 3" ++ newline)
    × (found_line 6 stroke ends.TooMany ≡ codes "block 2 piece 7 odd 2 left" ++ newline)
    × (found_line 6 stroke ends.Given ≡ [])
    × (found_line 6 stroke (ends.Best (record { ends = None; cost = 2; closed = 2 })) ≡ [])
unfolding digits
known_free_lines = (refl, refl, refl, refl)

-- the report has the lines of pieces by their numbers, and the penetrations of those whose best ends are found
pub known_free : (p q r : Piece) → free_report (p ∷ q ∷ r ∷ []) (ends.TooMany ∷ ends.Best (record { ends = None; cost = 7; closed = 9 })
    ∷ ends.Best (record { ends = Some (record { start = 0; end = 1 }); cost = 2; closed = 4 }) ∷ [])
    ≡ (left_line 0 (graph_of p) ++ (ends_line 2 (graph_of r) (record { ends = Some (record { start = 0; end = 1 }); cost = 2; closed = 4 })
    (Some (record { start = 0; end = 1 })) ++ []))
    ++ (codes "penetrations 15 to 11 pieces 3" ++ newline)
unfolding digits
known_free p q r = refl
