-- Worked lines of the report of `look`.
use Rattle.std.proofs.Common.{◌≡◌, pos, negsuc, Bool, true, false, [], ◌∷◌, ◌++◌, Some, None, codes, refl}
use Rattle.std.specs.Fmt.{digits}
use Rattle.drawing_reports.specs.LookTexts.{look_piece_line, look_totals_text}
use Rattle.design_model.specs.TextLines.{newline}
use Rattle.drawing_reports.specs.LookTexts.{look_head}
use Rattle.drawing_reports.specs.PlaceTexts.{limit_line, meeting_line, spacing_line}
use Rattle.line_meetings.specs.declared.meeting.Meeting.{Meeting}
use Rattle.line_meetings.specs.declared.meeting.MeetingKind.{MeetingKind}
use Rattle.line_meetings.specs.declared.meeting.MeetingKind.TheVariants as meeting
use Rattle.line_graph.specs.PieceGraphs.{PieceValue}
use Rattle.piece_stitches.specs.declared.counting.PieceStitches.{PieceStitches}

abbrev pub stroke : PieceValue
stroke = record {
  block = 1;
  lines = 4 ∷ [];
  junctions = record { x = pos 0; y = pos 0 } ∷ record { x = pos 50; y = pos 9 } ∷ [];
  edges = record { a = 0; b = 1; cost = 2 } ∷ [];
  degrees = 1 ∷ 1 ∷ [];
  start = None;
  end = None;
}

abbrev pub its_stitches : PieceStitches
its_stitches = record {
  summary = record { stitches = 2; shortest = 999; longest = 2599; short = 1; thread = 3598 };
  travel = 12300;
}

-- lengths in thousandths of a millimetre are printed in tenths, rounded down
pub known_piece_line : look_piece_line 6 stroke its_stitches ≡
    codes "block 2 piece 7 lines 1 junctions 2 odd 2 stitches 2 shortest 9 longest 25 short 1 thread 35 travel 123" ++ newline
unfolding digits
known_piece_line = refl

pub known_totals : look_totals_text 7 0 3598 12300 ≡ codes "pieces 7 places 0 thread 35 travel 123" ++ newline
unfolding digits
known_totals = refl

pub known_head :
    look_head (Some (record { min = record { x = negsuc 9; y = pos 2 }; max = record { x = pos 70; y = pos 5 } })) 3
    ≡ codes "size 80 3 pieces 3" ++ newline
unfolding digits
known_head = refl

abbrev pub found : MeetingKind → Bool → Meeting
found kind is_end = record {
  kind = kind;
  block = 1;
  line = 3;
  index = 5;
  is_end = is_end;
  other = 6;
  other_index = 7;
  from = record { x = pos 40; y = negsuc 0 };
  to = record { x = pos 41; y = pos 9 };
  distance = 2;
}

-- a point that is apart from the other line, and what both lines have
pub known_meeting_lines : (meeting_line (found meeting.ClosePoints true) ≡ codes "block 2 line 4 at 40 -1: loose end, 2 from line 7"
    ++ newline)
    × (meeting_line (found meeting.BesideSegment false) ≡ codes "block 2 line 4 at 40 -1: near point, 2 from line 7" ++ newline)
    × (meeting_line (found meeting.OnSegment true) ≡ codes "block 2 line 4 and line 7 at 40 -1: unlisted meeting" ++ newline)
    × (meeting_line (found meeting.Crossing false) ≡ codes "block 2 line 4 and line 7 at 40 -1: crossing" ++ newline)
    × (meeting_line (found meeting.Overlap false) ≡ codes "block 2 line 4 and line 7 at 40 -1: overlap from 40 -1 to 41 9" ++ newline)
    × (meeting_line (found meeting.Repeat false) ≡ codes "block 2 line 4 and line 7 at 40 -1: repeated segment" ++ newline)
unfolding digits
known_meeting_lines = (refl, refl, refl, refl, refl, refl)

pub known_spacing_lines : (spacing_line (record {
  block = 0;
  line = 2;
  stitches = 449;
  first = record { x = pos 4; y = negsuc 4 };
  shortest = 199;
  longest = 1200;
})
    ≡ codes "block 1 line 3: 449 stitches shorter than half a step, the first at 4 -5, shortest 1, longest 12" ++ newline)
    × (spacing_line (record { block = 0; line = 0; stitches = 1; first = record { x = pos 0; y = pos 0 }; shortest = 300; longest = 300 })
    ≡ codes "block 1 line 1: 1 stitch shorter than half a step, the first at 0 0, shortest 3, longest 3" ++ newline)
unfolding digits
known_spacing_lines = (refl, refl)

pub known_limit_lines : (limit_line true ≡ codes "more than 65536 places: the first are named" ++ newline) × (limit_line false ≡ [])
known_limit_lines = (refl, refl)
