-- Worked values of lines without copies, and of meetings that are left, in tenths of a millimetre.
use Rattle.std.proofs.Common.{◌≡◌, ◌≢◌, ◌∙◌, ℕ, pos, Bool, true, false, List, [], ◌∷◌, ◌++◌, length, map, ap, sym, refl, arith}
use Rattle.design_model.specs.declared.point.Point.{Point}
use Rattle.line_graph.specs.declared.draw_kind.DrawKind.TheVariants as kind
use Rattle.line_meetings.specs.declared.meeting.Meeting.{Meeting}
use Rattle.line_meetings.specs.declared.meeting.MeetingKind.{MeetingKind}
use Rattle.line_meetings.specs.declared.meeting.MeetingKind.TheVariants as meeting
use Rattle.line_sections.specs.Lines.{LineValue}
use Rattle.line_sections.specs.Sections.{lines_through}
use Rattle.met_drawings.specs.Copies.{passed_segment, uncopied_lines}
use Rattle.met_drawings.specs.MeetingCounts.{is_left}
use Rattle.met_drawings.specs.MetDrawings.{meet_is_out_of_memory}
use Rattle.met_drawings.specs.SegmentLaws.{SegmentsAreLeftOnce, first_segments, segments_passed}
use Rattle.met_drawings.specs.declared.listed_meetings.MeetingRule.{MeetingRule}
use Rattle.met_drawings.specs.declared.meet_fault.MeetFault.TheVariants as fault
use Rattle.met_drawings.specs.declared.passed_segments.PassedSegment.{PassedSegment}

abbrev at : ℕ → ℕ → Point
at x y = record { x = pos x; y = pos y }

-- a copy in either direction is left out, and the line is cut there
pub known_cut : (uncopied_lines (lines_through 0 ((at 0 0 ∷ at 9 1 ∷ []) ∷ (at 2 7 ∷ at 9 1 ∷ at 0 0 ∷ at 5 5 ∷ []) ∷ []))
    ≡ lines_through 0 ((at 0 0 ∷ at 9 1 ∷ []) ∷ (at 2 7 ∷ at 9 1 ∷ []) ∷ (at 0 0 ∷ at 5 5 ∷ []) ∷ []))
    × (uncopied_lines (lines_through 0 ((at 0 0 ∷ at 9 1 ∷ []) ∷ (at 2 7 ∷ at 0 0 ∷ at 9 1 ∷ []) ∷ []))
    ≡ lines_through 0 ((at 0 0 ∷ at 9 1 ∷ []) ∷ (at 2 7 ∷ at 0 0 ∷ []) ∷ []))
known_cut = (refl, refl)

-- a copy in its own line, and a line of which nothing is left
pub known_left : uncopied_lines (lines_through 0 ((at 0 0 ∷ at 9 1 ∷ at 0 0 ∷ []) ∷ (at 9 1 ∷ at 0 0 ∷ at 9 1 ∷ []) ∷ []))
    ≡ lines_through 0 ((at 0 0 ∷ at 9 1 ∷ []) ∷ [])
known_left = refl

-- segments of two blocks, and those that share one end, are no copies
pub known_kept : uncopied_lines (lines_through 0 ((at 0 0 ∷ at 9 1 ∷ []) ∷ (at 0 0 ∷ at 1 9 ∷ []) ∷ (at 1 9 ∷ at 9 1 ∷ []) ∷ [])
    ++ lines_through 1 ((at 0 0 ∷ at 9 1 ∷ []) ∷ []))
    ≡ lines_through 0 ((at 0 0 ∷ at 9 1 ∷ []) ∷ (at 0 0 ∷ at 1 9 ∷ []) ∷ (at 1 9 ∷ at 9 1 ∷ []) ∷ [])
    ++ lines_through 1 ((at 0 0 ∷ at 9 1 ∷ []) ∷ [])
known_kept = refl

-- of segments of a block the first in either direction, and those of another block
pub known_firsts : first_segments [] (passed_segment 0 (at 0 0) (at 9 1) ∷ passed_segment 0 (at 9 1) (at 5 5)
    ∷ passed_segment 0 (at 9 1) (at 0 0) ∷ passed_segment 1 (at 0 0) (at 9 1) ∷ passed_segment 0 (at 0 0) (at 9 1) ∷ [])
    ≡ passed_segment 0 (at 0 0) (at 9 1) ∷ passed_segment 0 (at 9 1) (at 5 5) ∷ passed_segment 1 (at 0 0) (at 9 1) ∷ []
known_firsts = refl

-- a copy in the other direction isn't left as a segment
abbrev copied : List LineValue
copied = lines_through 0 ((at 0 0 ∷ at 9 1 ∷ []) ∷ (at 9 1 ∷ at 0 0 ∷ []) ∷ [])

pub refuted_copy : SegmentsAreLeftOnce → segments_passed (uncopied_lines copied)
    ≡ passed_segment 0 (at 0 0) (at 9 1) ∷ passed_segment 0 (at 9 1) (at 0 0) ∷ [] → ⊥
refuted_copy law is =
    let counts : 2 ≡ 1 = ap (λ (segments : List PassedSegment). length segments) (sym is ∙ law copied) in omega (arith, counts)

-- the segments of lines that are left are each the first in its block, in order
pub applied_once : SegmentsAreLeftOnce → (lines : List LineValue) (other : List PassedSegment)
    → other ≢ first_segments [] (segments_passed lines) → segments_passed (uncopied_lines lines) ≡ other → ⊥
applied_once law lines other differ is = differ (sym is ∙ law lines)

-- the segments of two lines in two blocks
pub known_passed : segments_passed (lines_through 3 ((at 0 0 ∷ at 9 1 ∷ at 5 5 ∷ []) ∷ []) ++ lines_through 4 ((at 5 5 ∷ at 9 1 ∷ []) ∷ []))
    ≡ passed_segment 3 (at 0 0) (at 9 1) ∷ passed_segment 3 (at 9 1) (at 5 5) ∷ passed_segment 4 (at 5 5) (at 9 1) ∷ []
known_passed = refl

-- only a lack of memory is out of memory
pub known_out_of_memory : map meet_is_out_of_memory (fault.Limit kind.Memory ∷ fault.Limit kind.TooManyLines
    ∷ fault.Vanished (record { block = 0; line = 0 }) ∷ []) ≡ true ∷ false ∷ false ∷ []
known_out_of_memory = refl

-- a rule that lists crossings, or not, and keeps copies, or not; and a meeting of a kind
abbrev rule_that : (lists_crossings keeps_copies : Bool) → MeetingRule
rule_that lists_crossings keeps_copies =
    record { gap = 3; lists_crossings = lists_crossings; keeps_copies = keeps_copies }

abbrev meeting_of : MeetingKind → Meeting
meeting_of kind = record {
  kind = kind;
  block = 0;
  line = 0;
  index = 0;
  is_end = false;
  other = 1;
  other_index = 0;
  from = at 0 0;
  to = at 0 0;
  distance = 0;
}

-- two close points, a crossing, and a segment that is drawn again
abbrev left_by : MeetingRule → List Bool
left_by rule = map (λ kind. is_left rule (meeting_of kind)) (meeting.ClosePoints ∷ meeting.Crossing ∷ meeting.Repeat ∷ [])

-- a crossing is left only where crossings are listed, a copy only where copies aren't kept
pub known_rules : (left_by (rule_that true false) ≡ true ∷ true ∷ true ∷ []) × (left_by (rule_that false false) ≡ true ∷ false ∷ true ∷ [])
    × (left_by (rule_that true true) ≡ true ∷ true ∷ false ∷ []) × (left_by (rule_that false true) ≡ true ∷ false ∷ false ∷ [])
known_rules = (refl, refl, refl, refl)
