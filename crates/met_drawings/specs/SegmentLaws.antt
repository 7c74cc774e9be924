-- Laws of lines without copies: which segments are left.
use Rattle.std.specs.Prelude.{◌≡◌, List, [], ◌∷◌, ◌++◌, if◌then◌else◌}
use Rattle.std.specs.List.{flat_map}
use Rattle.line_sections.specs.Lines.{LineValue}
use Rattle.met_drawings.specs.declared.passed_segments.PassedSegment.{PassedSegment}
use Rattle.met_drawings.specs.Copies.{passed_by, uncopied_lines}
use Rattle.met_drawings.specs.PassedSegments.{is_passed_in}

-- The segments of lines, in order.
abbrev pub segments_passed : List LineValue → List PassedSegment
segments_passed lines = flat_map (λ line. passed_by line.block line.points) lines

-- Segments without those that an earlier one has, in either direction, where some were passed
-- before.
abbrev pub first_segments : List PassedSegment → List PassedSegment → List PassedSegment
first_segments passed [] = []
first_segments passed (s ∷ rest) =
    (if is_passed_in passed s then [] else s ∷ []) ++ first_segments (passed ++ s ∷ []) rest

-- The segments that are left of lines are those that no earlier one of their block has, each once
-- and in order.
abbrev pub SegmentsAreLeftOnce : Type 0
SegmentsAreLeftOnce = (lines : List LineValue)
    → segments_passed (uncopied_lines lines) ≡ first_segments [] (segments_passed lines)

-- Lines without copies stay as they are.
abbrev pub LinesWithoutCopiesStay : Type 0
LinesWithoutCopiesStay = (lines : List LineValue)
    → uncopied_lines (uncopied_lines lines) ≡ uncopied_lines lines
