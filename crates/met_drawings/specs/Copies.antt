-- Lines without copies of segments. A segment of a block that an earlier one has, in either
-- direction, is left out, and its line is cut there. Of a line of which nothing is left there is no
-- part.
use Rattle.std.specs.Prelude.{ℕ, Bool, ◌&&◌, nat_le, true, List, [], ◌∷◌, ◌++◌, length, map, if◌then◌else◌}
use Rattle.design_model.specs.declared.point.Point.{Point}
use Rattle.line_sections.specs.Lines.{LineValue}
use Rattle.met_drawings.specs.declared.passed_segments.PassedSegment.{PassedSegment}
use Rattle.met_drawings.specs.PassedSegments.{is_passed_in}

-- The segment from p to q of a block.
abbrev pub passed_segment : ℕ → (p q : Point) → PassedSegment
passed_segment block p q = record { block = block; from = p; to = q }

-- The segments of a block from p on through the given points.
abbrev pub passed_from : ℕ → Point → List Point → List PassedSegment
passed_from block p [] = []
passed_from block p (q ∷ rest) = passed_segment block p q ∷ passed_from block q rest

-- The segments of a line.
abbrev pub passed_by : ℕ → List Point → List PassedSegment
passed_by block [] = []
passed_by block (p ∷ rest) = passed_from block p rest

-- The line of a block through a part's points, where a flag is true and the part has a segment.
abbrev pub part_if : Bool → ℕ → List Point → List LineValue
part_if is_ended block part =
    if is_ended && nat_le 2 (length part) then record { block = block; points = part } ∷ [] else []

-- The part that goes on to q: the next one begins there where a flag is true.
abbrev pub part_after : Bool → List Point → Point → List Point
part_after is_ended part q = if is_ended then q ∷ [] else part ++ q ∷ []

-- The lines that are left of a line from p on, where some segments were passed, and the part so far
-- ends in p.
abbrev pub parts_from : List PassedSegment → ℕ → (part : List Point) → Point → List Point
    → List LineValue
parts_from passed block part p [] = part_if true block part
parts_from passed block part p (q ∷ rest) = let s = passed_segment block p q in
    part_if (is_passed_in passed s) block part
    ++ parts_from (passed ++ s ∷ []) block (part_after (is_passed_in passed s) part q) q rest

-- The lines that are left of a line, where some segments were passed before.
abbrev pub parts_of : List PassedSegment → ℕ → List Point → List LineValue
parts_of passed block [] = []
parts_of passed block (p ∷ rest) = parts_from passed block (p ∷ []) p rest

-- The lines that are left of lines, where some segments were passed before.
abbrev pub uncopied_after : List PassedSegment → List LineValue → List LineValue
uncopied_after passed [] = []
uncopied_after passed (line ∷ rest) = parts_of passed line.block line.points
    ++ uncopied_after (passed ++ passed_by line.block line.points) rest

-- The number of lines that are left of each line, where some segments were passed before.
abbrev pub counts_after : List PassedSegment → List LineValue → List ℕ
counts_after passed [] = []
counts_after passed (line ∷ rest) = length (parts_of passed line.block line.points)
    ∷ counts_after (passed ++ passed_by line.block line.points) rest

-- The number of lines that become of each line, unless copies are kept: then it is one.
abbrev pub part_counts_of : (keeps_copies : Bool) → List LineValue → List ℕ
part_counts_of keeps_copies lines =
    if keeps_copies then map (λ line. 1) lines else counts_after [] lines

-- Lines without the segments that copy an earlier one of their block.
abbrev pub uncopied_lines : List LineValue → List LineValue
uncopied_lines lines = uncopied_after [] lines
