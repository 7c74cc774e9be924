-- Parts of lines: the points that a line lists, and its segments. A part is held as a segment,
-- whose ends are in the order of their ranks; the two ends of a point are that point. The number
-- of a part is its index in its line. Indexes count from 0.
use Rattle.std.specs.Prelude.{ℕ, ◌+◌, ◌*◌, ◌==◌, Bool, false, not, ◌&&◌, ◌||◌, nat_lt, List, [], ◌∷◌, ◌++◌, Option, Some, None, filter, if◌then◌else◌}
use Rattle.design_model.specs.declared.point.Point.{Point}
use Rattle.line_sections.specs.Lines.{LineValue}
use Rattle.line_sections.specs.Sections.{has_points}
use Rattle.drawing_review.specs.declared.grid_point.GridPoint.{GridPoint}
use Rattle.drawing_review.specs.declared.segment.Position.{Position}
use Rattle.drawing_review.specs.declared.segment.LineSegment.{LineSegment}
use Rattle.drawing_review.specs.Frames.{grid_point}
use Rattle.drawing_review.specs.Segments.{drawn_segment}
use Rattle.line_meetings.specs.declared.part_key.PartKey.{PartKey}

-- The rank of a point: points are ordered from the top down, and from the left in one row. Along a
-- straight line ranks only grow, or only fall.
abbrev pub rank_of : GridPoint → ℕ
rank_of p = 65536 * p.y + p.x

-- The segment between two points of a line, from the one of the lesser rank.
abbrev pub segment_part : Position → Point → Point → LineSegment
segment_part at p q =
    if nat_lt (rank_of (grid_point q)) (rank_of (grid_point p)) then drawn_segment at q p
    else drawn_segment at p q

-- The segments of a line from the point p on, where the next one has the given index.
abbrev pub segments_after : (block line index : ℕ) → Point → List Point → List LineSegment
segments_after block line index p [] = []
segments_after block line index p (q ∷ rest) = segment_part (record {
  block = block;
  line = line;
  number = index;
  is_first = false;
  is_last = false;
}) p q ∷ segments_after block line (index + 1) q rest

-- The segments of a line with the given index.
abbrev pub segment_parts : ℕ → LineValue → List Point → List LineSegment
segment_parts line value [] = []
segment_parts line value (p ∷ rest) = segments_after value.block line 0 p rest

-- The points of a line from the given index on.
abbrev pub points_after : (block line index : ℕ) → List Point → List LineSegment
points_after block line index [] = []
points_after block line index (p ∷ rest) = drawn_segment (record {
  block = block;
  line = line;
  number = index;
  is_first = index == 0;
  is_last = not (has_points rest);
}) p p ∷ points_after block line (index + 1) rest

-- The parts of lines, each by its index, from the given one on.
abbrev pub parts_of_lines : (ℕ → LineValue → List LineSegment) → ℕ → List LineValue
    → List LineSegment
parts_of_lines parts line [] = []
parts_of_lines parts line (value ∷ rest) =
    parts line value ++ parts_of_lines parts (line + 1) rest

-- The segments of all lines, in the order of the lines and along each.
abbrev pub all_segments : List LineValue → List LineSegment
all_segments lines = parts_of_lines (λ line value. segment_parts line value value.points) 0 lines

-- The points of all lines, in the order of the lines and along each.
abbrev pub all_points : List LineValue → List LineSegment
all_points lines =
    parts_of_lines (λ line value. points_after value.block line 0 value.points) 0 lines

-- A part is an end of its line.
abbrev pub is_line_end : LineSegment → Bool
is_line_end s = s.is_first || s.is_last

-- Points with the ends of lines before the others. So a point that is an end of some line is told
-- of as that end.
abbrev pub ends_first : List LineSegment → List LineSegment
ends_first points = filter is_line_end points ++ filter (λ s. not (is_line_end s)) points

-- The key of a part: its block, and the ranks of its ends, which determine them.
abbrev pub key_of : LineSegment → PartKey
key_of s = record { block = s.block; a = rank_of s.a; b = rank_of s.b }

-- Two keys are equal.
abbrev pub is_same_key : PartKey → PartKey → Bool
is_same_key k l = k.block == l.block && (k.a == l.a && k.b == l.b)

-- The first part with a key, if there is one.
abbrev pub part_at : PartKey → List LineSegment → Option LineSegment
part_at key [] = None
part_at key (t ∷ rest) = if is_same_key key (key_of t) then Some t else part_at key rest

-- Parts kept, and a part after them, unless it copies one of them.
abbrev pub kept_with : List LineSegment → LineSegment → Option LineSegment → List LineSegment
kept_with kept s None = kept ++ s ∷ []
kept_with kept s (Some t) = kept

-- Parts without those that copy an earlier one, after those kept.
abbrev pub firsts_after : List LineSegment → List LineSegment → List LineSegment
firsts_after kept [] = kept
firsts_after kept (s ∷ rest) = firsts_after (kept_with kept s (part_at (key_of s) kept)) rest

-- The places of a block's lines: each point and each segment once, where it is first. Whatever is
-- listed or drawn again is in one place.
abbrev pub firsts_of : List LineSegment → List LineSegment
firsts_of parts = firsts_after [] parts
