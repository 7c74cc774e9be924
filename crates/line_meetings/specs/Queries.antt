-- Questions about all points or segments of a drawing. What matches lies within the bounds of the
-- question: a test of these comes before each other one.
use Rattle.std.specs.Prelude.{ℕ, ◌==◌, Bool, not, ◌&&◌, ◌||◌, nat_lt, if◌then◌else◌}
use Rattle.drawing_review.specs.declared.segment.LineSegment.{LineSegment}
use Rattle.drawing_review.specs.Meetings.{cross_inside}
use Rattle.line_meetings.specs.declared.bounds.Bounds.{Bounds}
use Rattle.line_meetings.specs.declared.query.Query.{Query}
use Rattle.line_meetings.specs.declared.query.Query.TheVariants as query
use Rattle.line_meetings.specs.Bounds.{are_bounds_apart, bounds_around, bounds_of}
use Rattle.line_meetings.specs.Parts.{is_line_end}
use Rattle.line_meetings.specs.Touches.{are_close, do_overlap, is_beside}

-- The part s comes before t: lines in their order, and along each.
abbrev pub is_earlier : LineSegment → LineSegment → Bool
is_earlier s t = nat_lt s.line t.line || (s.line == t.line && nat_lt s.number t.number)

-- The point p comes before q, where ends of lines come before the other points.
abbrev pub is_earlier_point : LineSegment → LineSegment → Bool
is_earlier_point p q =
    if is_line_end p then not (is_line_end q) || is_earlier p q
    else not (is_line_end q) && is_earlier p q

-- The bounds of a question, outside of which no part matches.
abbrev pub query_bounds : Query → Bounds
query_bounds (query.Close gap point) = bounds_around gap point.a
query_bounds (query.Around gap point) = bounds_around gap point.a
query_bounds (query.Beside gap point) = bounds_around gap point.a
query_bounds (query.Touching s) = bounds_of s

-- The block of a question.
abbrev pub query_block : Query → ℕ
query_block (query.Close gap point) = point.block
query_block (query.Around gap point) = point.block
query_block (query.Beside gap point) = point.block
query_block (query.Touching s) = s.block

-- What a question asks of a part of its block within its bounds: a later point within the gap of a
-- point, a segment whose ends are within the gap of a point, a segment that a point lies beside,
-- and a later segment that crosses a segment inside both, or shares more than a point with it.
abbrev pub is_asked : Query → LineSegment → Bool
is_asked (query.Close gap point) t = are_close gap point.a t.a && is_earlier_point point t
is_asked (query.Around gap point) t = are_close gap point.a t.a && are_close gap point.a t.b
is_asked (query.Beside gap point) t = is_beside gap point.a t
is_asked (query.Touching s) t = is_earlier s t && (cross_inside s t || do_overlap s t)

-- The parts that a question is about.
abbrev pub answers_query : Query → LineSegment → Bool
answers_query q t = not (are_bounds_apart (query_bounds q) (bounds_of t))
    && (t.block == query_block q && is_asked q t)

-- A later point of the block is within the gap of a point.
abbrev pub is_close_point : ℕ → LineSegment → LineSegment → Bool
is_close_point gap p = answers_query (query.Close gap p)

-- Both ends of a segment are within the gap of a point of its block.
abbrev pub is_around : ℕ → LineSegment → LineSegment → Bool
is_around gap p = answers_query (query.Around gap p)

-- A point lies beside a segment of its block.
abbrev pub is_passed : ℕ → LineSegment → LineSegment → Bool
is_passed gap p = answers_query (query.Beside gap p)

-- A later segment of the block crosses the segment s inside both, or shares more than a point with
-- it.
abbrev pub touches_later : LineSegment → LineSegment → Bool
touches_later s = answers_query (query.Touching s)
