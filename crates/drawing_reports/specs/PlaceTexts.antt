-- The lines of `look` for places: where lines of a block should meet, and lines with short
-- stitches. Blocks and lines are numbered from 1. Lengths are in tenths of a millimetre, rounded
-- down.
use Rattle.std.specs.Prelude.{ℕ, ◌+◌, ◌/◌, ◌==◌, Bool, nat_lt, List, [], ◌∷◌, ◌++◌, codes, decimal, length, take, if◌then◌else◌}
use Rattle.std.specs.Fmt.{signed_decimal}
use Rattle.design_model.specs.declared.point.Point.{Point}
use Rattle.design_model.specs.TextLines.{newline}
use Rattle.line_meetings.specs.declared.meeting.Meeting.{Meeting}
use Rattle.line_meetings.specs.declared.meeting.MeetingKind.{MeetingKind}
use Rattle.line_meetings.specs.declared.meeting.MeetingKind.TheVariants as meeting
use Rattle.line_meetings.specs.declared.meeting.TheConstants.{MAX_MEETINGS}
use Rattle.drawing_reports.specs.declared.spacing.Spacing.{Spacing}

-- A line, by its block and its number.
abbrev pub line_title : (block line : ℕ) → List ℕ
line_title block line =
    codes "block " ++ (decimal (block + 1) ++ (codes " line " ++ decimal (line + 1)))

-- The other line of a meeting, where both are to be named first.
abbrev pub and_line : ℕ → List ℕ
and_line line = codes " and line " ++ decimal (line + 1)

-- The point of a meeting.
abbrev pub at_point : Point → List ℕ
at_point p = codes " at " ++ (signed_decimal p.x ++
    (codes " " ++ (signed_decimal p.y ++ codes ": ")))

-- The name of a point that nearly meets a line: an end of its line, or a point inside.
abbrev pub near_name : Bool → List ℕ
near_name is_end = if is_end then codes "loose end" else codes "near point"

-- A point that nearly meets a line: what it is, and how far away.
abbrev pub apart_text : Meeting → List ℕ
apart_text m = near_name m.is_end ++ (codes ", " ++ (decimal m.distance
    ++ (codes " from line " ++ (decimal (m.other + 1) ++ newline))))

-- What two lines share, from point to point.
abbrev pub shared_text : (from to : Point) → List ℕ
shared_text from to = codes "overlap from " ++ (signed_decimal from.x ++ (codes " "
    ++ (signed_decimal from.y ++ (codes " to " ++ (signed_decimal to.x ++ (codes " "
    ++ (signed_decimal to.y ++ newline)))))))

-- What a meeting is: after its line where the two are apart, and else after both lines.
abbrev pub meeting_text : Meeting → MeetingKind → List ℕ
meeting_text m meeting.ClosePoints = at_point m.from ++ apart_text m
meeting_text m meeting.BesideSegment = at_point m.from ++ apart_text m
meeting_text m meeting.OnSegment =
    and_line m.other ++ (at_point m.from ++ (codes "unlisted meeting" ++ newline))
meeting_text m meeting.Crossing =
    and_line m.other ++ (at_point m.from ++ (codes "crossing" ++ newline))
meeting_text m meeting.Overlap =
    and_line m.other ++ (at_point m.from ++ shared_text m.from m.to)
meeting_text m meeting.Repeat =
    and_line m.other ++ (at_point m.from ++ (codes "repeated segment" ++ newline))

-- The line of a meeting.
abbrev pub meeting_line : Meeting → List ℕ
meeting_line m = line_title m.block m.line ++ meeting_text m m.kind

-- The lines of meetings.
abbrev pub meeting_lines : List Meeting → List ℕ
meeting_lines [] = []
meeting_lines (m ∷ rest) = meeting_line m ++ meeting_lines rest

-- The meetings that are named: at most as many as the limit.
unfoldable pub named_meetings : List Meeting → List Meeting
named_meetings meetings = take MAX_MEETINGS meetings

-- The line after meetings of which not all are named.
abbrev pub limit_line : Bool → List ℕ
limit_line is_more = if is_more then codes "more than 65536 places: the first are named"
    ++ newline else []

-- One stitch, or more of them.
abbrev pub stitch_noun : ℕ → List ℕ
stitch_noun n = if n == 1 then codes "stitch" else codes "stitches"

-- A length in tenths of a millimetre, rounded down, of one in thousandths.
abbrev pub tenths_text : ℕ → List ℕ
tenths_text length = decimal (length / 100)

-- Where the first short stitch of a line begins.
abbrev pub spacing_point_text : Point → List ℕ
spacing_point_text p = codes " shorter than half a step, the first at " ++ (signed_decimal p.x
    ++ (codes " " ++ signed_decimal p.y))

-- The lengths of a line's shortest stitch and of the longest one of those.
abbrev pub spacing_lengths_text : (shortest longest : ℕ) → List ℕ
spacing_lengths_text shortest longest = codes ", shortest " ++ (tenths_text shortest
    ++ (codes ", longest " ++ (tenths_text longest ++ newline)))

-- The line of a line's short stitches.
abbrev pub spacing_line : Spacing → List ℕ
spacing_line s = line_title s.block s.line ++ (codes ": " ++ (decimal s.stitches ++ (codes " "
    ++ (stitch_noun s.stitches ++ (spacing_point_text s.first
    ++ spacing_lengths_text s.shortest s.longest)))))

-- The lines of lines' short stitches.
abbrev pub spacing_lines : List Spacing → List ℕ
spacing_lines [] = []
spacing_lines (s ∷ rest) = spacing_line s ++ spacing_lines rest

-- The number of places that a report names.
abbrev pub place_count : List Meeting → List Spacing → ℕ
place_count meetings spacings = length (named_meetings meetings) + length spacings

-- The lines of places: of meetings, and of lines with short stitches.
abbrev pub place_lines : List Meeting → List Spacing → List ℕ
place_lines meetings spacings = meeting_lines (named_meetings meetings)
    ++ (limit_line (nat_lt MAX_MEETINGS (length meetings)) ++ spacing_lines spacings)
