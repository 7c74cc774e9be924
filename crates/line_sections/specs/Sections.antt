-- Sections of lines. A line is cut at each shared point inside it, which is a point that its block
-- lists more than once. A section is a part of a line between two cuts or ends.
use Rattle.std.specs.Prelude.{◌≡◌, ℕ, ◌==◌, ◌≤◌, Bool, true, false, not, ◌&&◌, nat_le, List, [], ◌∷◌, length, map, filter, All, if◌then◌else◌}
use Rattle.std.specs.List.{count_by, flat_map, list_all, list_any}
use Rattle.design_model.specs.declared.point.Point.{Point}
use Rattle.design_model.specs.Points.{is_same_point}
use Rattle.line_sections.specs.Lines.{LineValue}

-- The points that a block lists: those of its lines in order.
abbrev pub listed_in : List LineValue → ℕ → List Point
listed_in lines block = flat_map (λ line. line.points) (filter (λ line. line.block == block) lines)

-- A point is shared: the block lists it more than once.
abbrev pub is_shared_point : List LineValue → ℕ → Point → Bool
is_shared_point lines block p = nat_le 2 (count_by (is_same_point p) (listed_in lines block))

-- A list has a point.
abbrev pub has_points : List Point → Bool
has_points [] = false
has_points (p ∷ rest) = true

-- A list without its last point.
abbrev pub but_last : List Point → List Point
but_last [] = []
but_last (p ∷ rest) = if has_points rest then p ∷ but_last rest else []

-- The points inside a line: all but the first and the last.
abbrev pub inner_points : List Point → List Point
inner_points [] = []
inner_points (p ∷ rest) = but_last rest

-- A line is whole: no point inside it is shared, and so it isn't cut.
abbrev pub is_whole_line : List LineValue → LineValue → Bool
is_whole_line lines line = not (list_any (is_shared_point lines line.block)
    (inner_points line.points))

-- All lines are whole, and so they meet only at their ends.
abbrev pub are_whole_lines : List LineValue → Bool
are_whole_lines lines = list_all (is_whole_line lines) lines

-- The sections with one more point at the start of the first one.
abbrev pub sections_with_first : Point → List (List Point) → List (List Point)
sections_with_first p [] = (p ∷ []) ∷ []
sections_with_first p (section ∷ rest) = (p ∷ section) ∷ rest

-- The sections of the points p and those after it. A line is cut at each point inside it for which
-- the test holds.
abbrev pub sections_from : (Point → Bool) → Point → List Point → List (List Point)
sections_from is_cut p [] = (p ∷ []) ∷ []
sections_from is_cut p (q ∷ rest) =
    let behind = sections_from is_cut q rest in
    if has_points rest && is_cut q then (p ∷ q ∷ []) ∷ behind else sections_with_first p behind

-- The sections of a line in order. A point where the line is cut ends one section and starts the
-- next.
abbrev pub sections_of : (Point → Bool) → List Point → List (List Point)
sections_of is_cut [] = []
sections_of is_cut (p ∷ rest) = sections_from is_cut p rest

-- Lines of a block through the given lists of points.
abbrev pub lines_through : ℕ → List (List Point) → List LineValue
lines_through block sections = map (λ points. record { block = block; points = points }) sections

-- The sections of a line of a drawing, cut at the shared points inside it.
abbrev pub line_sections : List LineValue → LineValue → List LineValue
line_sections lines line =
    lines_through line.block (sections_of (is_shared_point lines line.block) line.points)

-- The sections of all lines, in the order of the lines.
abbrev pub all_sections : List LineValue → List LineValue
all_sections lines = flat_map (line_sections lines) lines

-- The segments from p through the given points, each by its two endpoints.
abbrev pub segments_from : Point → List Point → List (Point × Point)
segments_from p [] = []
segments_from p (q ∷ rest) = (p, q) ∷ segments_from q rest

-- The segments of a line in order, each by its two endpoints.
abbrev pub segments_of : List Point → List (Point × Point)
segments_of [] = []
segments_of (p ∷ rest) = segments_from p rest

-- The sections of a line together have the segments of the line, each once and in order, wherever
-- it is cut.
abbrev pub SectionsKeepSegments : Type 0
SectionsKeepSegments = (is_cut : Point → Bool) (points : List Point)
    → flat_map segments_of (sections_of is_cut points) ≡ segments_of points

-- Each section of a line has a segment, if the line has one.
abbrev pub SectionsHaveSegments : Type 0
SectionsHaveSegments = (is_cut : Point → Bool) (points : List Point) → 2 ≤ length points
    → All (λ section. 2 ≤ length section) (sections_of is_cut points)

-- The sections of whole lines are these lines, if each line has a point.
abbrev pub WholeLinesStay : Type 0
WholeLinesStay = (lines : List LineValue) → All (λ line. 1 ≤ length line.points) lines
    → are_whole_lines lines ≡ true → all_sections lines ≡ lines

-- The sections of lines are whole: they meet only at their ends.
abbrev pub SectionsAreWhole : Type 0
SectionsAreWhole = (lines : List LineValue) → are_whole_lines (all_sections lines) ≡ true
