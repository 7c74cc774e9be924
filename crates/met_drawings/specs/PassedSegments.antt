-- Segments of blocks, each with its ends in the order in which a line passes it.
use Rattle.std.specs.Prelude.{◌==◌, Bool, ◌&&◌, ◌||◌, List}
use Rattle.std.specs.List.{list_any}
use Rattle.design_model.specs.Points.{is_same_point}
use Rattle.met_drawings.specs.declared.passed_segments.PassedSegment.{PassedSegment}

-- Two segments are the same, in the same direction.
abbrev pub is_same_passed : PassedSegment → PassedSegment → Bool
is_same_passed s t =
    s.block == t.block && (is_same_point s.from t.from && is_same_point s.to t.to)

-- A segment in the other direction.
abbrev pub turned_segment : PassedSegment → PassedSegment
turned_segment s = record { block = s.block; from = s.to; to = s.from }

-- A segment is among some, in either direction.
abbrev pub is_passed_in : List PassedSegment → PassedSegment → Bool
is_passed_in passed s =
    list_any (is_same_passed s) passed || list_any (is_same_passed (turned_segment s)) passed
