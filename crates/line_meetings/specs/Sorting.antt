-- A hash map of the parts that are kept while copies are found, by their keys.
use Rattle.std.specs.Prelude.{◌≡◌, List, Option}
use Rattle.drawing_review.specs.declared.segment.LineSegment.{LineSegment}
use Rattle.line_meetings.specs.declared.part_key.PartKey.{PartKey}
use Rattle.line_meetings.specs.Parts.{part_at}

-- A map has the first part with each key.
abbrev pub HasFirsts : List LineSegment → (PartKey → Option LineSegment) → Type 0
HasFirsts kept firsts = (key : PartKey) → firsts key ≡ part_at key kept
