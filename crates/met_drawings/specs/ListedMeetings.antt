-- Lines that list their meetings. Lengths are whole tenths of a millimetre, and indexes count from
-- 0.
use Rattle.std.specs.Prelude.{ℕ, ◌+◌, Bool, nat_lt, List, [], ◌∷◌, length, Option, Some, None, if◌then◌else◌}
use Rattle.line_sections.specs.declared.spot.Spot.{Spot}
use Rattle.line_sections.specs.Lines.{LineValue}
use Rattle.meeting_rounds.specs.declared.rounds.WorkedLines.{WorkedLines}
use Rattle.meeting_rounds.specs.Rounds.{settled_lines}
use Rattle.meeting_rounds.specs.TrackedLines.{tracked_lines}
use Rattle.met_drawings.specs.Copies.{uncopied_lines}
use Rattle.met_drawings.specs.declared.listed_meetings.MeetingRule.{MeetingRule}
use Rattle.met_drawings.specs.declared.meet_fault.VanishedLine.{VanishedLine}

-- Lines as they are drawn, with starts and ends, after all rounds.
abbrev pub settled_by : MeetingRule → List LineValue → (starts ends : List Spot) → WorkedLines
settled_by rule lines starts ends = settled_lines rule.lists_crossings rule.gap
    (record { lines = tracked_lines lines; starts = starts; ends = ends })

-- Lines without the segments that copy an earlier one, unless copies are kept.
abbrev pub unless_kept : (keeps_copies : Bool) → List LineValue → List LineValue
unless_kept keeps_copies lines = if keeps_copies then lines else uncopied_lines lines

-- The first of lines with fewer than 2 points, where the first one has the given index.
abbrev pub vanished_after : ℕ → List LineValue → Option VanishedLine
vanished_after index [] = None
vanished_after index (line ∷ rest) =
    if nat_lt (length line.points) 2 then Some (record { block = line.block; line = index })
    else vanished_after (index + 1) rest
