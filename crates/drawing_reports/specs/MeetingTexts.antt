-- What `snap` and `cross` print of what was done to lines.
use Rattle.std.specs.Prelude.{ℕ, List, ◌++◌, codes, decimal}
use Rattle.design_model.specs.TextLines.{newline}
use Rattle.met_drawings.specs.declared.meeting_counts.MeetingCounts.{MeetingCounts}

-- How many points moved.
abbrev pub moved_text : MeetingCounts → List ℕ
moved_text counts = codes "moved " ++ decimal counts.moved

-- How many crossings the lines had.
abbrev pub crossings_text : MeetingCounts → List ℕ
crossings_text counts = codes "crossings " ++ decimal counts.crossings

-- How many points were listed, how many segments left out, and how many meetings are left.
abbrev pub meeting_counts_text : MeetingCounts → List ℕ
meeting_counts_text counts = codes " listed " ++ (decimal counts.listed ++ (codes " dropped "
    ++ (decimal counts.dropped ++ (codes " left " ++ (decimal counts.left ++ codes " ")))))

-- How many pieces the drawing has before and after.
abbrev pub piece_change_text : (before after : ℕ) → List ℕ
piece_change_text before after =
    codes "pieces " ++ (decimal before ++ (codes " to " ++ (decimal after ++ newline)))

-- A report on what was done to lines, after what it begins with.
abbrev pub meet_report_after : List ℕ → MeetingCounts → (before after : ℕ) → List ℕ
meet_report_after first counts before after =
    (first ++ meeting_counts_text counts) ++ piece_change_text before after

-- The report of `snap`.
abbrev pub snap_report : MeetingCounts → (before after : ℕ) → List ℕ
snap_report counts before after = meet_report_after (moved_text counts) counts before after

-- The report of `cross`.
abbrev pub cross_report : MeetingCounts → (before after : ℕ) → List ℕ
cross_report counts before after = meet_report_after (crossings_text counts) counts before after
