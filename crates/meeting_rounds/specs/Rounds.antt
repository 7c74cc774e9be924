-- Rounds: in each, all meetings of the lines are found and acted on. All segments are those of the
-- beginning of the round, and starts and ends move with their points. Lengths are whole tenths of a
-- millimetre.
use Rattle.std.specs.Prelude.{ℕ, zero, suc, Bool, List, length, nat_lt, sum_by, if◌then◌else◌}
use Rattle.line_meetings.specs.Meetings.{meetings_of_lines}
use Rattle.meeting_rounds.specs.declared.acts.Acts.{Acts}
use Rattle.meeting_rounds.specs.declared.rounds.TheConstants.{MAX_ROUNDS, MAX_ROUND_POINTS}
use Rattle.meeting_rounds.specs.declared.rounds.WorkedLines.{WorkedLines}
use Rattle.meeting_rounds.specs.declared.tracked_lines.TrackedLine.{TrackedLine}
use Rattle.meeting_rounds.specs.Acts.{acts_next, no_acts}
use Rattle.meeting_rounds.specs.FilledLines.{filled_lines, places_put}
use Rattle.meeting_rounds.specs.MovedPoints.{lines_moved, spots_moved, tracked_at}
use Rattle.meeting_rounds.specs.TrackedLines.{lines_as_worked}

-- Lines list more points than a drawing may have.
abbrev pub are_too_long : List TrackedLine → Bool
are_too_long lines = nat_lt MAX_ROUND_POINTS (sum_by (λ line. length line.points) lines)

-- What is done on the meetings of lines in a round.
abbrev pub acts_on_lines_of : (lists_crossings : Bool) → ℕ → List TrackedLine → Acts
acts_on_lines_of lists_crossings gap lines = acts_next lists_crossings gap
    (tracked_at lines) lines no_acts
    (meetings_of_lines gap (lines_as_worked lines))

-- What is done in a round: nothing on lines that list too many points, else what their meetings ask
-- for.
abbrev pub round_acts : (lists_crossings : Bool) → ℕ → List TrackedLine → Acts
round_acts lists_crossings gap lines =
    if are_too_long lines then no_acts else acts_on_lines_of lists_crossings gap lines

-- Lines after points were put into their segments and points moved.
abbrev pub lines_after : ℕ → Acts → List TrackedLine → List TrackedLine
lines_after gap acts lines =
    lines_moved gap acts.moves (filled_lines (places_put acts.puts) 0 lines)

-- Lines, starts and ends after the acts of a round.
abbrev pub worked_by : ℕ → Acts → WorkedLines → WorkedLines
worked_by gap acts worked = record {
  lines = lines_after gap acts worked.lines;
  starts = spots_moved acts.moves worked.starts;
  ends = spots_moved acts.moves worked.ends;
}

-- Lines, starts and ends after a number of rounds, or after the first one in which nothing is done.
abbrev pub after_rounds : (rounds : ℕ) → (lists_crossings : Bool) → (gap : ℕ) → WorkedLines
    → WorkedLines
after_rounds zero lists_crossings gap worked = worked
after_rounds (suc n) lists_crossings gap worked =
    let acts = round_acts lists_crossings gap worked.lines in
    if acts.is_idle then worked else after_rounds n lists_crossings gap (worked_by gap acts worked)

-- Lines, starts and ends after as many rounds as there may be.
unfoldable pub settled_lines : (lists_crossings : Bool) → (gap : ℕ) → WorkedLines → WorkedLines
settled_lines lists_crossings gap worked = after_rounds MAX_ROUNDS lists_crossings gap worked
