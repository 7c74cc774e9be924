use Rattle.std.proofs.Common.{◌≡◌, ◌++◌, length}
use Rattle.drawing_reports.specs.PlaceTexts.{meeting_lines}
use Rattle.drawing_reports.proofs.place_texts.put_meetings.Given as goal

-- the lines so far, and those of the meetings that are left
abbrev pub invariant-loop-rest : goal.invariant-loop-rest
invariant-loop-rest l = l.text ++ meeting_lines l.rest ≡ l.fn.text ++ meeting_lines l.meetings

abbrev pub decreases-loop-rest : goal.decreases-loop-rest
decreases-loop-rest l = length l.rest
