use Rattle.std.proofs.Common.{◌+◌, ◌≡◌, ◌≤◌, drop, length}
use Rattle.drawing_picture.specs.PlaceMarks.{count_of_mark}
use Rattle.drawing_picture.proofs.place_marks.count_marks.Given as goal

-- the meetings of the mark so far with those that are left are all, and no more than there are meetings
abbrev pub invariant-loop-meeting : goal.invariant-loop-meeting
invariant-loop-meeting l = record {
  few : l.count + length (drop l.meeting-index l.meetings) ≤ length l.meetings;
  sum : l.count + count_of_mark l.number (drop l.meeting-index l.meetings) ≡ count_of_mark l.number l.meetings;
}
