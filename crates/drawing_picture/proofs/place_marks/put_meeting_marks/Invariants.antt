use Rattle.std.proofs.Common.{◌≡◌, ◌++◌, drop}
use Rattle.drawing_picture.proofs.Names.{flat_map}
use Rattle.drawing_picture.specs.PlaceMarks.{meeting_mark}
use Rattle.drawing_picture.proofs.place_marks.put_meeting_marks.Given as goal

-- the marks so far, and those of the meetings that are left
abbrev pub invariant-loop-meeting : goal.invariant-loop-meeting
invariant-loop-meeting l =
    l.text ++ flat_map meeting_mark (drop l.meeting-index l.meetings) ≡ l.fn.text ++ flat_map meeting_mark l.meetings
