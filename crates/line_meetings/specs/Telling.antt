-- Meetings are told up to one above a limit: whatever else is found is left out.
use Rattle.std.specs.Prelude.{◌≡◌, ◌+◌, List, ◌++◌, take}
use Rattle.line_meetings.specs.declared.meeting.Meeting.{Meeting}
use Rattle.line_meetings.specs.declared.meeting.TheConstants.{MAX_MEETINGS}

-- The meetings that are told: all of them, or the first ones up to one above the limit.
unfoldable pub told : List Meeting → List Meeting
told meetings = take (MAX_MEETINGS + 1) meetings

-- Whatever comes after them, old meetings with more of them tell the same as new ones.
abbrev pub TellsUpTo : (more old new : List Meeting) → Type 0
TellsUpTo more old new = (rest : List Meeting) → told (new ++ rest) ≡ told (old ++ (more ++ rest))
