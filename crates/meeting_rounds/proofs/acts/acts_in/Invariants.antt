use Rattle.std.proofs.Common.{◌≡◌, length}
use Rattle.std.specs.HashMap.{get}
use Rattle.line_sections.specs.Spots.{is_same_spot}
use Rattle.meeting_rounds.specs.Acts.{acts_next, no_acts}
use Rattle.meeting_rounds.specs.PlacedPoints.{points_at_spot}
use Rattle.meeting_rounds.proofs.acts.acts_in.Given as goal

-- the acts so far, and those on the meetings that are left, are all
abbrev pub invariant-loop-rest : goal.invariant-loop-rest
invariant-loop-rest l =
    acts_next l.lists_crossings l.gap (points_at_spot (get is_same_spot l.placed)) l.lines l.acts l.rest
    ≡ acts_next l.lists_crossings l.gap (points_at_spot (get is_same_spot l.placed)) l.lines no_acts l.meetings

abbrev pub decreases-loop-rest : goal.decreases-loop-rest
decreases-loop-rest l = length l.rest
