use Rattle.std.proofs.Common.{◌≡◌, ◌++◌, length}
use Rattle.meeting_rounds.specs.TrackedLines.{tracked_from}
use Rattle.meeting_rounds.proofs.tracked_lines.tracked_after.Given as goal

-- the points so far, and those that are left
abbrev pub invariant-loop-rest : goal.invariant-loop-rest
invariant-loop-rest l = l.tracked ++ tracked_from l.from l.rest ≡ tracked_from l.fn.first l.after

abbrev pub decreases-loop-rest : goal.decreases-loop-rest
decreases-loop-rest l = length l.rest
