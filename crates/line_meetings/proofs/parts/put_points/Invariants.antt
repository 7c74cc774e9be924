use Rattle.std.proofs.Common.{◌≡◌, ◌++◌, ◌+◌, length}
use Rattle.line_meetings.proofs.Names.{points_after}
use Rattle.line_meetings.proofs.parts.put_points.Given as goal

-- the points so far, and those that are left, are all
abbrev pub invariant-loop-rest : goal.invariant-loop-rest
invariant-loop-rest l = record {
  counted : l.number + length l.rest ≡ length l.points;
  all : l.parts.items ++ points_after l.block l.line l.number l.rest ≡ l.fn.parts.items ++ points_after l.block l.line 0 l.points;
}

abbrev pub decreases-loop-rest : goal.decreases-loop-rest
decreases-loop-rest l = length l.rest
