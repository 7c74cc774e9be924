use Rattle.std.proofs.Common.{◌≡◌, ◌++◌, ◌+◌, length}
use Rattle.line_meetings.proofs.Names.{segments_after}
use Rattle.line_meetings.proofs.parts.put_segments_after.Given as goal

-- the segments so far, and those of the points that are left, are all
abbrev pub invariant-loop-rest : goal.invariant-loop-rest
invariant-loop-rest l = record {
  counted : l.number + length l.rest ≡ length l.points;
  all : l.parts.items ++ segments_after l.block l.line l.number l.from l.rest
      ≡ l.fn.parts.items ++ segments_after l.block l.line 0 l.fn.first l.points;
}

abbrev pub decreases-loop-rest : goal.decreases-loop-rest
decreases-loop-rest l = length l.rest
