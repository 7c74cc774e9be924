use Rattle.std.proofs.Common.{◌≡◌, ◌++◌, drop, map}
use Rattle.line_meetings.specs.Meetings.{point_beside}
use Rattle.line_meetings.proofs.finding.put_passed.Given as goal

-- the meetings so far, and those of the segments that are left, are all
abbrev pub invariant-loop-t : goal.invariant-loop-t
invariant-loop-t l = l.found ++ map (point_beside l.gap l.p) (drop l.t-index l.passed) ≡ l.fn.found ++ map (point_beside l.gap l.p) l.passed
