use Rattle.std.proofs.Common.{◌≡◌, ◌++◌, drop, map}
use Rattle.line_meetings.specs.Meetings.{touch}
use Rattle.line_meetings.proofs.finding.put_touched.Given as goal

-- the meetings so far, and those of the segments that are left, are all
abbrev pub invariant-loop-t : goal.invariant-loop-t
invariant-loop-t l = l.found ++ map (touch l.s) (drop l.t-index l.touched) ≡ l.fn.found ++ map (touch l.s) l.touched
