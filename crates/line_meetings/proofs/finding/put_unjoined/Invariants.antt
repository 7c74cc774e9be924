use Rattle.std.proofs.Common.{◌≡◌, ◌++◌, drop, filter, map, not}
use Rattle.std.specs.HashMap.{get}
use Rattle.line_meetings.specs.Joints.{are_joined}
use Rattle.line_meetings.specs.KnownPoints.{AreKnown, is_same_point_key}
use Rattle.line_meetings.specs.Meetings.{close_points}
use Rattle.line_meetings.proofs.finding.put_unjoined.Given as goal

-- the meetings so far, and those of the points that are left, are all
abbrev pub invariant-loop-q : goal.invariant-loop-q
invariant-loop-q l = record {
  known : AreKnown l.gap l.tree (get is_same_point_key l.known);
  found : l.found ++ map (close_points l.p) (filter (λ q. not (are_joined l.gap l.tree l.p q)) (drop l.q-index l.close))
      ≡ l.fn.found ++ map (close_points l.p) (filter (λ q. not (are_joined l.gap l.tree l.p q)) l.close);
}
