use Rattle.std.proofs.Common.{◌≡◌, ◌-◌, ◌≤◌}
use Rattle.line_meetings.proofs.Names.{least_near}
use Rattle.line_meetings.proofs.touches.distance_to.Given as goal

-- no distance so far comes near, and the result depends on those that are left
abbrev pub invariant-loop-distance : goal.invariant-loop-distance
invariant-loop-distance l = record {
  within : l.distance ≤ l.gap;
  left : least_near (l.gap - l.distance) l.distance l.p l.t ≡ least_near l.gap 0 l.p l.t;
}

abbrev pub decreases-loop-distance : goal.decreases-loop-distance
decreases-loop-distance l = l.gap - l.distance
