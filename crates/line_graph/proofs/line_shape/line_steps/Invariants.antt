use Rattle.std.proofs.Common.{◌≡◌, ◌+◌, ◌*◌, ◌≤◌, All, length}
use Rattle.line_graph.proofs.DrawingNames.{IsNeedlePoint, HasNoRepeatAfter, steps_of_line, segment_steps}
use Rattle.line_graph.proofs.line_shape.line_steps.Given as goal

-- the steps so far and those that are left are those of the line; the points that are left can be sewn
abbrev pub invariant-loop-rest : goal.invariant-loop-rest
invariant-loop-rest l = record {
  in_range : IsNeedlePoint l.before;
  rest_in_range : All IsNeedlePoint l.rest;
  moving : HasNoRepeatAfter l.before l.rest;
  sum : l.count + segment_steps l.step l.before l.rest ≡ steps_of_line l.step l.points;
  fits : l.count + 60000 * length l.rest ≤ 60000 * 65536;
}

abbrev pub decreases-loop-rest : goal.decreases-loop-rest
decreases-loop-rest l = length l.rest
