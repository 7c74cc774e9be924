use Rattle.std.proofs.Common.{List, ◌++◌, filter, map, not, ap, ◌∙◌}
use Rattle.line_meetings.specs.Joints.{are_joined}
use Rattle.line_meetings.specs.Meetings.{close_points}
use Rattle.line_meetings.proofs.Names.{LineSegment}
use Rattle.line_meetings.proofs.finding.put_close.Goals as goal

pub returns-clause-found : goal.returns-clause-found
returns-clause-found c =
    c.in_ok-put_unjoined.ensures.found
    ∙ ap (λ (close : List LineSegment). c.args.found.now ++ map (close_points c.args.p.now)
    (filter (λ q. not (are_joined c.args.gap c.args.tree.now c.args.p.now q)) close))
    (c.as_slice.ensures.value ∙ c.in_ok-close.ensures)
