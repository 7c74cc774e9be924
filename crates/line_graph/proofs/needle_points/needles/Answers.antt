use Rattle.std.proofs.Common.{◌≡◌, rules}
use Rattle.line_graph.proofs.DrawingNames.{points_of, LeadAlong, needles_of_line}
use Rattle.line_graph.proofs.NeedleLemmas.{needles_sound}
use Rattle.line_graph.proofs.needle_points.needles.Goals as goal

pub returns-clause-sound : goal.returns-clause-sound
returns-clause-sound c =
    let is : c.in_ok-points.points ≡ needles_of_line c.args.d.now c.args.line = search rules in
    let along : LeadAlong c.args.d.now.step (points_of c.args.d.now c.args.line) c.in_ok-points.points =
    rw (← c.step-step.ensures.value, ← c.line_points.ensures) c.in_ok-points.ensures.along in
    needles_sound c.args.d.now c.args.line c.in_ok-points.points c.requires.there c.step-step.ensures.limits is along
