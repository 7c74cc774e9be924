use Rattle.std.proofs.Common.{arith}
use Rattle.line_graph.proofs.DrawingLemmas.{last_is}
use Rattle.line_graph.proofs.drawn_lines.line_ends.Goals as goal

pub returns-clause-last : goal.returns-clause-last
returns-clause-last c =
    rw (← c.points_to_sew-points.ensures.value)
    (last_is c.points_to_sew-points.result.now _ (omega (arith, c.points_to_sew-points.ensures.line.long)))
