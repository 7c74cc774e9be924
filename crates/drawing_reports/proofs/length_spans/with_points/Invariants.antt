use Rattle.std.proofs.Common.{◌≡◌, length}
use Rattle.drawing_reports.specs.LengthSpans.{span_after}
use Rattle.drawing_reports.proofs.length_spans.with_points.Given as goal

-- the span so far, with the points that are left, is that of all
abbrev pub invariant-loop-rest : goal.invariant-loop-rest
invariant-loop-rest l = span_after l.span l.last l.rest ≡ span_after l.fn.span l.fn.first l.points

abbrev pub decreases-loop-rest : goal.decreases-loop-rest
decreases-loop-rest l = length l.rest
