use Rattle.std.proofs.Common.{◌≡◌, length}
use Rattle.drawing_reports.specs.LengthSpans.{span_along, span_of}
use Rattle.drawing_reports.proofs.length_spans.length_span.Given as goal

-- the span so far, with the lines that are left, is that of all
abbrev pub invariant-loop-rest : goal.invariant-loop-rest
invariant-loop-rest l = span_along l.span l.rest ≡ span_of l.lines

abbrev pub decreases-loop-rest : goal.decreases-loop-rest
decreases-loop-rest l = length l.rest
