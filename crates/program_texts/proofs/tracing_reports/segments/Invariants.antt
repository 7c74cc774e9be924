use Rattle.std.proofs.Common.{◌≡◌, ◌≤◌, ◌+◌, drop, length, sum_by}
use Rattle.line_sections.specs.Lines.{LineValue}
use Rattle.line_sections.specs.Sections.{segments_of}
use Rattle.line_graph.specs.GrowingDrawings.{point_count}
use Rattle.program_texts.specs.TracingReports.{segment_count}
use Rattle.program_texts.proofs.tracing_reports.segments.Given as goal

-- the segments so far, and those of the lines that are left
abbrev pub invariant-loop-line : goal.invariant-loop-line
invariant-loop-line l = record {
  all : l.count + sum_by (λ (line : LineValue). length (segments_of line.points)) (drop l.line-index l.line-items)
      ≡ segment_count l.drawing;
  few : l.count + point_count (drop l.line-index l.line-items) ≤ 65536;
}
