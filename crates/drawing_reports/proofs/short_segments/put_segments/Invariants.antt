use Rattle.std.proofs.Common.{◌≡◌, ◌++◌, length, filter}
use Rattle.line_sections.specs.Sections.{segments_from}
use Rattle.drawing_reports.specs.Spacings.{is_short_stitch}
use Rattle.drawing_reports.proofs.short_segments.put_segments.Given as goal

-- the short segments so far, and those of the points that are left, are all
abbrev pub invariant-loop-rest : goal.invariant-loop-rest
invariant-loop-rest l = l.short.items ++ filter (is_short_stitch l.step) (segments_from l.from l.rest)
    ≡ l.fn.short.items ++ filter (is_short_stitch l.step) (segments_from l.fn.first l.points)

abbrev pub decreases-loop-rest : goal.decreases-loop-rest
decreases-loop-rest l = length l.rest
