use Rattle.std.proofs.Common.{◌≡◌, drop, map}
use Rattle.drawing_reports.specs.Spacings.{shortest_from, segment_length}
use Rattle.drawing_reports.proofs.short_segments.least.Given as goal

-- the best length so far, and those that are left
abbrev pub invariant-loop-segment : goal.invariant-loop-segment
invariant-loop-segment l = shortest_from l.best (map segment_length (drop l.segment-index l.rest))
    ≡ shortest_from l.first (map segment_length l.rest)
